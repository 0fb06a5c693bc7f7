-- Bit i of a word that is xored with itself m places up has the parity of twice as many bits up to place i; after six doublings that is
-- all of them. Assumes nothing.
use Rattle.std.proofs.Common.{◌≡◌, ℕ, zero, suc, ◌+◌, ◌*◌, ◌%◌, ◌^◌, ◌<◌, Bool, false, sym, refl, ap, ◌∙◌, ap₂, suc-add, zero-add, arith}
use mathlib.Core.Bool.{xor}
use lib.Bits.{bit_xor}
use Rattle.bits.specs.Bits.{bit}
use Rattle.bits.specs.Laws.{bit_xor_lem, bit_shl, shifted, shifted_same}
use Rattle.bits.specs.Truth.{truth, xor_false, false_xor}
use Rattle.blocks.specs.Parts.{parity}

-- the parity of f at the n places up to and with i
window : ℕ → (ℕ → Bool) → ℕ → Bool
window zero f i = false
window (suc n) f zero = f zero
window (suc n) f (suc i) = xor (f (suc i)) (window n f i)

xor_assoc : (a b c : Bool) → xor (xor a b) c ≡ xor a (xor b c)
unfolding xor
xor_assoc = truth 3 _ _ tt

window_add : (m n : ℕ) (f : ℕ → Bool) (i : ℕ) → xor (window m f i) (shifted m (window n f) i) ≡ window (m + n) f i
unfolding window shifted
window_add zero n f i = false_xor (window n f i) ∙ ap (λ (x : ℕ). window x f i) (sym (zero-add n))
window_add (suc m) n f zero = xor_false (f 0) ∙ ap (λ (x : ℕ). window x f 0) (sym (suc-add m n))
window_add (suc m) n f (suc i) =
    xor_assoc (f (suc i)) (window m f i) (shifted m (window n f) i) ∙ ap (xor (f (suc i))) (window_add m n f i)
    ∙ ap (λ (x : ℕ). window x f (suc i)) (sym (suc-add m n))

window_one : (f : ℕ → Bool) (i : ℕ) → f i ≡ window 1 f i
unfolding window
window_one f zero = refl
window_one f (suc i) = sym (xor_false (f (suc i)))

window_all : (n : ℕ) (f : ℕ → Bool) (i : ℕ) → i < n → window n f i ≡ parity false f (suc i)
unfolding window parity
window_all zero f i h = absurd (omega arith)
window_all (suc n) f zero h = sym (xor_false (f 0))
window_all (suc n) f (suc i) h = ap (xor (f (suc i))) (window_all n f i (omega arith))

abbrev doubled : ℕ → ℕ → ℕ
doubled m x = bit_xor x (x * 2 ^ m % 2 ^ 64)

double_law : (m x : ℕ) (f : ℕ → Bool) → ((j : ℕ) → j < 64 → bit j x ≡ window m f j)
    → (i : ℕ) → i < 64 → bit i (doubled m x) ≡ window (m + m) f i
double_law m x f h i l =
    bit_xor_lem i x (x * 2 ^ m % 2 ^ 64)
    ∙ ap₂ xor (h i l) (bit_shl 64 m i x l ∙ shifted_same m (λ j. bit j x) (window m f) i (λ j r. h j (omega arith)))
    ∙ window_add m m f i

pub prefix_law : (x i : ℕ) → i < 64
    → bit i (doubled 32 (doubled 16 (doubled 8 (doubled 4 (doubled 2 (doubled 1 x)))))) ≡ parity false (λ j. bit j x) (suc i)
prefix_law x i h =
    let f : ℕ → Bool = λ j. bit j x in
    let two = double_law 1 x f (λ j r. window_one f j) in
    let four = double_law 2 (doubled 1 x) f two in
    let eight = double_law 4 (doubled 2 (doubled 1 x)) f four in
    let sixteen = double_law 8 (doubled 4 (doubled 2 (doubled 1 x))) f eight in
    let half = double_law 16 (doubled 8 (doubled 4 (doubled 2 (doubled 1 x)))) f sixteen in
    double_law 32 (doubled 16 (doubled 8 (doubled 4 (doubled 2 (doubled 1 x))))) f half i h ∙ window_all 64 f i h

-- a start counts as one more place
pub parity_from : (inside : Bool) (f : ℕ → Bool) (i : ℕ) → xor (parity false f i) inside ≡ parity inside f i
unfolding parity
parity_from inside f zero = false_xor inside
parity_from inside f (suc i) = xor_assoc (f i) (parity false f i) inside ∙ ap (xor (f i)) (parity_from inside f i)

-- where f holds nowhere the start stays
pub parity_none : (inside : Bool) (f : ℕ → Bool) → ((j : ℕ) → f j ≡ false) → (i : ℕ) → parity inside f i ≡ inside
unfolding parity
parity_none inside f h zero = refl
parity_none inside f h (suc i) = ap₂ xor (h i) (parity_none inside f h i) ∙ false_xor inside
