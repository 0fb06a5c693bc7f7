-- No byte is both an opening and a closing bracket, so no place of a block's words is. Assumes nothing.
use Rattle.std.proofs.Common.{◌≡◌, ℕ, ◌^◌, ◌<◌, ◌≤◌, Bool, true, false, not, ◌||◌, eqb, List, sym, refl, ap, ◌∙◌, ⊎_elim, eqb-true}
use mathlib.Core.Bool.{false≢true, and-eq-true_iff}
use lib.Bits.{bit_and}
use Rattle.bits.specs.Bits.{bit}
use Rattle.bits.specs.Laws.{lt_or_ge, bit_and_lem, bit_high}
use Rattle.classifier.specs.Classes.{byte_at}
use Rattle.classifier.specs.Packed.{Classified}
use Rattle.blocks.specs.Laws.{opening_bit, closing_bit, opening_past}
use Rattle.blocks.specs.Parts.{NotBoth}
use Rattle.blocks.specs.Sorted.{Sorted}
use Rattle.blocks.specs.Words.{in_string, opens_at, closes_at, block_size, opening_word, closing_word}
use Rattle.blocks.specs.declared.Words.{Words}

one_kind : (b : ℕ) → (eqb b 0x5B || eqb b 0x7B) ≡ true → (eqb b 0x5D || eqb b 0x7D) ≡ true → ⊥
one_kind b p q = go (eqb b 0x5B) refl (eqb b 0x7B) refl p
  where
    none : (x : ℕ) → b ≡ x → (eqb x 0x5D || eqb x 0x7D) ≡ false → ⊥
    none x e z = false≢true (sym z ∙ ap (λ (y : ℕ). eqb y 0x5D || eqb y 0x7D) (sym e) ∙ q)

    go : (x : Bool) → eqb b 0x5B ≡ x → (y : Bool) → eqb b 0x7B ≡ y → (x || y) ≡ true → ⊥
    go true e y d h = none 0x5B (eqb-true b 0x5B e) refl
    go false e true d h = none 0x7B (eqb-true b 0x7B d) refl
    go false e false d h = false≢true h

-- of the classes, whatever they are cut to
pub classes_apart : {s : List ℕ} {q b o c : ℕ} → Classified s q b o c → o < 2 ^ 64 → (x y : ℕ) → NotBoth (bit_and o x) (bit_and c y)
classes_apart {s} {q} {b} {o} {c} classes fits x y j p r =
    let opens : bit j o ≡ true = ((and-eq-true_iff (bit j o) (bit j x)).0 (sym (bit_and_lem j o x) ∙ p)).0 in
    let closes : bit j c ≡ true = ((and-eq-true_iff (bit j c) (bit j y)).0 (sym (bit_and_lem j c y) ∙ r)).0 in
    ⊎_elim
    (λ (l : j < 64). one_kind (byte_at s j) (sym (classes.opening_at j l) ∙ opens) (sym (classes.closing_at j l) ∙ closes))
    (λ (l : 64 ≤ j). false≢true (sym (bit_high 64 j o fits l) ∙ opens))
    (lt_or_ge j 64)

-- of a block's words
no_both : (s : List ℕ) (inside odd : Bool) (j : ℕ) → opens_at inside odd s j ≡ true → closes_at inside odd s j ≡ true → ⊥
unfolding opens_at closes_at
no_both s inside odd j p q =
    one_kind (byte_at s j)
    ((and-eq-true_iff (eqb (byte_at s j) 0x5B || eqb (byte_at s j) 0x7B) (not (in_string inside odd s j))).0 p).0
    ((and-eq-true_iff (eqb (byte_at s j) 0x5D || eqb (byte_at s j) 0x7D) (not (in_string inside odd s j))).0 q).0

words_apart : (s : List ℕ) (inside odd : Bool) → NotBoth (opening_word inside odd s) (closing_word inside odd s)
words_apart s inside odd j p q = ⊎_elim
    (λ (l : j < block_size s). no_both s inside odd j (sym (opening_bit s inside odd j l) ∙ p) (sym (closing_bit s inside odd j l) ∙ q))
    (λ (l : block_size s ≤ j). false≢true (sym (opening_past s inside odd j l) ∙ p))
    (lt_or_ge j (block_size s))

pub sorted_apart : {s : List ℕ} {inside odd : Bool} {w : Words} → Sorted s inside odd w → NotBoth w.opening w.closing
sorted_apart {s} {inside} {odd} h = rw (h.opening_are, h.closing_are) (words_apart s inside odd)
