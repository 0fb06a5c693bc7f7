-- Laws of bits: one for each operation of the machine, at any width, and what a number's bits say of the number. Assumes nothing.
use Rattle.std.specs.Prelude.{◌≡◌, refl, Bool, true, false, not, ◌&&◌, ◌||◌, ◌⊎◌, ℕ, zero, suc, ◌+◌, ◌-◌, ◌*◌, ◌/◌, ◌%◌, ◌^◌, ◌<◌, ◌≤◌, min, max, ltb, leb, eqb}
use Rattle.std.proofs.Common.{sym, ap, ap₂, ◌∙◌, inl, inr, ⊎_elim, pow-suc, mul-one, mod-eq_of_lt, mod-lt, add-one, arith, shr-shr, pow_pos, ltb-true, ltb-false, leb-true, leb-false, le-leb, eq-eqb, ne_eqb, eqb-true}
use Rattle.std.proofs.Math.Bool.{xor}
use Rattle.std.proofs.Math.Nat.{min-le_left, max-le, min-zero, max-zero, zero-min, zero-max, suc-min-suc, suc-max-suc}
use Rattle.std.specs.Int.Bits.{bit_and, bit_or, bit_xor, differ, and_step, or_step, xor_step, shifted_half, shifted_even}
use Rattle.std.proofs.lemmas.Nat.{and_mask, mod-pow-add, trailing_le}
use Rattle.std.proofs.Math.Pow.{mod-mod-pow, field}
use Rattle.std.specs.Int.Count.{ones, ones_in, ones_step, count_trailing_zeros, under}
use Rattle.std.proofs.lemmas.Bool.{lt-leb, eqb-false}
use Rattle.bits.specs.Bits.{on, bit, digit, number, Lowest}
use Rattle.bits.specs.Truth.{truth, xor_true}

pub lt_or_ge : (m n : ℕ) → (m < n) ⊎ (n ≤ m)
lt_or_ge m n = go (ltb m n) refl
  where
    go : (b : Bool) → ltb m n ≡ b → (m < n) ⊎ (n ≤ m)
    go true e = inl (ltb-true m n e)
    go false e = inr (ltb-false m n e)

-- ---- and, or, xor, not

on-min : (x y : ℕ) → on (min x y) ≡ (on x && on y)
unfolding on
on-min zero y = rw zero-min refl
on-min (suc x) zero = rw min-zero refl
on-min (suc x) (suc y) = rw suc-min-suc refl

on-max : (x y : ℕ) → on (max x y) ≡ (on x || on y)
unfolding on
on-max zero y = rw zero-max refl
on-max (suc x) zero = rw max-zero refl
on-max (suc x) (suc y) = rw suc-max-suc refl

max-bit : (a b : ℕ) → max (a % 2) (b % 2) ≤ 1
max-bit a b = max-le (omega arith) (omega arith)

differ_digits : (x y : ℕ) → x < 2 → y < 2 → (differ x y < 2) × (on (differ x y) ≡ xor (on x) (on y))
unfolding on xor
differ_digits zero zero h l = (omega arith, refl)
differ_digits zero (suc y) h l = (l, refl)
differ_digits (suc x) zero h l = (h, refl)
differ_digits (suc x) (suc y) h l =
    let a : x ≡ 0 = omega arith in
    let b : y ≡ 0 = omega arith in
    rw (a, b) (omega arith, refl)

pub bit_and_lem : (i a b : ℕ) → bit i (bit_and a b) ≡ (bit i a && bit i b)
unfolding bit
bit_and_lem zero a b =
    let e : bit_and a b % 2 ≡ min (a % 2) (b % 2) = omega (arith, and_step a b, min-le_left (a % 2) (b % 2)) in
    ap on e ∙ on-min (a % 2) (b % 2)
bit_and_lem (suc i) a b =
    let e : bit_and a b / 2 ≡ bit_and (a / 2) (b / 2) = omega (arith, and_step a b, min-le_left (a % 2) (b % 2)) in
    ap (bit i) e ∙ bit_and_lem i (a / 2) (b / 2)

pub bit_or_lem : (i a b : ℕ) → bit i (bit_or a b) ≡ (bit i a || bit i b)
unfolding bit
bit_or_lem zero a b =
    let e : bit_or a b % 2 ≡ max (a % 2) (b % 2) = omega (arith, or_step a b, max-bit a b) in
    ap on e ∙ on-max (a % 2) (b % 2)
bit_or_lem (suc i) a b =
    let e : bit_or a b / 2 ≡ bit_or (a / 2) (b / 2) = omega (arith, or_step a b, max-bit a b) in
    ap (bit i) e ∙ bit_or_lem i (a / 2) (b / 2)

pub bit_xor_lem : (i a b : ℕ) → bit i (bit_xor a b) ≡ xor (bit i a) (bit i b)
unfolding bit
bit_xor_lem zero a b =
    let d = differ_digits (a % 2) (b % 2) (omega arith) (omega arith) in
    let e : bit_xor a b % 2 ≡ differ (a % 2) (b % 2) = omega (arith, xor_step a b, d.0) in
    ap on e ∙ d.1
bit_xor_lem (suc i) a b =
    let d = differ_digits (a % 2) (b % 2) (omega arith) (omega arith) in
    let e : bit_xor a b / 2 ≡ bit_xor (a / 2) (b / 2) = omega (arith, xor_step a b, d.0) in
    ap (bit i) e ∙ bit_xor_lem i (a / 2) (b / 2)

-- the lowest k bits of 2 ^ k - 1 are on
pub bit_ones : (k i : ℕ) → i < k → bit i (2 ^ k - 1) ≡ true
unfolding bit on
bit_ones zero i h = absurd (omega arith)
bit_ones (suc k) zero h =
    let e : (2 ^ suc k - 1) % 2 ≡ 1 = omega (arith, pow-suc 2 k, pow_pos k) in ap on e
bit_ones (suc k) (suc i) h =
    let e : (2 ^ suc k - 1) / 2 ≡ 2 ^ k - 1 = omega (arith, pow-suc 2 k, pow_pos k) in ap (bit i) e ∙ bit_ones k i (omega arith)

-- `not` of a number of k bits
pub bit_not : (k i a : ℕ) → i < k → bit i (bit_xor a (2 ^ k - 1)) ≡ not (bit i a)
bit_not k i a h = bit_xor_lem i a (2 ^ k - 1) ∙ ap (xor (bit i a)) (bit_ones k i h) ∙ xor_true (bit i a)

on_flip : (x : ℕ) → x < 2 → on (1 - x) ≡ not (on x)
unfolding on
on_flip zero h = refl
on_flip (suc x) h = let e : 1 - suc x ≡ 0 = omega arith in ap on e

-- `!` at width k
pub bit_flip : (k i a : ℕ) → a < 2 ^ k → i < k → bit i (2 ^ k - 1 - a) ≡ not (bit i a)
unfolding bit
bit_flip zero i a l h = absurd (omega arith)
bit_flip (suc k) zero a l h =
    let e : (2 ^ suc k - 1 - a) % 2 ≡ 1 - a % 2 = omega (arith, pow-suc 2 k) in ap on e ∙ on_flip (a % 2) (omega arith)
bit_flip (suc k) (suc i) a l h =
    let e : (2 ^ suc k - 1 - a) / 2 ≡ 2 ^ k - 1 - a / 2 = omega (arith, pow-suc 2 k) in
    ap (bit i) e ∙ bit_flip k i (a / 2) (omega (arith, pow-suc 2 k)) (omega arith)

-- ---- no bit, and the lowest k bits

pub bit-zero : (i : ℕ) → bit i 0 ≡ false
unfolding bit on
bit-zero zero = refl
bit-zero (suc i) = bit-zero i

-- a number below 2 ^ k has no bit from k on
pub bit_high : (k i n : ℕ) → n < 2 ^ k → k ≤ i → bit i n ≡ false
unfolding bit
bit_high zero i n h l = let e : n ≡ 0 = omega arith in ap (bit i) e ∙ bit-zero i
bit_high (suc k) zero n h l = absurd (omega arith)
bit_high (suc k) (suc i) n h l = bit_high k i (n / 2) (omega (arith, pow-suc 2 k)) (omega arith)

pub bit-mod : (k i n : ℕ) → i < k → bit i (n % 2 ^ k) ≡ bit i n
unfolding bit
bit-mod zero i n h = absurd (omega arith)
bit-mod (suc k) zero n h = ap on (ap (λ (x : ℕ). n % 2 ^ x % 2) (sym (add-one k)) ∙ mod-mod-pow n k 1)
bit-mod (suc k) (suc i) n h =
    ap (bit i) (ap (λ (x : ℕ). n % 2 ^ x / 2) (sym (add-one k)) ∙ field n k 1)
    ∙ bit-mod k i (n / 2) (omega arith)

-- ---- shifts

-- f moved m places up; the lowest m places are off
unfoldable pub shifted : ℕ → (ℕ → Bool) → ℕ → Bool
shifted zero f i = f i
shifted (suc m) f zero = false
shifted (suc m) f (suc i) = shifted m f i

pub shifted_is : (m : ℕ) (f : ℕ → Bool) (i : ℕ) → shifted m f i ≡ (leb m i && f (i - m))
unfolding shifted
shifted_is zero f i = let e : i ≡ i - 0 = omega arith in rw (le-leb 0 i (omega arith)) (ap f e)
shifted_is (suc m) f zero = rw (lt-leb (suc m) 0 (omega arith)) refl
shifted_is (suc m) f (suc i) =
    let e : i - m ≡ suc i - suc m = omega arith in
    shifted_is m f i ∙ ap (λ (x : ℕ). leb m i && f x) e ∙ ap (λ (b : Bool). b && f (suc i - suc m)) (same (leb m i) refl)
  where
    same : (b : Bool) → leb m i ≡ b → leb m i ≡ leb (suc m) (suc i)
    same true e = let h : m ≤ i = leb-true m i e in e ∙ sym (le-leb (suc m) (suc i) (omega arith))
    same false e = let h : i < m = leb-false m i e in e ∙ sym (lt-leb (suc m) (suc i) (omega arith))

pub shifted_same : (m : ℕ) (f g : ℕ → Bool) (i : ℕ) → ((j : ℕ) → j ≤ i → f j ≡ g j) → shifted m f i ≡ shifted m g i
unfolding shifted
shifted_same zero f g i h = h i (omega arith)
shifted_same (suc m) f g zero h = refl
shifted_same (suc m) f g (suc i) h = shifted_same m f g i (λ j l. h j (omega arith))

bit_times : (m i a : ℕ) → bit i (a * 2 ^ m) ≡ shifted m (λ j. bit j a) i
unfolding bit shifted on
bit_times zero i a = ap (bit i) (mul-one a)
bit_times (suc m) zero a = ap on (shifted_even a m)
bit_times (suc m) (suc i) a = ap (bit i) (shifted_half a m) ∙ bit_times m i a

-- `<<` at width k
pub bit_shl : (k m i a : ℕ) → i < k → bit i (a * 2 ^ m % 2 ^ k) ≡ shifted m (λ j. bit j a) i
bit_shl k m i a h = bit-mod k i (a * 2 ^ m) h ∙ bit_times m i a

-- `>>`
pub bit_shr : (m i a : ℕ) → bit i (a / 2 ^ m) ≡ bit (m + i) a
unfolding bit
bit_shr zero i a =
    let e : a / 1 ≡ a = omega arith in
    let d : i ≡ 0 + i = omega arith in
    ap (bit i) e ∙ ap (λ (x : ℕ). bit x a) d
bit_shr (suc m) i a =
    let e : 1 + m ≡ suc m = omega arith in
    let d : suc (m + i) ≡ suc m + i = omega arith in
    ap (bit i) (ap (λ (x : ℕ). a / 2 ^ x) (sym e) ∙ sym (shr-shr a 1 m)) ∙ bit_shr m i (a / 2) ∙ ap (λ (x : ℕ). bit x a) d

one_bit : (i : ℕ) → bit i 1 ≡ eqb i 0
unfolding bit on
one_bit zero = refl
one_bit (suc i) = bit-zero i ∙ sym (ne_eqb (suc i) 0 (λ (e : suc i ≡ 0). omega arith))

-- `1 << i` has bit i and no other
pub bit_single : (k i j : ℕ) → j < k → bit j (1 * 2 ^ i % 2 ^ k) ≡ eqb j i
bit_single k i j h =
    bit_shl k i j 1 h ∙ shifted_is i (λ m. bit m 1) j ∙ ap (λ (b : Bool). leb i j && b) (one_bit (j - i)) ∙ at (eqb j i) refl
  where
    at : (b : Bool) → eqb j i ≡ b → (leb i j && eqb (j - i) 0) ≡ b
    at true q =
        let e : j ≡ i = eqb-true j i q in
        rw (le-leb i j (omega arith), eq-eqb (j - i) 0 (omega arith)) refl
    at false q =
        let n : j ≡ i → ⊥ = eqb-false j i q in
        ⊎_elim (λ (l : j < i). rw (lt-leb i j l) refl)
        (λ (l : i ≤ j). rw (le-leb i j l, ne_eqb (j - i) 0 (λ (e : j - i ≡ 0). n (omega arith))) refl)
        (lt_or_ge j i)

on_eqb : (x : ℕ) → x < 2 → eqb x 1 ≡ on x
unfolding on
on_eqb zero h = refl
on_eqb (suc x) h = let e : suc x ≡ 1 = omega arith in eq-eqb (suc x) 1 e

-- one bit read out: `w >> i & 1 == 1`
pub bit_test : (w i : ℕ) → eqb (bit_and (w / 2 ^ i) 1) 1 ≡ bit i w
unfolding bit
bit_test w i =
    let e : i + 0 ≡ i = omega arith in
    ap (λ (x : ℕ). eqb x 1) (and_mask (w / 2 ^ i) 1) ∙ on_eqb (w / 2 ^ i % 2) (omega arith)
    ∙ bit_shr i 0 w ∙ ap (λ (x : ℕ). bit x w) e

-- ---- the bits say the number

pub digit_lt : (b : Bool) → digit b < 2
unfolding digit
digit_lt true = omega arith
digit_lt false = omega arith

pub on_digit : (b : Bool) → on (digit b) ≡ b
unfolding digit on
on_digit true = refl
on_digit false = refl

digit_on : (x : ℕ) → x < 2 → digit (on x) ≡ x
unfolding digit on
digit_on zero h = refl
digit_on (suc x) h = omega arith

pub number_of : (n w : ℕ) (f : ℕ → Bool) → ((i : ℕ) → i < n → bit i w ≡ f i) → w % 2 ^ n ≡ number n f
unfolding number bit
number_of zero w f h = omega arith
number_of (suc n) w f h =
    let r : w / 2 % 2 ^ n ≡ number n (λ i. f (suc i)) = number_of n (w / 2) (λ i. f (suc i)) (λ i l. h (suc i) (omega arith)) in
    let z : w % 2 ≡ digit (f 0) = sym (digit_on (w % 2) (omega arith)) ∙ ap digit (h 0 (omega arith)) in
    ap (λ (x : ℕ). w % 2 ^ x) (sym (add-one n)) ∙ mod-pow-add w n 1 ∙ ap₂ (λ (x y : ℕ). x * 2 + y) r z

pub number_is : (n w : ℕ) (f : ℕ → Bool) → w < 2 ^ n → ((i : ℕ) → i < n → bit i w ≡ f i) → w ≡ number n f
number_is n w f l h = sym (mod-eq_of_lt l) ∙ number_of n w f h

pub bit_ext : (k a b : ℕ) → a < 2 ^ k → b < 2 ^ k → ((i : ℕ) → i < k → bit i a ≡ bit i b) → a ≡ b
bit_ext k a b h l e = number_is k a (λ i. bit i b) h e ∙ sym (number_is k b (λ i. bit i b) l (λ i r. refl))

pub bit_number : (n i : ℕ) (f : ℕ → Bool) → i < n → bit i (number n f) ≡ f i
unfolding number bit
bit_number zero i f h = absurd (omega arith)
bit_number (suc n) zero f h =
    let e : (number n (λ j. f (suc j)) * 2 + digit (f 0)) % 2 ≡ digit (f 0) = omega (arith, digit_lt (f 0)) in
    ap on e ∙ on_digit (f 0)
bit_number (suc n) (suc i) f h =
    let e : (number n (λ j. f (suc j)) * 2 + digit (f 0)) / 2 ≡ number n (λ j. f (suc j)) = omega (arith, digit_lt (f 0)) in
    ap (bit i) e ∙ bit_number n i (λ j. f (suc j)) (omega arith)

pub number_lt : (n : ℕ) (f : ℕ → Bool) → number n f < 2 ^ n
unfolding number
number_lt zero f = omega arith
number_lt (suc n) f = omega (arith, number_lt n (λ i. f (suc i)), digit_lt (f 0), pow-suc 2 n)

-- every further bit is 0
pub number_high : (n i : ℕ) (f : ℕ → Bool) → n ≤ i → bit i (number n f) ≡ false
number_high n i f h = bit_high n i (number n f) (number_lt n f) h

pub number_same : (n : ℕ) (f g : ℕ → Bool) → ((i : ℕ) → i < n → f i ≡ g i) → number n f ≡ number n g
unfolding number
number_same zero f g h = refl
number_same (suc n) f g h =
    ap₂ (λ (x : ℕ) (b : Bool). x * 2 + digit b)
    (number_same n (λ i. f (suc i)) (λ i. g (suc i)) (λ i l. h (suc i) (omega arith))) (h 0 (omega arith))

-- ---- sums

-- two of the three hold
unfoldable pub majority : Bool → Bool → Bool → Bool
majority a b c = (a && b) || ((a || b) && c)

-- the carry into place i of the sum of f and g, where c is the one into place 0
unfoldable pub carry : Bool → (ℕ → Bool) → (ℕ → Bool) → ℕ → Bool
carry c f g zero = c
carry c f g (suc i) = majority (f i) (g i) (carry c f g i)

carry_further : (c : Bool) (f g : ℕ → Bool) (i : ℕ)
    → carry (majority (f 0) (g 0) c) (λ j. f (suc j)) (λ j. g (suc j)) i ≡ carry c f g (suc i)
unfolding carry
carry_further c f g zero = refl
carry_further c f g (suc i) = ap (majority (f (suc i)) (g (suc i))) (carry_further c f g i)

pub carry_same : (c : Bool) (f g f' g' : ℕ → Bool) (i : ℕ) → ((j : ℕ) → j < i → f j ≡ f' j) → ((j : ℕ) → j < i → g j ≡ g' j)
    → carry c f g i ≡ carry c f' g' i
unfolding carry
carry_same c f g f' g' zero h l = refl
carry_same c f g f' g' (suc i) h l =
    ap₂ (λ (x y : Bool). majority x y (carry c f g i)) (h i (omega arith)) (l i (omega arith))
    ∙ ap (majority (f' i) (g' i)) (carry_same c f g f' g' i (λ j r. h j (omega arith)) (λ j r. l j (omega arith)))

sum-digit : (a b c : Bool) → on ((digit a + digit b + digit c) % 2) ≡ xor (xor a b) c
unfolding on digit xor
sum-digit = truth 3 (λ a b c. on ((digit a + digit b + digit c) % 2)) (λ a b c. xor (xor a b) c) tt

sum-carry : (a b c : Bool) → on ((digit a + digit b + digit c) / 2) ≡ majority a b c
unfolding on digit majority
sum-carry = truth 3 (λ a b c. on ((digit a + digit b + digit c) / 2)) majority tt

add_low : (x y c : ℕ) → (x + y + c) % 2 ≡ (x % 2 + y % 2 + c) % 2
add_low x y c = omega arith

add_half : (x y c : ℕ) → (x + y + c) / 2 ≡ x / 2 + y / 2 + (x % 2 + y % 2 + c) / 2
add_half x y c = omega arith

lowest_digits : (x y c : ℕ) → x % 2 + y % 2 + c ≡ digit (on (x % 2)) + digit (on (y % 2)) + c
lowest_digits x y c =
    ap₂ (λ (u v : ℕ). u + v + c) (sym (digit_on (x % 2) (omega arith))) (sym (digit_on (y % 2) (omega arith)))

lowest_carry : (x y : ℕ) (c : Bool) → (x % 2 + y % 2 + digit c) / 2 ≡ digit (majority (on (x % 2)) (on (y % 2)) c)
lowest_carry x y c =
    sym (digit_on ((x % 2 + y % 2 + digit c) / 2) (omega (arith, digit_lt c)))
    ∙ ap (λ (u : ℕ). digit (on (u / 2))) (lowest_digits x y (digit c))
    ∙ ap digit (sum-carry (on (x % 2)) (on (y % 2)) c)

-- `+`, with a carry c into the lowest place
pub bit_add : (i x y : ℕ) (c : Bool)
    → bit i (x + y + digit c) ≡ xor (xor (bit i x) (bit i y)) (carry c (λ j. bit j x) (λ j. bit j y) i)
unfolding bit carry
bit_add zero x y c =
    ap on (add_low x y (digit c) ∙ ap (λ (u : ℕ). u % 2) (lowest_digits x y (digit c)))
    ∙ sum-digit (on (x % 2)) (on (y % 2)) c
bit_add (suc i) x y c =
    ap (bit i) (add_half x y (digit c) ∙ ap (λ (u : ℕ). x / 2 + y / 2 + u) (lowest_carry x y c))
    ∙ bit_add i (x / 2) (y / 2) (majority (on (x % 2)) (on (y % 2)) c)
    ∙ ap (xor (xor (bit i (x / 2)) (bit i (y / 2)))) (carry_further c (λ j. bit j x) (λ j. bit j y) i)

-- ---- how many bits are on

-- how many of the first n places f holds at
unfoldable pub count_on : ℕ → (ℕ → Bool) → ℕ
count_on zero f = 0
count_on (suc n) f = digit (f 0) + count_on n (λ i. f (suc i))

pub ones_number : (n : ℕ) (f : ℕ → Bool) → ones (number n f) ≡ count_on n f
unfolding number count_on ones ones_in
ones_number zero f = refl
ones_number (suc n) f =
    let m : ℕ = number n (λ i. f (suc i)) * 2 + digit (f 0) in
    let low : m % 2 ≡ digit (f 0) = omega (arith, digit_lt (f 0)) in
    let high : m / 2 ≡ number n (λ i. f (suc i)) = omega (arith, digit_lt (f 0)) in
    ones_step m ∙ ap₂ (λ (x y : ℕ). x + y) low (ap ones high ∙ ones_number n (λ i. f (suc i)))

-- ---- trailing zeros, and the lowest bit that is on

trailing_on : (k n : ℕ) → count_trailing_zeros k n < k → bit (count_trailing_zeros k n) n ≡ true
unfolding count_trailing_zeros bit on
trailing_on zero n l = absurd (omega arith)
trailing_on (suc k) n l = go (trailing_on k (n / 2)) (n % 2) refl l
  where
    go : (count_trailing_zeros k (n / 2) < k → bit (count_trailing_zeros k (n / 2)) (n / 2) ≡ true)
        → (r : ℕ) → n % 2 ≡ r → under r (count_trailing_zeros k (n / 2)) < suc k → bit (under r (count_trailing_zeros k (n / 2))) n ≡ true
    go f zero e l = f (omega arith)
    go f (suc r) e l = ap on e

trailing_off : (k n j : ℕ) → j < count_trailing_zeros k n → bit j n ≡ false
unfolding count_trailing_zeros bit on
trailing_off zero n j l = absurd (omega arith)
trailing_off (suc k) n j l = go (n % 2) refl j l (λ m. trailing_off k (n / 2) m)
  where
    go : (r : ℕ) → n % 2 ≡ r → (j : ℕ) → j < under r (count_trailing_zeros k (n / 2))
        → ((m : ℕ) → m < count_trailing_zeros k (n / 2) → bit m (n / 2) ≡ false) → bit j n ≡ false
    go zero e zero l f = ap on e
    go zero e (suc j) l f = f j (omega arith)
    go (suc r) e j l f = absurd (omega arith)

pub trailing_lowest : (k n : ℕ) → Lowest k n (count_trailing_zeros k n)
trailing_lowest k n = record { is_on = trailing_on k n; none_below = trailing_off k n; within = trailing_le k n }

-- the number of k bits with bit n alone
pub bit_alone : (k n i : ℕ) → n < k → bit i (1 * 2 ^ n % 2 ^ k) ≡ eqb i n
bit_alone k n i h = ⊎_elim (λ (l : i < k). bit_single k n i l)
    (λ (l : k ≤ i). bit_high k i (1 * 2 ^ n % 2 ^ k) (mod-lt (1 * 2 ^ n) (pow_pos k)) l ∙ sym (ne_eqb i n (λ (e : i ≡ n). omega arith)))
    (lt_or_ge i k)

pub bit_with : (k m n i : ℕ) → n < k → bit i (bit_or m (1 * 2 ^ n % 2 ^ k)) ≡ (bit i m || (true && eqb i n))
bit_with k m n i h = bit_or_lem i m (1 * 2 ^ n % 2 ^ k) ∙ ap (λ (b : Bool). bit i m || b) (bit_alone k n i h)
