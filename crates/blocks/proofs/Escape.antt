-- The places behind an odd run of backslashes by one sum. A one is added at each even place that does not follow a backslash: its carry
-- runs through the backslashes from there on, so a carry that has left a run says whether the run began at an even place. The places that
-- come out changed against the even ones are those of odd distance from the run's start. Assumes nothing.
use Rattle.std.proofs.Common.{◌≡◌, ℕ, zero, suc, ◌+◌, ◌-◌, ◌*◌, ◌%◌, ◌^◌, ◌<◌, Bool, true, false, cond, not, ◌&&◌, ◌||◌, T, sym, refl, ap, ◌∙◌, ap₂, arith}
use mathlib.Core.Bool.{xor, and-true, beq}
use lib.Bits.{bit_and, bit_or, bit_xor}
use mir.Val.{bool_byte}
use Rattle.bits.specs.Bits.{on, bit, digit}
use Rattle.bits.specs.Laws.{bit_and_lem, bit_or_lem, bit_xor_lem, bit_flip, bit-mod, bit-zero, bit_shl, shifted, shifted_same, majority, carry, carry_same, bit_add}
use Rattle.bits.specs.Truth.{truth, beq→eq, all_below, all_at}
use Rattle.blocks.specs.Parts.{odd_run}

even : ℕ → Bool
even zero = true
even (suc i) = not (even i)

-- a fact of place 0 only
first : Bool → ℕ → Bool
first o zero = o
first o (suc i) = false

-- u: a backslash stands before the place; v: the place is even; q: a backslash stands at it; e: an odd run stands before it
abbrev carried : Bool → Bool → Bool → Bool → Bool
carried u v q e = cond v (xor u e) e

step_carry : (u v q e : Bool) → e ≡ (e && u) → majority (not u && v) q (carried u v q e) ≡ cond (not v) (xor q (q && not e)) (q && not e)
unfolding majority xor
step_carry u v q e h =
    ap (λ (x : Bool). majority (not u && v) q (carried u v q x)) h
    ∙ truth 4 (λ u v q e. majority (not u && v) q (carried u v q (e && u))) (λ u v q e. cond (not v) (xor q (q && not (e && u))) (q && not (e && u))) tt u v q e
    ∙ ap (λ (x : Bool). cond (not v) (xor q (q && not x)) (q && not x)) (sym h)

step_escaped : (u v q e : Bool) → e ≡ (e && u) → xor (xor (xor (xor (not u && v) q) (carried u v q e)) v) (q || false) ≡ e
unfolding xor
step_escaped u v q e h =
    ap (λ (x : Bool). xor (xor (xor (xor (not u && v) q) (carried u v q x)) v) (q || false)) h
    ∙ truth 4 (λ u v q e. xor (xor (xor (xor (not u && v) q) (carried u v q (e && u))) v) (q || false)) (λ u v q e. e && u) tt u v q e
    ∙ sym h

step_first : (b o : Bool) → xor (xor (xor (xor (not false && true) (b && not o)) (xor false false)) true) (b || o) ≡ o
unfolding xor
step_first = truth 2 _ _ tt

step_follows : (q e : Bool) → (q && not e) ≡ ((q && not e) && q)
step_follows = truth 2 _ _ tt

-- ---- the method, over functions from places to Bool

module _ (b : ℕ → Bool) (o : Bool) where
  -- the backslashes that no run before the block escapes
  own : ℕ → Bool
  own i = b i && not (first o i)

  starts : ℕ → Bool
  starts i = not (shifted 1 own i) && even i

  follows : (i : ℕ) → odd_run false own i ≡ (odd_run false own i && shifted 1 own i)
  unfolding odd_run shifted
  follows zero = refl
  follows (suc i) = step_follows (own i) (odd_run false own i)

  carries : (i : ℕ) → carry false starts own i ≡ cond (even i) (xor (shifted 1 own i) (odd_run false own i)) (odd_run false own i)
  unfolding carry starts even odd_run shifted xor
  carries zero = refl
  carries (suc i) =
      ap (majority (starts i) (own i)) (carries i)
      ∙ step_carry (shifted 1 own i) (even i) (own i) (odd_run false own i) (follows i)

  own_run : (i : ℕ) → odd_run o b (suc i) ≡ odd_run false own (suc i)
  unfolding odd_run own first
  own_run zero = sym (and-true (b 0 && not o))
  own_run (suc i) = ap₂ (λ (x y : Bool). x && not y) (sym (and-true (b (suc i)))) (own_run i)

  method : (i : ℕ) → xor (xor (xor (xor (starts i) (own i)) (carry false starts own i)) (even i)) (b i || first o i) ≡ odd_run o b i
  unfolding carry starts even odd_run shifted first own xor
  method zero = step_first (b 0) o
  method (suc i) =
      ap₂ (λ (x y : Bool). xor (xor (xor (xor (starts (suc i)) (own (suc i))) x) (even (suc i))) (y || false)) (carries (suc i)) (sym (and-true (b (suc i))))
      ∙ step_escaped (shifted 1 own (suc i)) (even (suc i)) (own (suc i)) (odd_run false own (suc i)) (follows (suc i))
      ∙ sym (own_run i)

-- ---- the words of the code

abbrev pub all_ones : ℕ
all_ones = 0xffffffffffffffff

abbrev evens : ℕ
evens = 0x5555555555555555

evens_all : T (all_below 64 (λ i. beq (bit i evens) (even i)))
unfolding all_below bit on even
evens_all = tt

evens_bit : (i : ℕ) → i < 64 → bit i evens ≡ even i
evens_bit i h = beq→eq (bit i evens) (even i) (all_at 64 (λ j. beq (bit j evens) (even j)) evens_all i h)

first_bit : (o : Bool) (i : ℕ) → bit i (bool_byte o) ≡ first o i
unfolding bit first on
first_bit true zero = refl
first_bit false zero = refl
first_bit true (suc i) = bit-zero i
first_bit false (suc i) = bit-zero i

first_fits : (o : Bool) → bool_byte o < 2 ^ 64
first_fits true = omega arith
first_fits false = omega arith

module _ (backslashes : ℕ) (odd : Bool) where
  abbrev at : ℕ → Bool
  at j = bit j backslashes

  abbrev own_word : ℕ
  own_word = bit_and backslashes (all_ones - bool_byte odd)

  abbrev starts_word : ℕ
  starts_word = bit_and (all_ones - own_word * 2 ^ 1 % 2 ^ 64) evens

  own_bit : (i : ℕ) → i < 64 → bit i own_word ≡ own at odd i
  unfolding own
  own_bit i l = bit_and_lem i backslashes (all_ones - bool_byte odd)
      ∙ ap (λ (x : Bool). bit i backslashes && x) (bit_flip 64 i (bool_byte odd) (first_fits odd) l ∙ ap not (first_bit odd i))

  starts_bit : (i : ℕ) → i < 64 → bit i starts_word ≡ starts at odd i
  unfolding starts
  starts_bit i l = bit_and_lem i (all_ones - own_word * 2 ^ 1 % 2 ^ 64) evens
      ∙ ap₂ (λ (x y : Bool). x && y)
      (bit_flip 64 i (own_word * 2 ^ 1 % 2 ^ 64) (omega arith) l
      ∙ ap not (bit_shl 64 1 i own_word l
      ∙ shifted_same 1 (λ j. bit j own_word) (own at odd) i (λ j r. own_bit j (omega arith))))
      (evens_bit i l)

  sum-bit : (i : ℕ) → i < 64 → bit i ((starts_word + own_word) % 2 ^ 64)
      ≡ xor (xor (starts at odd i) (own at odd i)) (carry false (starts at odd) (own at odd) i)
  unfolding digit
  sum-bit i l =
      let e : starts_word + own_word ≡ starts_word + own_word + 0 = omega arith in
      bit-mod 64 i (starts_word + own_word) l ∙ ap (bit i) e ∙ bit_add i starts_word own_word false
      ∙ ap₂ xor (ap₂ xor (starts_bit i l) (own_bit i l))
      (carry_same false (λ j. bit j starts_word) (λ j. bit j own_word) (starts at odd) (own at odd) i
      (λ j r. starts_bit j (omega arith)) (λ j r. own_bit j (omega arith)))

  pub escaped_law : (sum : ℕ) → sum ≡ (starts_word + own_word) % 2 ^ 64 → (i : ℕ) → i < 64
      → bit i (bit_xor (bit_xor sum evens) (bit_or backslashes (bool_byte odd))) ≡ odd_run odd (λ j. bit j backslashes) i
  escaped_law sum e i l =
      bit_xor_lem i (bit_xor sum evens) (bit_or backslashes (bool_byte odd))
      ∙ ap₂ xor (bit_xor_lem i sum evens ∙ ap₂ xor (ap (bit i) e ∙ sum-bit i l) (evens_bit i l))
      (bit_or_lem i backslashes (bool_byte odd) ∙ ap (λ (x : Bool). bit i backslashes || x) (first_bit odd i))
      ∙ method at odd i
