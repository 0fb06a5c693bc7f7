-- The bits that the functions on marks set, one by one. Assumes nothing.
use mathlib.Core.Path.{◌≡◌, refl, sym, ap, ap₂, ◌∙◌}
use mathlib.Core.Bool.{Bool, true, false, ◌&&◌, ◌||◌, or-false, and-true, and-false}
use mathlib.Core.List.{List}
use mathlib.Core.Logic.{⊎_elim}
use Prim.Native.Nat.{ℕ, ◌+◌, ◌-◌, ◌/◌, ◌^◌, ◌<◌, ◌≤◌}
use native.Mathlib.Omega.{arith}
use borrow.Author.Tests.{lt-ltb, le-ltb, eq-eqb, ne_eqb, eqb-true, eqb-false}
use lib.Bits.{bit_and}
use lib.Dec.{ltb, eqb}
use lib.Seq.{slice}
use Rattle.bits.specs.Bits.{bit, Lowest}
use Rattle.bits.specs.Laws.{lt_or_ge, bit-zero, bit_test, bit_shr}
use Rattle.encoding.specs.Bytes.{same_numbers}
use Rattle.query_parser.specs.Holds.{name_start_of, name_end_of}
use Rattle.select.specs.Ways.{frame_if}
use Rattle.marks.specs.Advances.{is_name}

pub frames_same : (a m k : ℕ) → a ≡ m → k ≡ frame_if (eqb a m) k
unfolding frame_if
frames_same a m k e = sym (ap (λ (b : Bool). frame_if b k) (eq-eqb a m e))

pub frames_more : (a m k : ℕ) → (a ≡ m → ⊥) → k + 1 ≡ frame_if (eqb a m) k
unfolding frame_if
frames_more a m k e = sym (ap (λ (b : Bool). frame_if b k) (ne_eqb a m e))

-- one mark, and what is asked only where it is on
module _ (m i x : ℕ) (shift : x ≡ bit_and (m / 2 ^ i) 1) where
  pub mark_on : x ≡ 1 → bit i m ≡ true
  mark_on f = sym (bit_test m i) ∙ ap (λ (y : ℕ). eqb y 1) (sym shift) ∙ eq-eqb x 1 f

  pub hit_off : (asked : Bool) → (x ≡ 1 → ⊥) → false ≡ (bit i m && asked)
  hit_off asked f = sym (ap (λ (b : Bool). b && asked) (sym (bit_test m i) ∙ ap (λ (y : ℕ). eqb y 1) (sym shift) ∙ ne_eqb x 1 f))

  pub hit_on : (asked : Bool) → x ≡ 1 → asked ≡ (bit i m && asked)
  hit_on asked f = sym (ap (λ (b : Bool). b && asked) (mark_on f))

-- a name by its bounds
pub by_bounds : (names bytes : List ℕ) (w from to : ℕ) → from ≡ name_start_of w → to ≡ name_end_of w
    → same_numbers (slice from to names) bytes ≡ is_name names w bytes
unfolding is_name
by_bounds names bytes w from to a b = ap₂ (λ (x y : ℕ). same_numbers (slice x y names) bytes) a b

-- the bits below i are what f says of the steps, and none is on from i
pub record Upto (f : ℕ → Bool) (count h i : ℕ) : Type 0 where
  pub below : (j : ℕ) → j < i → bit j h ≡ (ltb j count && f j)
  pub above : (j : ℕ) → i ≤ j → bit j h ≡ false

module _ (f : ℕ → Bool) (count : ℕ) where
  -- at first, where f is off below i
  pub upto_none : (i : ℕ) → ((j : ℕ) → j < i → f j ≡ false) → Upto f count 0 i
  upto_none i off =
      record {
        below = λ j l. bit-zero j ∙ sym (ap (λ (b : Bool). ltb j count && b) (off j l) ∙ and-false (ltb j count));
        above = λ j l. bit-zero j;
      }

  pub upto_more : (h i h' : ℕ) (on : Bool) → i < count → Upto f count h i → on ≡ f i → ((j : ℕ) → bit j h' ≡ (bit j h || (on && eqb j i)))
      → Upto f count h' (i + 1)
  upto_more h i h' on l u e b = record { below = λ j k. b j ∙ go j k (eqb j i) refl; above = λ j k. b j ∙ past j k }
    where
      go : (j : ℕ) → j < i + 1 → (z : Bool) → eqb j i ≡ z → (bit j h || (on && eqb j i)) ≡ (ltb j count && f j)
      go j k true g =
          let same : j ≡ i = eqb-true j i g in
          rw (g, u.above j (omega arith), lt-ltb j count (omega arith)) (and-true on ∙ e ∙ ap f (sym same))
      go j k false g =
          let other : j ≡ i → ⊥ = eqb-false j i g in
          rw (g, and-false on) (or-false (bit j h) ∙ u.below j (omega arith))

      past : (j : ℕ) → i + 1 ≤ j → (bit j h || (on && eqb j i)) ≡ false
      past j k = rw (u.above j (omega arith), ne_eqb j i (λ (g : j ≡ i). omega arith)) (and-false on)

  -- at last, where no step is left, or f is off from i on
  module _ (h i : ℕ) (u : Upto f count h i) where
    by : ((j : ℕ) → i ≤ j → (ltb j count && f j) ≡ false) → (j : ℕ) → bit j h ≡ (ltb j count && f j)
    by off j = ⊎_elim (λ (k : j < i). u.below j k) (λ (k : i ≤ j). u.above j k ∙ sym (off j k)) (lt_or_ge j i)

    pub upto_all : count ≤ i → (j : ℕ) → bit j h ≡ (ltb j count && f j)
    upto_all l = by (λ j k. ap (λ (b : Bool). b && f j) (le-ltb j count (omega arith)))

    pub upto_off : ((j : ℕ) → i ≤ j → f j ≡ false) → (j : ℕ) → bit j h ≡ (ltb j count && f j)
    upto_off off = by (λ j k. ap (λ (b : Bool). ltb j count && b) (off j k) ∙ and-false (ltb j count))

-- a step whose mark is off takes nothing: those below the lowest mark, and those from i on where no mark is left
module _ (m : ℕ) (asked : ℕ → Bool) where
  off_hit : (j : ℕ) → bit j m ≡ false → (bit j m && asked j) ≡ false
  off_hit j e = ap (λ (b : Bool). b && asked j) e

  pub below_lowest : (i : ℕ) → Lowest 64 m i → (j : ℕ) → j < i → (bit j m && asked j) ≡ false
  below_lowest i x j l = off_hit j (x.none_below j l)

  pub none_left : (i : ℕ) → m / 2 ^ i ≡ 0 → (j : ℕ) → i ≤ j → (bit j m && asked j) ≡ false
  none_left i e j l =
      let z : i + (j - i) ≡ j = omega arith in
      off_hit j (ap (λ (k : ℕ). bit k m) (sym z) ∙ sym (bit_shr i (j - i) m) ∙ ap (bit (j - i)) e ∙ bit-zero (j - i))
