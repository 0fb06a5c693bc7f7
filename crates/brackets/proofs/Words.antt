-- Past one block, by its words three and four. Counted: while fewer closing brackets stand in it than are open, the depth after it is a sum.
-- Bracket by bracket: below the lowest bit that is left there is no bracket that is not counted. Assumes nothing.
use mathlib.Core.Path.{◌≡◌, refl, sym, ap, ap₂, ◌∙◌}
use mathlib.Core.Bool.{Bool, true, false, xor, ◌||◌, false≢true}
use mathlib.Core.Logic.{⊎_elim}
use Prim.Native.Nat.{ℕ, zero, suc, ◌+◌, ◌-◌, ◌*◌, ◌%◌, ◌^◌, ◌<◌, ◌≤◌}
use native.Mathlib.Numerals.{add-one}
use native.Mathlib.Omega.{arith}
use lib.Bits.{bit_xor, bit_or, xor_lt}
use lib.Count.{ones, ones-le}
use borrow.Author.Tests.{eq-eqb, ne_eqb}
use Rattle.bits.specs.Bits.{bit, digit, Lowest}
use Rattle.bits.specs.Laws.{lt_or_ge, bit_or_lem, bit_xor_lem, bit-zero, bit_alone, number_is, bit_ext, count_on, ones_number}
use Rattle.bits.specs.Truth.{xor_false, neither, or_second}
use Rattle.brackets.specs.Depth.{after_place, depth_at}
use Rattle.brackets.specs.DepthLaws.{after_le, depth_quiet_to}
use Rattle.blocks.specs.Parts.{NotBoth}
use Rattle.brackets.specs.Closing.{Cleared, ClosesAt, StaysOpen}

-- ---- one bit less

pub cleared : (w i : ℕ) → w < 2 ^ 64 → i < 64 → bit i w ≡ true → Cleared w i (bit_xor w (1 * 2 ^ i % 2 ^ 64))
unfolding xor
cleared w i f s t = record {
  fits = xor_lt 64 w (1 * 2 ^ i % 2 ^ 64) f (omega arith);
  off = bit_xor_lem i w (1 * 2 ^ i % 2 ^ 64) ∙ ap₂ xor t (bit_alone 64 i i s ∙ eq-eqb i i refl);
  other = λ j ne. bit_xor_lem j w (1 * 2 ^ i % 2 ^ 64) ∙ ap (xor (bit j w)) (bit_alone 64 i j s ∙ ne_eqb j i ne) ∙ xor_false (bit j w);
}

-- ---- bits counted

ones_bits : (w : ℕ) → w < 2 ^ 64 → ones w ≡ count_on 64 (λ j. bit j w)
ones_bits w h = ap ones (number_is 64 w (λ j. bit j w) h (λ i l. refl)) ∙ ones_number 64 (λ j. bit j w)

count_same : (f g : ℕ → Bool) → ((j : ℕ) → f j ≡ g j) → (m : ℕ) → count_on m f ≡ count_on m g
unfolding count_on
count_same f g h zero = refl
count_same f g h (suc m) = ap₂ (λ (x : Bool) (y : ℕ). digit x + y) (h 0) (count_same (λ j. f (suc j)) (λ j. g (suc j)) (λ j. h (suc j)) m)

count_less : (f g : ℕ → Bool) (m i : ℕ) → i < m → f i ≡ false → g i ≡ true → ((j : ℕ) → (j ≡ i → ⊥) → f j ≡ g j) → count_on m f < count_on m g
unfolding count_on digit
count_less f g zero i h p q same = absurd (omega arith)
count_less f g (suc m) zero h p q same =
    omega (arith, ap digit p, ap digit q, count_same (λ j. f (suc j)) (λ j. g (suc j)) (λ j. same (suc j) (λ e. omega arith)) m)
count_less f g (suc m) (suc i) h p q same =
    omega (arith, ap digit (same 0 (λ e. omega arith)), count_less (λ j. f (suc j)) (λ j. g (suc j)) m i (omega arith) p q (λ j ne. same (suc j) (λ e. ne (omega arith))))

-- with a bit less there are fewer
ones_less : {w i r : ℕ} → w < 2 ^ 64 → i < 64 → bit i w ≡ true → Cleared w i r → ones r < ones w
ones_less {w} {i} {r} fw l t c =
    omega (arith, ones_bits w fw, ones_bits r c.fits, count_less (λ j. bit j r) (λ j. bit j w) 64 i l c.off t c.other)

-- the first place, and then the others
depth_first : (f g : ℕ → Bool) (n m : ℕ) → depth_at f g n (suc m) ≡ depth_at (λ j. f (suc j)) (λ j. g (suc j)) (after_place (f 0) (g 0) n) m
unfolding depth_at
depth_first f g n zero = refl
depth_first f g n (suc m) = ap (after_place (f (suc m)) (g (suc m))) (depth_first f g n m)

-- fewer closing brackets than are open
counted : (f g : ℕ → Bool) → ((j : ℕ) → f j ≡ true → g j ≡ true → ⊥) → (m n : ℕ) → count_on m g < n → depth_at f g n m ≡ n + count_on m f - count_on m g
unfolding count_on depth_at digit after_place
counted f g x zero n h = omega arith
counted f g x (suc m) n h =
    depth_first f g n m
    ∙ step (f 0) (g 0) n (x 0) h (counted (λ j. f (suc j)) (λ j. g (suc j)) (λ j. x (suc j)) m)
  where
    step : (o c : Bool) (n : ℕ) → (o ≡ true → c ≡ true → ⊥) → digit c + count_on m (λ j. g (suc j)) < n
        → ((n : ℕ) → count_on m (λ j. g (suc j)) < n → depth_at (λ j. f (suc j)) (λ j. g (suc j)) n m ≡ n + count_on m (λ j. f (suc j)) - count_on m (λ j. g (suc j)))
        → depth_at (λ j. f (suc j)) (λ j. g (suc j)) (after_place o c n) m ≡ n + (digit o + count_on m (λ j. f (suc j))) - (digit c + count_on m (λ j. g (suc j)))
    step o c zero x h r = absurd (omega arith)
    step true true (suc n) x h r = absurd (x refl refl)
    step true false (suc n) x h r = r (suc (suc n)) (omega arith) ∙ omega arith
    step false true (suc n) x h r = r n (omega arith) ∙ omega arith
    step false false (suc n) x h r = r (suc n) (omega arith) ∙ omega arith

pub passed_counted : {a b n opened closed : ℕ} → a < 2 ^ 64 → b < 2 ^ 64 → NotBoth a b → opened ≡ ones a → closed ≡ ones b → closed < n
    → StaysOpen a b n (n + opened - closed)
passed_counted {a} {b} {n} {opened} {closed} fa fb apart o c h =
    let x : opened ≡ count_on 64 (λ j. bit j a) = o ∙ ones_bits a fa in
    let y : closed ≡ count_on 64 (λ j. bit j b) = c ∙ ones_bits b fb in
    record {
      few = omega (arith, o, ones-le 64 a fa);
      some = omega arith;
      behind = counted (λ j. bit j a) (λ j. bit j b) apart 64 n (omega arith) ∙ ap₂ (λ (u v : ℕ). n + u - v) (sym x) (sym y);
    }

-- ---- bracket by bracket

-- every bracket before place `upto` is counted, `left` has the others, and `level` are open
pub record Counting (a b n left level : ℕ) : Type 0 where
  pub upto : ℕ
  pub small : upto ≤ 64
  pub few : level ≤ n + upto
  pub some : 1 ≤ level
  pub fits : left < 2 ^ 64
  pub clear : (j : ℕ) → j < upto → bit j left ≡ false
  pub rest : (j : ℕ) → upto ≤ j → bit j left ≡ (bit j a || bit j b)
  pub level_is : depth_at (λ j. bit j a) (λ j. bit j b) n upto ≡ level

-- a place that has a bracket has a closing one where it has no opening one
one_of_two : (o c : Bool) (n : ℕ) → (o ≡ false → c ≡ true) → after_place o c n ≡ after_place o true n
unfolding after_place
one_of_two o c zero h = refl
one_of_two true c (suc n) h = refl
one_of_two false c (suc n) h = ap (λ (x : Bool). after_place false x (suc n)) (h refl)

last_closes : (o : Bool) (n : ℕ) → 1 ≤ n → after_place o true n ≡ 0 → n ≡ 1
unfolding after_place
last_closes o zero l e = absurd (omega arith)
last_closes true (suc n) l e = absurd (omega arith)
last_closes false (suc n) l e = omega arith

pub opens_one : (o : Bool) (n : ℕ) → o ≡ true → 1 ≤ n → n + 1 ≡ after_place o true n
unfolding after_place
opens_one o zero e l = absurd (omega arith)
opens_one o (suc n) e l = rw e (omega arith)

pub closes_one : (o : Bool) (n : ℕ) → o ≡ false → 1 ≤ n → n - 1 ≡ after_place o true n
unfolding after_place
closes_one o zero e l = absurd (omega arith)
closes_one o (suc n) e l = rw e (omega arith)

pub counting_starts : {a b n : ℕ} → bit_or a b < 2 ^ 64 → 1 ≤ n → Counting a b n (bit_or a b) n
unfolding depth_at
counting_starts {a} {b} {n} f h = record {
  upto = 0;
  small = omega arith;
  few = omega arith;
  some = h;
  fits = f;
  clear = λ j l. absurd (omega arith);
  rest = λ j l. bit_or_lem j a b;
  level_is = refl;
}

module _ {a b n left level : ℕ} (v : Counting a b n left level) where
  -- no bracket stands from `upto` to a place up to which nothing is left
  quiet : (i : ℕ) → v.upto ≤ i → ((j : ℕ) → j < i → bit j left ≡ false) → depth_at (λ j. bit j a) (λ j. bit j b) n i ≡ level
  quiet i h none =
      depth_quiet_to (λ j. bit j a) (λ j. bit j b) n v.upto i h (λ j l r. neither (bit j a) (bit j b) (sym (v.rest j l) ∙ none j r)) ∙ v.level_is

  -- nothing is left
  pub counting_none : left ≡ 0 → StaysOpen a b n level
  counting_none z = record {
    few = omega (arith, v.few, v.small);
    some = v.some;
    behind = quiet 64 v.small (λ j r. ap (bit j) z ∙ bit-zero j);
  }

  module _ {i : ℕ} (some_left : left ≡ 0 → ⊥) (low : Lowest 64 left i) where
    pub next_lt : i < 64
    next_lt = ⊎_elim
        (λ (l : i < 64). l)
        (λ (l : 64 ≤ i). absurd (some_left (bit_ext 64 left 0 v.fits (omega arith) (λ j r. low.none_below j (omega arith) ∙ sym (bit-zero j)))))
        (lt_or_ge i 64)

    pub next_on : bit i left ≡ true
    next_on = low.is_on next_lt

    -- without it fewer bits are left
    pub counting_falls : {rest : ℕ} → Cleared left i rest → ones rest < ones left
    counting_falls c = ones_less v.fits next_lt next_on c

    counted_before : v.upto ≤ i
    counted_before = ⊎_elim (λ (l : i < v.upto). absurd (false≢true (sym (v.clear i l) ∙ next_on))) (λ (l : v.upto ≤ i). l) (lt_or_ge i v.upto)

    -- the depth before it, and which bracket it is
    level_before : depth_at (λ j. bit j a) (λ j. bit j b) n i ≡ level
    level_before = quiet i counted_before low.none_below

    closes : bit i a ≡ false → bit i b ≡ true
    closes h = or_second (bit i a) (bit i b) (sym (v.rest i counted_before) ∙ next_on) h

    clear_on : {rest : ℕ} → Cleared left i rest → (j : ℕ) → j < suc i → bit j rest ≡ false
    clear_on {rest} c j l = ⊎_elim
        (λ (h : j < i). c.other j (λ e. omega arith) ∙ low.none_below j h)
        (λ (h : i ≤ j). let z : j ≡ i = omega arith in ap (λ (k : ℕ). bit k rest) z ∙ c.off)
        (lt_or_ge j i)

    -- how many are open after it
    module _ {level' : ℕ} (next : level' ≡ after_place (bit i a) true level) where
      level_after : depth_at (λ j. bit j a) (λ j. bit j b) n (suc i) ≡ level'
      unfolding depth_at
      level_after =
          ap (after_place (bit i a) (bit i b)) level_before ∙ one_of_two (bit i a) (bit i b) level closes ∙ sym next

      -- none: it is the one that is looked for
      pub counting_found : level' ≡ 0 → ClosesAt a b n i
      counting_found z = record {
        in_block = next_lt;
        before = level_before ∙ last_closes (bit i a) level v.some (sym next ∙ z);
        behind = ap (depth_at (λ j. bit j a) (λ j. bit j b) n) (add-one i) ∙ level_after ∙ z;
      }

      -- some: the search goes on without it
      pub counting_on : {rest : ℕ} → Cleared left i rest → (level' ≡ 0 → ⊥) → Counting a b n rest level'
      counting_on c p = record {
        upto = suc i;
        small = omega (arith, next_lt);
        few = omega (arith, v.few, counted_before, next, after_le (bit i a) true level);
        some = omega arith;
        fits = c.fits;
        clear = clear_on c;
        rest = λ j l. c.other j (λ e. omega arith) ∙ v.rest j (omega (arith, counted_before));
        level_is = level_after;
      }
