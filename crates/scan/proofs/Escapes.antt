-- Whether a byte is escaped, asked backwards: each backslash passed turns the answer over, and any other byte, or the first place, settles it.
-- Assumes nothing.
use mathlib.Core.Path.{◌≡◌, sym, ap, ◌∙◌}
use mathlib.Core.List.{List}
use mathlib.Core.Bool.{Bool, false, not, xor, ◌&&◌}
use Prim.Native.Nat.{ℕ, suc, ◌+◌, ◌-◌, ◌≤◌, ◌<◌}
use native.Mathlib.Omega.{arith}
use lib.Dec.{eqb}
use lib.ListN.{drop, get_or}
use borrow.Author.Tests.{eq-eqb, ne_eqb}
use Rattle.bits.specs.Truth.{truth, xor_false, false_xor}
use Rattle.blocks.specs.Laws.{backslash_drop}
use Rattle.blocks.specs.Words.{odd_before}
use Rattle.classifier.specs.Classes.{byte_at, is_backslash}

xor_not : (x y : Bool) → xor x (not y) ≡ xor (not x) y
unfolding xor
xor_not = truth 2 (λ x y. xor x (not y)) (λ x y. xor (not x) y) tt

-- from place i up to q there are backslashes only, and `odd` says whether they are odd in number
pub record Back (s : List ℕ) (from q : ℕ) (odd : Bool) (i : ℕ) : Type 0 where
  pub onward : from ≤ i
  pub within : i ≤ q
  pub flag : odd_before false (drop from s) (q - from) ≡ xor odd (odd_before false (drop from s) (i - from))

module _ {s : List ℕ} {from q : ℕ} where
  pub back_start : from ≤ q → Back s from q false q
  back_start h = record { onward = h; within = omega arith; flag = sym (false_xor (odd_before false (drop from s) (q - from))) }

  module _ {odd : Bool} {i : ℕ} (b : Back s from q odd i) where
    -- the first place is reached
    pub back_all : i ≤ from → odd ≡ odd_before false (drop from s) (q - from)
    unfolding odd_before
    back_all h =
        let z : i - from ≡ 0 = omega arith in
        sym (b.flag ∙ ap (λ (n : ℕ). xor odd (odd_before false (drop from s) n)) z ∙ xor_false odd)

    module _ (h : from < i) where
      -- what stands before place i, by the byte before it
      before : odd_before false (drop from s) (i - from) ≡ (eqb (get_or s (i - 1) 0) 0x5C && not (odd_before false (drop from s) (i - 1 - from)))
      unfolding odd_before is_backslash byte_at
      before =
          let n : i - from ≡ suc (i - 1 - from) = omega arith in
          let m : from + (i - 1 - from) ≡ i - 1 = omega arith in
          ap (odd_before false (drop from s)) n
          ∙ ap (λ (x : Bool). x && not (odd_before false (drop from s) (i - 1 - from)))
          (backslash_drop s false false from (i - 1 - from) ∙ ap (is_backslash s) m)

      pub back_stop : (get_or s (i - 1) 0 ≡ 0x5C → ⊥) → odd ≡ odd_before false (drop from s) (q - from)
      back_stop f = sym (b.flag ∙ ap (xor odd) (rw (ne_eqb (get_or s (i - 1) 0) 0x5C f) at before) ∙ xor_false odd)

      pub back_on : get_or s (i - 1) 0 ≡ 0x5C → Back s from q (not odd) (i - 1)
      back_on e =
          let turned = rw (eq-eqb (get_or s (i - 1) 0) 0x5C e) at before in
          record {
            onward = omega arith;
            within = omega (arith, b.within);
            flag = b.flag ∙ ap (xor odd) turned ∙ xor_not odd (odd_before false (drop from s) (i - 1 - from));
          }
