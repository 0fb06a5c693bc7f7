-- Laws of the brackets of a record that are open: from a place on with what is open there; where the last one closes. Assumes nothing.
use Rattle.std.specs.Prelude.{◌≡◌, Bool, List, ◌⊎◌, ℕ, suc, ◌+◌, ◌<◌, ◌≤◌, length, drop}
use Rattle.std.proofs.Common.{◌∙◌, inl, inr, arith}
use Rattle.bits.specs.Laws.{lt_or_ge}
use Rattle.blocks.specs.Words.{odd_before, odd_quotes, opens_at, closes_at}
use Rattle.blocks.specs.Laws.{opens_drop, closes_drop}
use Rattle.brackets.specs.DepthLaws.{depth_on, depth_none_at, depth_same}
use Rattle.leap.specs.Brackets.{depth_in, Closed}

-- of a record, from place p on with the facts and the open brackets there
pub depth_drop : (inside odd : Bool) (s : List ℕ) (n p i : ℕ)
    → depth_in (odd_quotes inside odd s p) (odd_before odd s p) (drop p s) (depth_in inside odd s n p) i ≡ depth_in inside odd s n (p + i)
unfolding depth_in
depth_drop inside odd s n p i =
    depth_same _ _ (λ j. opens_at inside odd s (p + j)) (λ j. closes_at inside odd s (p + j)) _ i
    (λ j l. opens_drop s inside odd p j) (λ j l. closes_drop s inside odd p j)
    ∙ depth_on (opens_at inside odd s) (closes_at inside odd s) n p i

-- there is one such place
pub closed_once : {inside odd : Bool} {s : List ℕ} {n d e : ℕ} → Closed inside odd s n d → Closed inside odd s n e → d ≡ e
closed_once {inside} {odd} {s} {n} {d} {e} p q = go (lt_or_ge d e) (lt_or_ge e d)
  where
    go : (d < e) ⊎ (e ≤ d) → (e < d) ⊎ (d ≤ e) → d ≡ e
    go (inl h) l = absurd (q.no_zero_before d h p.is_zero)
    go (inr h) (inl l) = absurd (p.no_zero_before e l q.is_zero)
    go (inr h) (inr l) = omega arith

-- the depth falls to 0 with the byte before this place
pub closed_at : {inside odd : Bool} {s : List ℕ} {n e : ℕ} → e < length s → (depth_in inside odd s n e ≡ 0 → ⊥) → depth_in inside odd s n (suc e) ≡ 0
    → Closed inside odd s n (suc e)
unfolding depth_in
closed_at {inside} {odd} {s} {n} {e} l some none = record {
  within = l;
  is_zero = none;
  no_zero_before = λ j r x. some (depth_none_at (opens_at inside odd s) (closes_at inside odd s) n j e (omega arith) x);
}
