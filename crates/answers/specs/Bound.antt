-- What is answered of how large the pile gets for a query (change request S-6), as functions of its bytes.
use Rattle.std.specs.Prelude.{◌≡◌, List, Bool, true, false, ℕ, zero, suc, ◌-◌}
use Rattle.std.proofs.Math.Option.{Option, some, none}
use Rattle.json_text.specs.Verdict.{max_depth}
use Rattle.query.specs.Verdict.{query_verdict, steps_in}
use Rattle.select.specs.PileBoundOf.{pile_bound}

-- as many frames as a record that is taken has room for, whatever the query: one for each of its 512 levels but the root's
abbrev pub max_frames : ℕ
max_frames = max_depth - 1

-- whether the steps bound the pile, and the most frames that it can come to: where they do not, as many as there is room for

unfoldable pub is_bound : Option ℕ → Bool
is_bound (some k) = true
is_bound none = false

unfoldable pub at_most : Option ℕ → ℕ
at_most (some k) = k
at_most none = max_frames

-- a query that is refused has no pile

unfoldable pub bounded_if : (ground : ℕ) → Option ℕ → Bool
unfolding is_bound
bounded_if zero b = is_bound b
bounded_if (suc g) b = false

unfoldable pub frames_if : (ground : ℕ) → Option ℕ → ℕ
unfolding at_most
frames_if zero b = at_most b
frames_if (suc g) b = 0

-- the two answers beside ground and place, which are those of the query
unfoldable pub bounded : (query : List ℕ) → Bool
unfolding bounded_if query_verdict pile_bound steps_in
bounded q = bounded_if (query_verdict q).ground (pile_bound (steps_in q))

unfoldable pub frames_bound : (query : List ℕ) → ℕ
unfolding frames_if query_verdict pile_bound steps_in
frames_bound q = frames_if (query_verdict q).ground (pile_bound (steps_in q))

-- the promise
pub record BoundsPile (query : List ℕ) (g p : ℕ) (b : Bool) (k : ℕ) : Type 0 where
  pub ground_is : g ≡ (query_verdict query).ground
  pub place_is : p ≡ (query_verdict query).place
  pub bounded_is : b ≡ bounded query
  pub frames_are : k ≡ frames_bound query
