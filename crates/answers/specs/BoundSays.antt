-- What is answered of how large the pile gets for a query, in the words of change request S-6; and what that says of every listing.
use Rattle.std.specs.Prelude.{◌≡◌, List, Bool, true, false, ℕ, ◌+◌, ◌≤◌, ◌<◌, length}
use Rattle.encoding.specs.Verdict.{Verdict}
use Rattle.query.specs.Grammar.{Query, steps_of}
use Rattle.query.specs.Verdict.{QuerySays}
use Rattle.select.specs.Marks.{AllSteps, DeepPeak}
use Rattle.select.specs.PileBound.{PlainBeforeDeep, PlainBehindDeep}
use Rattle.answers.specs.Bound.{max_frames}
use Rattle.answers.specs.Within.{QueryIs}

-- ground, place, whether the steps bound the pile, and the most frames that it can come to
pub data BoundSays (query : List ℕ) : (ground : ℕ) (place : ℕ) → (bounded : Bool) → (frames : ℕ) → Type 0 where
  -- 1 to 3: what the verdict says of the query
  query_refused : (v : Verdict) → QuerySays query v → 0 < v.ground → BoundSays query v.ground v.place false 0
  -- plain steps followed by one or more deep steps: one fewer than its steps
  deep_last : (q : Query) → QueryIs query q → PlainBeforeDeep (steps_of q) → (k : ℕ) → k + 1 ≡ length q → BoundSays query 0 0 true k
  -- plain steps alone: their number
  plain_alone : (q : Query) → QueryIs query q → AllSteps false (steps_of q) → BoundSays query 0 0 true (length q)
  -- a plain step behind a deep one: the steps give no bound
  no_bound : (q : Query) → QueryIs query q → PlainBehindDeep (steps_of q) → BoundSays query 0 0 false max_frames

-- change request S-6, of a query and a peak
pub record PileStays (q : Query) (peak : ℕ) : Type 0 where
  -- "For a query of plain steps followed by one or more deep steps, the peak is at most one fewer than its steps."
  pub deep_last_lem : PlainBeforeDeep (steps_of q) → peak + 1 ≤ length q
  -- "For plain steps alone it is at most their number."
  pub plain_alone_lem : AllSteps false (steps_of q) → peak ≤ length q
  -- "where Q has only deep steps the peak .. is at most one fewer than Q has steps, or none for no step" (demand 3)
  pub deep_alone : AllSteps true (steps_of q) → DeepPeak (steps_of q) peak
