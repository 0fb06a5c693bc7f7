-- How large the pile gets (change request S-6): a bound on the peak by the steps of a query alone, in every record.
use Rattle.std.specs.Prelude.{◌≡◌, List, ◌∷◌, ◌++◌, true, false, ℕ, ◌+◌, ◌<◌, length}
use Rattle.std.proofs.Math.Option.{Option, some, none}
use Rattle.query.specs.Steps.{Step}
use Rattle.select.specs.Marks.{AllSteps}

-- "a query of plain steps followed by one or more deep steps"
pub record PlainBeforeDeep (q : List Step) : Type 0 where
  pub plain : List Step
  pub deep : List Step
  pub parts : q ≡ plain ++ deep
  pub all_plain : AllSteps false plain
  pub all_deep : AllSteps true deep
  pub some_deep : 0 < length deep

-- a plain step stands behind a deep one; of such queries the request says nothing
pub record PlainBehindDeep (q : List Step) : Type 0 where
  pub before : List Step
  pub earlier : Step
  pub between : List Step
  pub later : Step
  pub after : List Step
  pub parts : q ≡ before ++ earlier ∷ between ++ later ∷ after
  pub earlier_deep : earlier.deep ≡ true
  pub later_plain : later.deep ≡ false

-- what the steps say of the peak: that it is at most so much, or nothing
pub data PileBound (q : List Step) : Option ℕ → Type 0 where
  -- "at most one fewer than its steps"
  deep : {k : ℕ} → PlainBeforeDeep q → k + 1 ≡ length q → PileBound q (some k)
  -- "For plain steps alone it is at most their number", which is 0 where there is no step
  plain : AllSteps false q → PileBound q (some (length q))
  -- the steps say nothing
  mixed : PlainBehindDeep q → PileBound q none
