-- What reading a query answers (document 01, "Grounds for refusing"): the verdict, and the steps where it is taken, with their names decoded.
use Rattle.std.specs.Prelude.{◌≡◌, List, ℕ, Result, Ok, Err, IfOk}
use Rattle.encoding.specs.declared.Dead.{Dead}
use Rattle.encoding.specs.declared.refusals.Ground.TheVariants.{QueryWrong, TooManySteps}
use Rattle.encoding.specs.declared.refusals.Refusal.{Refusal}
use Rattle.encoding.specs.Refusals.{refusing, verdict_of}
use Rattle.query.specs.Read.{Reading, good, bad}
use Rattle.query.specs.Verdict.{steps_in, query_verdict}
use Rattle.query_parser.specs.declared.compiled.Compiled.{Compiled}
use Rattle.query_parser.specs.Holds.{Holds}

-- ground 2 at a place
abbrev pub wrong_at : ℕ → Refusal
wrong_at p = refusing QueryWrong p

-- whether steps stand from a place of a query on, by what is read there
abbrev pub rest_of : Reading → Result Unit Dead
rest_of (good a) = Ok tt
rest_of (bad p) = Err (record { at = p })

-- a query whose 17th step begins at `place`, by what stands behind that step
abbrev pub overflow : ℕ → Result Unit Dead → Refusal
overflow place (Ok x) = refusing TooManySteps place
overflow place (Err d) = wrong_at d.at

-- the verdict; and all steps of a query that is taken
pub record QueryRead (q names : List ℕ) (r : Result Compiled Refusal) : Type 0 where
  pub verdict : verdict_of r ≡ query_verdict q
  pub steps : IfOk r (λ c. Holds names (steps_in q) c.kinds c.operands)
