-- `bound::frames_of` meets its contract. The invariant: what the steps that were passed say of the bound, by whether the last of them was
-- deep. Assumes nothing.
use mathlib.Core.Bool.{true}
use mathlib.Core.List.{List}
use mathlib.Core.Path.{◌≡◌}
use Prim.Native.Nat.{◌<◌}
use Rattle.query.specs.Steps.{Step}
use Rattle.select.proofs.PileBoundPassed.{Passed}
use Rattle.bound.specs.Told.{DeepSteps}
use Rattle.bound.proofs.frames_of.Given as goal

abbrev pub invariant-loop-i : goal.invariant-loop-i
invariant-loop-i l = record {
  some : l.found ≡ true → 0 < l.i;
  passed : (q : List Step) → DeepSteps q l.count l.deep → Passed q l.i l.found;
}
