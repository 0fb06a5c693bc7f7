-- `scalars::numbers::digits_end` meets its contract. The loop's invariant: every byte passed is a digit. The measure is what is left of the
-- length. Assumes nothing.
use Prim.Native.Nat.{◌-◌}
use lib.ListN.{length}
use Rattle.lanes.specs.Kinds.{digit}
use Rattle.swar.specs.Run.{Passed}
use Rattle.scalars.proofs.numbers.digits_end.Given as goal

abbrev pub invariant-loop-from : goal.invariant-loop-from
invariant-loop-from l = Passed digit l.s l.from l.i

abbrev pub decreases-loop-from : goal.decreases-loop-from
decreases-loop-from l = length l.s - l.i
