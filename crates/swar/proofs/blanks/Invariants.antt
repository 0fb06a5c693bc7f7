-- `swar::blanks` meets its contract. The loop's invariant: there are blanks only from `at` to `i`; a space is a blank.
-- Assumes nothing.
use Prim.Native.Nat.{◌-◌}
use lib.ListN.{length}
use Rattle.swar.specs.Kinds.{blank}
use Rattle.swar.specs.Run.{Passed}
use Rattle.swar.proofs.blanks.Given as goal

abbrev pub invariant-loop-i : goal.invariant-loop-i
invariant-loop-i l = Passed blank l.s l.at l.i

abbrev pub decreases-loop-i : goal.decreases-loop-i
decreases-loop-i l = length l.s - l.i
