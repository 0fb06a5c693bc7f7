-- From quote to quote: one that is not escaped ends the string, and after an escaped one the string goes on. The invariant says that the string
-- is still ahead. Assumes nothing.
use Prim.Native.Nat.{◌-◌}
use lib.ListN.{length}
use Rattle.scan.proofs.Laws.{Within}
use Rattle.scan.proofs.string_end.Given as goal

abbrev pub invariant-loop-at : goal.invariant-loop-at
invariant-loop-at l = Within l.s l.at l.i

abbrev pub decreases-loop-at : goal.decreases-loop-at
decreases-loop-at l = length l.s - l.i
