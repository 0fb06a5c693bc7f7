-- `swar::eights` meets its contract. The loop's invariant: all bytes from `at` to `i` are of the kind. Eight more are where none of them is
-- marked; else those before the first that is, and that one is not. Assumes nothing.
use Rattle.std.proofs.Common.{◌-◌, length}
use Rattle.swar.specs.Run.{Passed}
use Rattle.swar.proofs.eights.Given as goal

abbrev pub invariant-loop-i : goal.invariant-loop-i
invariant-loop-i g l = Passed g.K.Kind.kind l.s l.at l.i

abbrev pub decreases-loop-i : goal.decreases-loop-i
decreases-loop-i g l = length l.s - l.i
