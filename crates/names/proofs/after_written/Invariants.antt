-- A turn takes one byte of the record's name, or one escape, and finds it in the query's name or not. Assumes nothing.
use Prim.Native.Nat.{◌-◌}
use lib.ListN.{length}
use Rattle.names.proofs.Compare.{Passed}
use Rattle.names.proofs.after_written.Given as goal

abbrev pub invariant-loop-j : goal.invariant-loop-j
invariant-loop-j l = Passed l.name l.written l.rest l.j

abbrev pub decreases-loop-j : goal.decreases-loop-j
decreases-loop-j l = length l.written - l.j
