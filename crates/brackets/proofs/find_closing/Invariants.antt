-- `brackets::find_closing` meets its contract. The loop's invariant: every bracket below the lowest bit that is left is counted.
-- The measure is how many bits are left. Assumes nothing.
use lib.Count.{ones}
use Rattle.brackets.proofs.Words.{Counting}
use Rattle.brackets.proofs.find_closing.Given as goal

abbrev pub invariant-loop-left : goal.invariant-loop-left
invariant-loop-left l = Counting l.opening l.closing l.depth l.left l.level

abbrev pub decreases-loop-left : goal.decreases-loop-left
decreases-loop-left l = ones l.left
