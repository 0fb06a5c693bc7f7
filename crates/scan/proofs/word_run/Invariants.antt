-- Every byte passed is one of a word, eight at a time or alone; the run ends at the first that is not, or with the record. Assumes nothing.
use Prim.Native.Nat.{◌-◌}
use lib.ListN.{length}
use Rattle.swar.specs.Run.{Passed}
use Rattle.scan.specs.Scans.{is_word_byte}
use Rattle.scan.proofs.word_run.Given as goal

abbrev pub invariant-loop-at : goal.invariant-loop-at
invariant-loop-at l = Passed is_word_byte l.s l.at l.i

abbrev pub decreases-loop-at : goal.decreases-loop-at
decreases-loop-at l = length l.s - l.i
