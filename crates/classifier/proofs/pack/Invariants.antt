-- After i turns each class has its first i packed bytes; a turn writes the next one of each. Assumes nothing.
use Rattle.classifier.specs.Packed.{PackedClasses}
use Rattle.classifier.proofs.pack.Given as goal

abbrev pub invariant-loop-i : goal.invariant-loop-i
invariant-loop-i l = PackedClasses l.s l.m.quotes l.m.backslashes l.m.opening l.m.closing l.i
