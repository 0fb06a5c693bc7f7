-- The bits below i are those of the steps below i, from the lowest mark on; one more with each turn, while a mark is left. Assumes nothing.
use mathlib.Core.Bool.{◌&&◌}
use Rattle.bits.specs.Bits.{bit}
use Rattle.marks.specs.Advances.{child_is}
use Rattle.marks.proofs.Hits.{Upto}
use Rattle.marks.proofs.chosen.Given as goal

abbrev pub invariant-loop-i : goal.invariant-loop-i
invariant-loop-i l = Upto (λ j. bit j l.marks && child_is l.names l.operands l.child j) l.count l.hits l.i
