-- `path::measure` meets its contract: each turn measures one link more, from the last one down, until one has half of a surrogate pair.
-- Assumes nothing.
use Rattle.path.proofs.Turns.{MeasuredTo}
use Rattle.path.proofs.measure.Given as goal

abbrev pub invariant-loop-i : goal.invariant-loop-i
invariant-loop-i l = MeasuredTo l.record l.links l.i l.size
