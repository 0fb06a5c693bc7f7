-- The greater of two numbers, unless the walk has stopped. Assumes nothing.
use native.Mathlib.Omega.{arith}
use Rattle.pairs.proofs.Laws.{raises_stopped, raises_to}
use Rattle.pairs.proofs.raise.Goals as goal

pub returns-then-is_none : goal.returns-then-is_none
returns-then-is_none c = raises_to _ _ _ _ c.if-is_none.ensures (omega (arith, c.max-counts.ensures))

pub returns-else-is_none : goal.returns-else-is_none
returns-else-is_none c = raises_stopped _ _ _ _ c.if-is_none.ensures
