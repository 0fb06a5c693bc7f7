-- A step takes an element by `*` or by its position; where no step with a position has a mark, no position is looked at. Assumes nothing.
use Rattle.marks.proofs.NextMarks.{element_every, element_positioned}
use Rattle.marks.proofs.taking.taking_element.Goals as goal

pub returns-then-live-eq0 : goal.returns-then-live-eq0
returns-then-live-eq0 c = λ names. element_every names _ _ _ _ c.if-live-eq0.true

pub returns : goal.returns
returns c = λ names. element_positioned names _ _ _ _ _ c.chosen.ensures
