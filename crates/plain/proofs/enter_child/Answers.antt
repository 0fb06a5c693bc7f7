-- The item's value and its marks are what the item says, and its frames follow from its marks. Assumes nothing.
use Rattle.plain.proofs.Laws.{enters_child}
use Rattle.plain.proofs.enter_child.Goals as goal

pub returns : goal.returns
returns c = enters_child c.enter_child-child.ensures c.framed-frames.ensures
