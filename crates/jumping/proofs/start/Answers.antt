-- The root stands after the blanks, with its marks. Assumes nothing.
use Rattle.jumping.proofs.Root.{starts}
use Rattle.jumping.proofs.start.Goals as goal

pub returns : goal.returns
returns c = starts c.skip_blanks-at.ensures c.root_marks-marks.ensures
