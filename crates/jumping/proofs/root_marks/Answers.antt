-- Each way out is one law of Root. Assumes nothing.
use Rattle.jumping.proofs.Root.{roots_none, roots_some}
use Rattle.jumping.proofs.root_marks.Goals as goal

pub returns-then-count-eq0 : goal.returns-then-count-eq0
returns-then-count-eq0 c = roots_none c.if-count-eq0.true

pub returns : goal.returns
returns c = roots_some c.if-count-eq0.false
