-- With no step there is no mark and the root is picked out; with one or more it has mark 0 alone. Assumes nothing.
use Rattle.plain.proofs.Laws.{starts_none, starts_some}
use Rattle.plain.proofs.root_state.Goals as goal

pub returns-then-count-eq0 : goal.returns-then-count-eq0
returns-then-count-eq0 c = starts_none _ c.if-count-eq0.true

pub returns : goal.returns
returns c = starts_some _ c.if-count-eq0.false
