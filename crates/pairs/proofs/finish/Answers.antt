-- The end goes into the second number of the pair that waits, if one does. Assumes nothing.
use Rattle.pairs.proofs.Laws.{ends_none, ends_pair}
use Rattle.pairs.proofs.finish.Goals as goal

pub returns-in-Some : goal.returns-in-Some
returns-in-Some c = rw c.in-Some.is (ends_pair _ _ _ c.write.ensures)

pub returns-in_default : goal.returns-in_default
returns-in_default c = rw c.in_default.is (ends_none _ _)
