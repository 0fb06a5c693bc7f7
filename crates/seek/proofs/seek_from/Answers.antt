-- `seek::seek_from` meets its contract: behind the first blanks stands the root, and every value is the root or below it. Assumes nothing.
use Rattle.seek.proofs.Descent.{seeks_root}
use Rattle.seek.proofs.Keeping.{keeps_root}
use Rattle.seek.proofs.seek_from.Goals as goal

pub returns-clause-finds : goal.returns-clause-finds
returns-clause-finds g c =
    rw c.ok.ensures.value (seeks_root _ _ _ c.seek_value.result c.skip_blanks-at.ensures c.seek_value.ensures.seeks)

pub returns-clause-keeps : goal.returns-clause-keeps
returns-clause-keeps g c =
    rw c.ok.ensures.value (keeps_root _ _ _ _ _ _ c.seek_value.result c.skip_blanks-at.ensures c.seek_value.ensures.keeps)
