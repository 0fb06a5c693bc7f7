-- The bits of the child's marks are those of its next marks, cut to the number of steps; the last of the hits says whether it is picked out.
-- Assumes nothing.
use Rattle.marks.proofs.NextMarks.{advances_none, mask_positive, mask_fits, advances}
use Rattle.marks.proofs.advance.Goals as goal

pub returns-then-count-eq0 : goal.returns-then-count-eq0
returns-then-count-eq0 c = λ names operands l t. advances_none names _ operands _ l c.if-count-eq0.true

pub overflow_sub-all : goal.overflow_sub-all
overflow_sub-all c = mask_positive _ c.requires

pub overflow_cast-all-2 : goal.overflow_cast-all-2
overflow_cast-all-2 c = record { fits = mask_fits _ c.requires }

pub returns : goal.returns
returns c = advances _ _ _ c.requires c.if-count-eq0.false
