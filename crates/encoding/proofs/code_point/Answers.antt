-- `encoding::code_point` meets its contract: at the end, at a byte that no row has, and by the row of the byte that stands there.
-- Assumes nothing.
use mathlib.Core.Path.{refl}
use Rattle.encoding.specs.CodePoint.{decoding}
use Rattle.encoding.proofs.Scans.{at_end}
use Rattle.encoding.proofs.code_point.Goals as goal

pub returns-then-at-s : goal.returns-then-at-s
unfolding decoding
returns-then-at-s c = at_end c.if-at-s.true refl
