-- The hits are those of the child; without steps there are none. Assumes nothing.
use Rattle.marks.proofs.NextMarks.{none_taken}
use Rattle.marks.proofs.Query.advance.Goals as goal

pub advance-requires : goal.advance-requires
advance-requires c = c.args.self.now.fits.few

pub returns-then-count-eq0 : goal.returns-then-count-eq0
returns-then-count-eq0 c = λ l is. c.advance.ensures _ _ l (none_taken _ _ _ _ l c.if-count-eq0.true)

pub advance-requires-2 : goal.advance-requires-2
advance-requires-2 c = c.args.self.now.fits.few

pub returns : goal.returns
returns c = λ l is. c.advance-2.ensures _ _ l (c.taking.ensures l is)
