use Rattle.swar.specs.Passing.{one_more, passed_on, passed_as, ends_at, ends_all}
use Rattle.scan.specs.ShapeLaws.{inner_word}
use Rattle.scan.proofs.Laws.{word_byte}
use Rattle.scan.proofs.word_run.Goals as goal

pub returns-then-end-s : goal.returns-then-end-s
returns-then-end-s c = ends_all (passed_on c.loop-at.invariant (passed_as inner_word c.passed-end.ensures)) c.if-end-s.true

pub returns-then-ends_word : goal.returns-then-ends_word
returns-then-ends_word c =
    ends_at (passed_on c.loop-at.invariant (passed_as inner_word c.passed-end.ensures))
    (word_byte _ c.if-ends_word.ensures)

pub loop-at-preserved : goal.loop-at-preserved
loop-at-preserved c =
    one_more (passed_on c.loop-at.invariant (passed_as inner_word c.passed-end.ensures)) c.if-end-s.false
    (word_byte _ c.if-ends_word.ensures)
