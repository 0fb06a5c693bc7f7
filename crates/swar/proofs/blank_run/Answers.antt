-- `swar::blank_run` meets its contract: no blank stands there, or one space before a byte that is none, or the blanks are passed.
-- Assumes nothing.
use Rattle.encoding.specs.Bytes.{space}
use Rattle.swar.specs.KindLaws.{blank_holds, blank_fails, above_blanks}
use Rattle.swar.specs.Passing.{at_start, one_more, ends_at, ends_all}
use Rattle.swar.proofs.blank_run.Goals as goal

pub returns-then-at-s : goal.returns-then-at-s
returns-then-at-s c = ends_all (at_start c.requires) c.if-at-s.true

pub returns-then-s-at-gt-SPACE : goal.returns-then-s-at-gt-SPACE
returns-then-s-at-gt-SPACE c = ends_at (at_start c.requires) (blank_fails (above_blanks c.if-s-at-gt-SPACE.true))

pub returns-then-s-at-eq-SPACE : goal.returns-then-s-at-eq-SPACE
returns-then-s-at-eq-SPACE c = ends_at (one_more (at_start c.requires) c.if-at-s.false (blank_holds space c.if-s-at-eq-SPACE.true)) (blank_fails (above_blanks c.if-s-next-gt-SPACE.true))
