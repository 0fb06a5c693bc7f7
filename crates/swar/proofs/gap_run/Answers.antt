-- `swar::gap_run` meets its contract: no byte of the kind stands there, or one before a byte that is none, or the others are passed too.
-- Assumes nothing.
use Rattle.swar.specs.KindLaws.{gap_holds, gap_fails}
use Rattle.swar.specs.Passing.{at_start, one_more, ends_at, ends_all, run_on}
use Rattle.swar.proofs.gap_run.Goals as goal

pub returns-then-at-s : goal.returns-then-at-s
returns-then-at-s c = ends_all (at_start c.requires) c.if-at-s.true

pub returns-then-s-at-gt-SPACE : goal.returns-then-s-at-gt-SPACE
returns-then-s-at-gt-SPACE c = ends_at (at_start c.requires) (gap_fails c.if-s-at-gt-SPACE.true)

pub returns-then-next-s : goal.returns-then-next-s
returns-then-next-s c = ends_all (one_more (at_start c.requires) c.if-at-s.false (gap_holds c.if-s-at-gt-SPACE.false)) c.if-next-s.true

pub returns-then-s-next-gt-SPACE : goal.returns-then-s-next-gt-SPACE
returns-then-s-next-gt-SPACE c = ends_at (one_more (at_start c.requires) c.if-at-s.false (gap_holds c.if-s-at-gt-SPACE.false)) (gap_fails c.if-s-next-gt-SPACE.true)

pub returns : goal.returns
returns c =
    run_on
    (one_more (one_more (at_start c.requires) c.if-at-s.false (gap_holds c.if-s-at-gt-SPACE.false)) c.if-next-s.false
    (gap_holds c.if-s-next-gt-SPACE.false))
    c.run.ensures
