-- `characters::rest_run` meets its contract: a quote is not plain, so that the run is empty where one stands.
-- Assumes nothing.
use Rattle.swar.specs.KindLaws.{plain_fails, quote}
use Rattle.swar.specs.Passing.{at_start, ends_at}
use Rattle.characters.proofs.rest_run.Goals as goal

pub returns-then-s-at-eq34 : goal.returns-then-s-at-eq34
returns-then-s-at-eq34 c = ends_at (at_start c.requires) (plain_fails (quote c.if-s-at-eq34.true))
