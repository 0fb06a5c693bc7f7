use Rattle.std.proofs.Common.{refl}
use Rattle.query_escapes.specs.ScansLaws.{handed}
use Rattle.query_lexer.proofs.Names.{quoted_begins, quoted_closes, quoted_dead, quoted_goes_on, quoted_open}
use Rattle.query_lexer.proofs.quoted.Goals as goal

pub loop-i-init : goal.loop-i-init
loop-i-init c = quoted_begins c.requires

pub returns-then-query-i : goal.returns-then-query-i
returns-then-query-i c = quoted_closes c.loop-i.invariant c.loop-i-test.true c.if-query-i.true

pub returns-in_err-i : goal.returns-in_err-i
returns-in_err-i c = rw (handed _ c.from_residual.ensures.1 refl) (quoted_dead c.loop-i.invariant c.if-query-i.false c.in_err-i.ensures)

pub loop-i-preserved : goal.loop-i-preserved
loop-i-preserved c = quoted_goes_on c.loop-i.invariant c.if-query-i.false c.in_ok-i.ensures

pub returns : goal.returns
returns c = quoted_open c.loop-i.invariant c.loop-i-test.false
