use Rattle.encoding.specs.RowTable.{narrow_below, narrow_above}
use Rattle.query_lexer.proofs.Names.{short_begins, short_over, short_wide_dead, short_goes_on, short_all}
use Rattle.query_lexer.proofs.shorthand.Goals as goal

pub loop-i-init : goal.loop-i-init
loop-i-init c = short_begins c.in_ok-i.ensures

pub loop-i-preserved : goal.loop-i-preserved
loop-i-preserved c = short_goes_on c.loop-i.invariant c.in-Ok.ensures

pub returns-in-Err : goal.returns-in-Err
returns-in-Err c = short_over c.loop-i.invariant c.in-Err.ensures (narrow_below c.narrow.ensures c.if-narrow.true)

pub returns-in-Err-2 : goal.returns-in-Err-2
returns-in-Err-2 c = short_wide_dead c.loop-i.invariant c.in-Err.ensures (narrow_above c.narrow.ensures c.if-narrow.false)

pub returns : goal.returns
returns c = short_all c.loop-i.invariant c.loop-i-test.false
