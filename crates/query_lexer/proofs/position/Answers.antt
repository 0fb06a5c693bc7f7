use Rattle.query_lexer.proofs.Positions.{first_digit, one_more, ends_before, ends_query}
use Rattle.query_lexer.proofs.position.Goals as goal

pub loop-i-init : goal.loop-i-init
loop-i-init c = first_digit c.requires.0 c.requires.1 c.with_digit-number.ensures

pub leads_on-requires : goal.leads_on-requires
leads_on-requires c = c.loop-i.invariant.small

pub returns-in_default : goal.returns-in_default
returns-in_default c = ends_before c.loop-i.invariant c.in_default.ensures

pub loop-i-preserved : goal.loop-i-preserved
loop-i-preserved c = one_more c.loop-i.invariant c.loop-i-test.true c.in-Some.ensures

pub returns : goal.returns
returns c = ends_query c.loop-i.invariant c.loop-i-test.false
