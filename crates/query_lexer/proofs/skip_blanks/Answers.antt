use Rattle.query_lexer.proofs.Blanks.{no_blanks, one_more, skipped, all_blanks}
use Rattle.query_lexer.proofs.skip_blanks.Goals as goal

pub loop-i-init : goal.loop-i-init
loop-i-init c = no_blanks c.requires

pub returns-then-not-is_blank : goal.returns-then-not-is_blank
returns-then-not-is_blank c = skipped c.loop-i.invariant c.if-not-is_blank.ensures

pub loop-i-preserved : goal.loop-i-preserved
loop-i-preserved c = one_more c.loop-i.invariant c.loop-i-test.true c.if-not-is_blank.ensures

pub returns : goal.returns
returns c = all_blanks c.loop-i.invariant c.loop-i-test.false
