use Rattle.scan.proofs.Escapes.{back_start, back_on, back_stop, back_all}
use Rattle.scan.proofs.escaped.Goals as goal

pub loop-before-init : goal.loop-before-init
loop-before-init c = back_start c.requires.from_le_q

pub returns-then-s-before-ne-BACKSLASH : goal.returns-then-s-before-ne-BACKSLASH
returns-then-s-before-ne-BACKSLASH c = back_stop c.loop-before.invariant c.loop-before-test.true c.if-s-before-ne-BACKSLASH.true

pub loop-before-preserved : goal.loop-before-preserved
loop-before-preserved c = back_on c.loop-before.invariant c.loop-before-test.true c.if-s-before-ne-BACKSLASH.false

pub returns : goal.returns
returns c = back_all c.loop-before.invariant c.loop-before-test.false
