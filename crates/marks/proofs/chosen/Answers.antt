use Rattle.marks.proofs.Hits.{upto_none, upto_more, upto_all, upto_off, below_lowest, none_left}
use Rattle.marks.proofs.chosen.Goals as goal

pub loop-i-init : goal.loop-i-init
loop-i-init c = upto_none _ _ _ (below_lowest _ _ _ c.lowest-i.ensures)

pub returns-then-marks-i-eq0 : goal.returns-then-marks-i-eq0
returns-then-marks-i-eq0 c = upto_off _ _ _ _ c.loop-i.invariant (none_left _ _ _ c.if-marks-i-eq0.true)

pub loop-i-preserved : goal.loop-i-preserved
loop-i-preserved c = upto_more _ _ _ _ _ _ c.loop-i-test.true c.loop-i.invariant c.takes-taken.ensures c.with_bit-hits.ensures

pub returns : goal.returns
returns c = upto_all _ _ _ _ c.loop-i.invariant c.loop-i-test.false
