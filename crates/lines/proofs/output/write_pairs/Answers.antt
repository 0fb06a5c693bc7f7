use Rattle.lines.specs.LineLaws.{left_fits, left_next, left_done}
use Rattle.lines.proofs.output.write_pairs.Goals as goal

pub write_line-end-requires : goal.write_line-end-requires
write_line-end-requires c = left_fits c.loop-i-test.true c.loop-i.invariant

pub loop-i-preserved : goal.loop-i-preserved
loop-i-preserved c = left_next c.loop-i-test.true c.loop-i.invariant c.write_line-end.ensures

pub returns : goal.returns
returns c = left_done c.loop-i-test.false c.loop-i.invariant
