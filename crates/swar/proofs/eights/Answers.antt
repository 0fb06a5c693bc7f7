use Rattle.std.proofs.Common.{arith}
use Rattle.swar.specs.Passing.{at_start, passed_eight, ends_first}
use Rattle.swar.proofs.eights.Goals as goal

pub loop-i-init : goal.loop-i-init
loop-i-init g c = at_start c.requires

pub returns-then-w-ne0 : goal.returns-then-w-ne0
returns-then-w-ne0 g c = ends_first c.type_inv.s c.load8.ensures c.stops-w.ensures c.loop-i.invariant (omega arith) c.zero_bytes.ensures c.if-w-ne0.true

pub loop-i-preserved : goal.loop-i-preserved
loop-i-preserved g c = passed_eight c.type_inv.s c.load8.ensures c.stops-w.ensures c.loop-i.invariant (omega arith) c.if-w-ne0.false

pub returns : goal.returns
returns g c = c.loop-i.invariant
