use Rattle.std.proofs.Common.{arith}
use Rattle.moves.proofs.MoveLaws.{adding_start, adding_more, adding_done}
use Rattle.moves.proofs.add_move.Goals as goal

pub loop-b-init : goal.loop-b-init
loop-b-init c = adding_start c.told-table

pub loop-b-preserved : goal.loop-b-preserved
loop-b-preserved c = adding_more c.loop-b.invariant (omega arith) (omega arith) (omega arith)

pub returns : goal.returns
returns c = adding_done c.loop-b.invariant (omega arith)

pub returns-2 : goal.returns-2
returns-2 c = adding_done (adding_more c.loop-b.invariant (omega arith) (omega arith) (omega arith)) (omega arith)
