use Rattle.std.proofs.Common.{◌≡◌, arith}
use Rattle.moves.specs.Moves.{escape_letters, letter, escape_moves}
use Rattle.moves.proofs.MoveLaws.{added_none, added_one, added_more}
use Rattle.moves.proofs.add_escapes.Goals as goal

pub loop-b-init : goal.loop-b-init
loop-b-init c = added_none c.told-table

pub loop-b-preserved : goal.loop-b-preserved
loop-b-preserved c = added_more letter escape_letters _ 0 c.loop-b-test.true c.loop-b.invariant (added_one _ c.add_move.ensures)

pub returns : goal.returns
unfolding escape_moves
returns c = let all : c.loop-b.b-index ≡ 8 = omega arith in rw all at c.loop-b.invariant
