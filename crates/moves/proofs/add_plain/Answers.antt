-- `moves::add_plain` meets its contract: move by move, the third up to the last byte of the first row. Assumes nothing.
use Rattle.encoding.specs.Utf8.{rows}
use Rattle.moves.specs.Moves.{plain_moves}
use Rattle.moves.proofs.MoveLaws.{added_one, added_then}
use Rattle.moves.proofs.add_plain.Goals as goal

pub returns : goal.returns
unfolding plain_moves rows
returns c =
    added_then (added_one _ c.add_move.ensures)
    (added_then (added_one _ c.add_move-2.ensures)
    (added_then (added_one _ c.add_move-3.ensures)
    (added_one _ c.add_move-4.ensures)))
