-- `moves::add_row` meets its contract: a move of the row's first bytes and one of its second. Assumes nothing.
use Rattle.moves.proofs.MoveLaws.{row_added}
use Rattle.moves.proofs.add_row.Goals as goal

pub returns : goal.returns
returns c = row_added c.add_move.ensures c.after_second.ensures c.add_move-2.ensures
