use Rattle.std.proofs.Common.{map}
use Rattle.std.proofs.lemmas.List.{length_push}
use Rattle.std.proofs.lemmas.Slice.Zip.{zip_turn, zip_end}
use Rattle.encoding.specs.Utf8.{rows}
use Rattle.moves.specs.Moves.{state_of, wide_rows, firsts, point_moves}
use Rattle.moves.proofs.MoveLaws.{added_none, rows_more}
use Rattle.moves.proofs.add_rows.Goals as goal

pub loop-row-init : goal.loop-row-init
loop-row-init c = added_none c.told-table

pub loop-row-preserved : goal.loop-row-preserved
unfolding rows
loop-row-preserved c =
    let here = zip_turn wide_rows (map state_of firsts) c.loop-row.yielded c.into_iter-row-iterator.result c.loop-row.row-iterator c.next.new.self _ (cc) (cc) c.loop-row.yielded_by _ c.in-Some.is c.next.ensures.steps in
    rw (length_push c.loop-row.yielded (c.in-Some.row, c.in-Some.state)) (rows_more here.0 here.2 here.3 c.loop-row.invariant c.add_row.ensures)

pub returns : goal.returns
unfolding rows point_moves
returns c =
    let all = zip_end wide_rows (map state_of firsts) c.loop-row.yielded c.into_iter-row-iterator.result c.loop-row.row-iterator c.next.new.self _ (cc) (cc) c.loop-row.yielded_by c.in-None.is c.next.ensures.steps in
    rw all at c.loop-row.invariant
