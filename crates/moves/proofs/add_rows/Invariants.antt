-- `moves::add_rows` meets its contract. The loop's invariant: the moves of the rows before this one are added. Assumes nothing.
use Rattle.std.proofs.Common.{length, take}
use Rattle.std.specs.List.{flat_map}
use Rattle.moves.specs.Moves.{Added, wide_moves}
use Rattle.moves.proofs.MoveLaws.{leading_rows}
use Rattle.moves.proofs.add_rows.Given as goal

abbrev pub invariant-loop-row : goal.invariant-loop-row
invariant-loop-row l = Added (flat_map wide_moves (take (length l.yielded) leading_rows)) l.initial.table l.table
