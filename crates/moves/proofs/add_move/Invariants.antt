-- `moves::add_move` meets its contract. The loop's invariant: the move has been added to the bytes before `b`. Assumes nothing.
use Rattle.moves.proofs.MoveLaws.{Adding}
use Rattle.moves.proofs.add_move.Given as goal

abbrev pub invariant-loop-b : goal.invariant-loop-b
invariant-loop-b l = Adding l.low l.high l.word l.b l.initial.table l.table
