-- `moves::add_escapes` meets its contract. The loop's invariant: the moves of the letters before this one are added. Assumes nothing.
use Rattle.std.proofs.Common.{take}
use Rattle.std.specs.List.{flat_map}
use Rattle.moves.specs.Moves.{Added, escape_letters, letter}
use Rattle.moves.proofs.add_escapes.Given as goal

abbrev pub invariant-loop-b : goal.invariant-loop-b
invariant-loop-b l = Added (flat_map letter (take l.b-index escape_letters)) l.initial.table l.table
