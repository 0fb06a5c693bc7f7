-- `moves::Moves::last_characters` meets its contract. The loop's invariant: the reader has come to `i`, and up to its end there are whole
-- characters. Assumes nothing.
use Rattle.moves.specs.Moves.{Reader}
use Rattle.moves.proofs.Moves.last_characters.Given as goal

abbrev pub invariant-loop-i : goal.invariant-loop-i
invariant-loop-i l = Reader l.s l.at l.i l.reader.state l.reader.end
