-- `moves::Moves::characters_end` meets its contract. The loop's invariant: the reader has come to `i`, and up to its end there are whole
-- characters. The measure is how many bytes are left. Assumes nothing.
use Rattle.std.proofs.Common.{◌-◌, length}
use Rattle.moves.specs.Moves.{Reader}
use Rattle.moves.proofs.Moves.characters_end.Given as goal

abbrev pub invariant-loop-i : goal.invariant-loop-i
invariant-loop-i l = Reader l.s l.at l.i l.reader.state l.reader.end

abbrev pub decreases-loop-i : goal.decreases-loop-i
decreases-loop-i l = length l.s - l.i
