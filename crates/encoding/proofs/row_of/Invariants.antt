-- `encoding::row_of` meets its contract. The loop's invariant: what a first byte `b` begins is read by the rows from the next one on, since it
-- is in none of those before. Assumes nothing.
use Prim.Native.Nat.{◌+◌}
use Rattle.encoding.proofs.RowLaws.{From}
use Rattle.encoding.proofs.row_of.Given as goal

abbrev pub invariant-loop-row : goal.invariant-loop-row
invariant-loop-row l = From l.b (l.row-index + 1)
