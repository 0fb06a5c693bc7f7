-- `query_parser::read_rest` meets its contract: each step read leaves the rest of the query to read, and what stands behind all of them
-- decides. The measure is what is left of the query. Assumes nothing.
use Prim.Native.Nat.{◌-◌}
use lib.ListN.{length}
use Rattle.query_parser.proofs.DeadBytes.{RestFrom}
use Rattle.query_parser.proofs.read_rest.Given as goal

abbrev pub invariant-loop-i : goal.invariant-loop-i
invariant-loop-i l = RestFrom l.query l.at l.i

abbrev pub decreases-loop-i : goal.decreases-loop-i
decreases-loop-i l = length l.query - l.i
