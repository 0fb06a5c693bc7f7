-- `query_parser::read_query` meets its contract: the steps read so far stand before what is still to be read, and are held, with their names;
-- the end of the query, a dead byte or a seventeenth step decide. The measure is what is left of the query. Assumes nothing.
use Prim.Native.Nat.{◌-◌}
use lib.ListN.{length}
use Rattle.query_parser.proofs.Answers.{SoFar}
use Rattle.query_parser.proofs.read_query.Given as goal

abbrev pub invariant-loop-at : goal.invariant-loop-at
invariant-loop-at l = SoFar l.query l.names l.steps l.at

abbrev pub decreases-loop-at : goal.decreases-loop-at
decreases-loop-at l = length l.query - l.at
