-- `query_lexer::quoted` meets its contract: each character goes on spelling the name up to the first quote. The measure is
-- what is left of the query. Assumes nothing.
use Prim.Native.Nat.{◌-◌}
use lib.ListN.{length}
use Rattle.query_lexer.proofs.Names.{QuotedSoFar}
use Rattle.query_lexer.proofs.quoted.Given as goal

abbrev pub invariant-loop-i : goal.invariant-loop-i
invariant-loop-i l = QuotedSoFar l.query l.quote l.at l.i

abbrev pub decreases-loop-i : goal.decreases-loop-i
decreases-loop-i l = length l.query - l.i
