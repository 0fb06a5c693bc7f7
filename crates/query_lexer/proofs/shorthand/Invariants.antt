-- `query_lexer::shorthand` meets its contract: each character goes on spelling the name, and a byte below 80 that is none
-- ends it, as the end of the query does. The measure is what is left of the query. Assumes nothing.
use Prim.Native.Nat.{◌-◌}
use lib.ListN.{length}
use Rattle.query_lexer.proofs.Names.{ShortSoFar}
use Rattle.query_lexer.proofs.shorthand.Given as goal

abbrev pub invariant-loop-i : goal.invariant-loop-i
invariant-loop-i l = ShortSoFar l.query l.at l.i

abbrev pub decreases-loop-i : goal.decreases-loop-i
decreases-loop-i l = length l.query - l.i
