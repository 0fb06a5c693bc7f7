-- `query_lexer::skip_blanks` meets its contract: each blank passed is one more of those that stand there. Assumes nothing.
use Rattle.query_lexer.proofs.Blanks.{BlanksUpTo}
use Rattle.query_lexer.proofs.skip_blanks.Given as goal

abbrev pub invariant-loop-i : goal.invariant-loop-i
invariant-loop-i l = BlanksUpTo l.query l.at l.i
