-- `query_lexer::position` meets its contract: each digit that leads on is one more of those that stand there. Assumes nothing.
use Rattle.query_lexer.proofs.Positions.{DigitsUpTo}
use Rattle.query_lexer.proofs.position.Given as goal

abbrev pub invariant-loop-i : goal.invariant-loop-i
invariant-loop-i l = DigitsUpTo l.query l.at l.i l.number
