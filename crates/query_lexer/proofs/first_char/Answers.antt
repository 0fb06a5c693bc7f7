-- `query_lexer::first_char` meets its contract: a digit is dead where a name is due, and any other character is read as
-- one of a name. Assumes nothing.
use Rattle.query_escapes.specs.ScansLaws.{read_as}
use Rattle.query_lexer.specs.Scans.{NameChar, FirstChar}
use Rattle.query_lexer.specs.ScansLaws.{a_digit, not_digit}
use Rattle.query_lexer.proofs.Names.{first_char, no_first_digit}
use Rattle.query_lexer.proofs.first_char.Goals as goal

pub returns-then-is_digit : goal.returns-then-is_digit
returns-then-is_digit c = no_first_digit _ _ c.requires (a_digit c.is_digit.ensures c.if-is_digit.true)

pub returns : goal.returns
returns c =
    read_as (NameChar _ _) (FirstChar _ _) _ (λ ok n x. first_char x (not_digit c.is_digit.ensures c.if-is_digit.false)) c.name_char.ensures
