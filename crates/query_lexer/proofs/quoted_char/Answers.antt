-- `query_lexer::quoted_char` meets its contract: a code point is read by the rows of UTF-8, controls are dead, a backslash begins an escape,
-- and any other byte is a letter where it is not the quote. Assumes nothing.
use Rattle.std.proofs.Common.{arith}
use Rattle.encoding.specs.CodePoint.{Scanned}
use Rattle.encoding.specs.RowTable.{narrow_below, narrow_above}
use Rattle.query_escapes.specs.Scans.{Escaped}
use Rattle.query_escapes.specs.ScansLaws.{read_as}
use Rattle.query_lexer.specs.Scans.{QuotedChar}
use Rattle.query_lexer.proofs.Names.{quoted_wide, quoted_control, quoted_escape, quoted_letter}
use Rattle.query_lexer.proofs.quoted_char.Goals as goal

pub returns-then-not-narrow : goal.returns-then-not-narrow
returns-then-not-narrow c =
    read_as (Scanned _ _ _) (QuotedChar _ _ _) _
    (λ ok n. quoted_wide _ _ _ c.requires (narrow_above c.narrow.ensures c.if-not-narrow.true)) c.code_point.ensures

pub returns-then-b-lt-PRINTABLE : goal.returns-then-b-lt-PRINTABLE
returns-then-b-lt-PRINTABLE c = quoted_control _ _ _ c.requires (omega arith)

pub returns-then-b-eq-BACKSLASH : goal.returns-then-b-eq-BACKSLASH
returns-then-b-eq-BACKSLASH c = read_as (Escaped _ _ _) (QuotedChar _ _ _) _ (λ ok n. quoted_escape _ _ _ c.requires (omega arith)) c.escaped.ensures

pub returns : goal.returns
returns c = quoted_letter _ _ _ c.requires (omega arith) (narrow_below c.narrow.ensures c.if-not-narrow.false) (λ e. omega arith)
