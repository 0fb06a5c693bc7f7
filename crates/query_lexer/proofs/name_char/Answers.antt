-- `query_lexer::name_char` meets its contract: a byte from 80 on is read by the rows of UTF-8 as the machine reads it, and
-- a byte below 80 leads the machine by its table. Assumes nothing.
use Rattle.encoding.specs.CodePoint.{Scanned}
use Rattle.encoding.specs.RowTable.{narrow_below, narrow_above}
use Rattle.query_escapes.specs.ScansLaws.{read_as}
use Rattle.query_lexer.specs.Scans.{NameChar}
use Rattle.query_lexer.proofs.Names.{name_wide, name_on, name_off}
use Rattle.query_lexer.proofs.name_char.Goals as goal

pub returns-then-not-narrow : goal.returns-then-not-narrow
returns-then-not-narrow c =
    read_as (Scanned _ _ _) (NameChar _ _) _
    (λ ok n. name_wide _ _ c.requires (narrow_above c.narrow.ensures c.if-not-narrow.true)) c.code_point.ensures

pub returns-then-is_name_byte : goal.returns-then-is_name_byte
returns-then-is_name_byte c = name_on _ _ c.requires c.if-is_name_byte.ensures

pub returns : goal.returns
returns c = name_off _ _ c.requires c.if-is_name_byte.ensures (narrow_below c.narrow.ensures c.if-not-narrow.false)
