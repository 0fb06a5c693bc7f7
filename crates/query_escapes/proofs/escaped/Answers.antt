-- `query_escapes::escaped` meets its contract: by the byte there, its own quote, a letter, what follows `\u`, or a dead byte. Assumes nothing.
use Rattle.std.proofs.Common.{rules, arith}
use Rattle.query_escapes.specs.Scans.{Escaped, Part}
use Rattle.query_escapes.specs.ScansLaws.{handed, read_as}
use Rattle.query_escapes.proofs.Letters.{escaped_end, escaped_own, escaped_letter, escaped_unicode, escaped_none}
use Rattle.query_escapes.proofs.escaped.Goals as goal

pub returns-in_err-b : goal.returns-in_err-b
returns-in_err-b c = rw (handed _ c.from_residual.ensures.1 c.in_err-b.ensures.1) (escaped_end c.requires c.in_err-b.ensures.0)

pub returns-then-b-quote : goal.returns-then-b-quote
returns-then-b-quote c = escaped_own c.in_ok-b.ensures (omega arith)

pub returns-in-98 : goal.returns-in-98
returns-in-98 c = escaped_letter c.in_ok-b.ensures c.in-98.is

pub returns-in-117 : goal.returns-in-117
returns-in-117 c = read_as (Part _ _ _ _) (Escaped _ _ _) _ (λ ok n. escaped_unicode c.in_ok-b.ensures (omega arith)) c.behind_u.ensures

pub returns-in_default : goal.returns-in_default
returns-in_default c =
    escaped_none c.in_ok-b.ensures (search rules) (search rules) c.if-b-quote.false
