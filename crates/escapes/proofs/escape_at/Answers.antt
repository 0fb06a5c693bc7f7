-- Each way out is one law of Escapes. Assumes nothing.
use mathlib.Core.Path.{sym, ap, ◌∙◌}
use native.Mathlib.Omega.{arith}
use Rattle.encoding.specs.Unescape.{short_point_of}
use Rattle.escapes.proofs.Escapes.{escape_none, escape_short, escape_alone, escape_pair}
use Rattle.escapes.proofs.escape_at.Goals as goal

pub returns-in_default : goal.returns-in_default
returns-in_default c = escape_none _ c.in_default.ensures.lookup.3

pub returns-then-letter-ne-SMALL_U : goal.returns-then-letter-ne-SMALL_U
returns-then-letter-ne-SMALL_U c =
    let byte = c.in-Some.ensures.lookup.3.1 0 in
    escape_short _ (λ e. c.if-letter-ne-SMALL_U.true (byte ∙ e)) (c.short_point.ensures ∙ ap short_point_of byte) (omega arith)

pub returns-in-Some-low_behind : goal.returns-in-Some-low_behind
returns-in-Some-low_behind c =
    let byte = c.in-Some.ensures.lookup.3.1 0 in
    let pair = c.in-Some-low_behind.ensures in
    escape_pair _ (sym byte ∙ c.if-letter-ne-SMALL_U.false) c.unit_at-unit.ensures pair.0 pair.1 (λ h l. omega arith)

pub returns-in-None : goal.returns-in-None
returns-in-None c =
    let byte = c.in-Some.ensures.lookup.3.1 0 in
    escape_alone _ (sym byte ∙ c.if-letter-ne-SMALL_U.false) c.unit_at-unit.ensures c.in-None.ensures
