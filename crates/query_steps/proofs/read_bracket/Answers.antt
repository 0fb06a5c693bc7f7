-- `query_steps::read_bracket` meets its contract: behind blanks `*`, the two quotes and digits lead on, each to what reads
-- the rest, and any other byte is dead. Assumes nothing.
use Rattle.std.proofs.Common.{rules, refl}
use Rattle.query.specs.Grammar as G
use Rattle.query_steps.proofs.Parts.{over_opened, opened_end, every_open, every_taken, opened_quote, opened_other}
use Rattle.query_steps.proofs.read_bracket.Goals as goal

pub returns-in_err-end-in-Some-eq42 : goal.returns-in_err-end-in-Some-eq42
returns-in_err-end-in-Some-eq42 c = search (rules, every_open)

pub returns-in_ok-end-in-Some-eq42 : goal.returns-in_ok-end-in-Some-eq42
returns-in_ok-end-in-Some-eq42 c =
    every_taken c.skip_blanks-inner.ensures (search rules) (search rules) c.in_ok-end-in-Some-eq42.ensures

pub returns-in-Some-eq39 : goal.returns-in-Some-eq39
returns-in-Some-eq39 c =
    opened_quote c.skip_blanks-inner.ensures (search rules) G.single (search rules) _ (c.read_quoted.ensures G.single refl)

pub returns-in-Some-eq34 : goal.returns-in-Some-eq34
returns-in-Some-eq34 c =
    opened_quote c.skip_blanks-inner.ensures (search rules) G.double (search rules) _
    (c.read_quoted-in-Some-eq34.ensures G.double refl)

pub returns-in-Some-48-to-57 : goal.returns-in-Some-48-to-57
returns-in-Some-48-to-57 c = over_opened c.skip_blanks-inner.ensures _ c.read_position.ensures

pub returns-in_default : goal.returns-in_default
returns-in_default c =
    opened_other c.skip_blanks-inner.ensures (search rules) (search rules) (search rules) (search rules) (search rules)

pub returns-in_default-2 : goal.returns-in_default-2
returns-in_default-2 c =
    opened_other c.skip_blanks-inner.ensures (search rules) (search rules) (search rules) (search rules) (search rules)

pub returns-in_default-3 : goal.returns-in_default-3
returns-in_default-3 c = opened_end c.skip_blanks-inner.ensures (search rules)
