-- `validate::turns::separator` meets its contract: after the outermost value, at a comma, at the closing bracket and at any other byte.
-- Assumes nothing.
use Rattle.std.proofs.Common.{sym, ◌∙◌}
use Rattle.validate.proofs.TurnLaws.{after_all, comma_turn, close_turn, wrong_turn}
use Rattle.validate.proofs.turns.separator.Goals as goal

pub returns-in_default : goal.returns-in_default
returns-in_default c = rw c.wrong.ensures (after_all c.requires c.in_default.ensures)

pub returns-then-b-eq44 : goal.returns-then-b-eq44
returns-then-b-eq44 c = comma_turn c.requires c.in-Some.kind c.in-Some.ensures c.if-b-eq44.true c.item_due.ensures

pub returns-then-b-closing : goal.returns-then-b-closing
returns-then-b-closing c =
    rw c.pop.ensures.0 (close_turn c.requires c.in-Some.kind c.in-Some.ensures c.pop.ensures.1 (c.if-b-closing.true ∙ c.closing.ensures))

pub returns : goal.returns
returns c =
    rw c.wrong-2.ensures
    (wrong_turn c.requires c.in-Some.kind c.in-Some.ensures c.if-b-eq44.false (λ e. c.if-b-closing.false (e ∙ sym c.closing.ensures)))
