-- `seek::first_item` meets its contract: behind the blanks stands the closing bracket or an item. Assumes nothing.
use mathlib.Core.Path.{sym, ◌∙◌}
use Rattle.seek.proofs.Items.{first_outside, first_closed, first_ahead}
use Rattle.seek.proofs.first_item.Goals as goal

pub returns-then-c-record : goal.returns-then-c-record
returns-then-c-record c = first_outside _ _ _ c.skip_blanks-c.ensures c.if-c-record.true

pub returns-then-class-eq-CLOSING : goal.returns-then-class-eq-CLOSING
returns-then-class-eq-CLOSING c = first_closed _ _ _ c.skip_blanks-c.ensures c.if-c-record.false (sym c.class.ensures ∙ c.if-class-eq-CLOSING.true)

pub returns : goal.returns
returns c = first_ahead _ _ _ c.skip_blanks-c.ensures (λ z. c.if-class-eq-CLOSING.false (c.class.ensures ∙ z))
