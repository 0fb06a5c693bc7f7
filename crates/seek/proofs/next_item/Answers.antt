-- `seek::next_item` meets its contract: behind the blanks stands a comma or the closing bracket. Assumes nothing.
use Rattle.seek.proofs.Items.{next_outside, next_ahead, next_closed}
use Rattle.seek.proofs.next_item.Goals as goal

pub returns-then-c-record : goal.returns-then-c-record
returns-then-c-record c = next_outside _ _ _ c.skip_blanks-c.ensures c.if-c-record.true

pub returns-then-record-c-eq-COMMA : goal.returns-then-record-c-eq-COMMA
returns-then-record-c-eq-COMMA c = next_ahead _ _ _ c.skip_blanks-c.ensures c.if-c-record.false c.if-record-c-eq-COMMA.true

pub returns : goal.returns
returns c = next_closed _ _ _ c.skip_blanks-c.ensures c.if-c-record.false c.if-record-c-eq-COMMA.false
