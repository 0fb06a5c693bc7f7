-- `validate::turns::open` meets its contract: there is no room for the container, or it is empty, or its first item is due. Assumes nothing.
use Rattle.validate.proofs.TurnLaws.{open_deep, open_empty, open_item}
use Rattle.validate.proofs.turns.open.Goals as goal

pub returns-then-is_full : goal.returns-then-is_full
returns-then-is_full c = open_deep _ c.args.kind c.requires.0 c.requires.1 c.if-is_full.ensures

pub returns-then-byte_at : goal.returns-then-byte_at
returns-then-byte_at c =
    rw (c.pop.ensures.0, c.push.ensures)
    (open_empty _ c.args.kind c.requires.0 c.requires.1 c.if-is_full.ensures c.blank_run-next.ensures c.closing.ensures c.if-byte_at.ensures)

pub returns : goal.returns
returns c =
    rw c.push.ensures
    (open_item _ c.args.kind c.requires.0 c.requires.1 c.if-is_full.ensures c.blank_run-next.ensures c.closing.ensures c.if-byte_at.ensures
    c.item_due.ensures)
