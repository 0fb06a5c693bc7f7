-- A container's items are walked with one level less than the container, and a value with the levels of the items around it, so the levels
-- left fall. The loop's invariant: what was ahead after the opening bracket is ahead at this item, with the tally so far; its measure is what
-- is left of the record. Assumes nothing.
use Prim.Native.Nat.{◌+◌, ◌*◌, ◌-◌}
use lib.ListN.{length}
use Rattle.pairs.specs.Pairs.{tally_of}
use Rattle.plain.specs.Plain.{state_of}
use Rattle.plain.proofs.Laws.{AtItem}
use Rattle.plain.proofs.+walk_items_walk_value.Given as goal

-- the measures: twice the levels left, and one more for items
abbrev pub decreases-walk_items : goal.decreases-walk_items
decreases-walk_items l = l.left * 2 + 1

abbrev pub decreases-walk_value : goal.decreases-walk_value
decreases-walk_value l = l.left * 2

abbrev pub invariant-walk_items-loop-node : goal.invariant-walk_items-loop-node
invariant-walk_items-loop-node l =
    AtItem l.query.names.now l.query.kinds l.query.operands l.record l.at l.left l.object (state_of l.node)
    (tally_of l.initial.list l.initial.counts) l.i l.index (tally_of l.list l.counts)

abbrev pub decreases-walk_items-loop-node : goal.decreases-walk_items-loop-node
decreases-walk_items-loop-node l = length l.record - l.i
