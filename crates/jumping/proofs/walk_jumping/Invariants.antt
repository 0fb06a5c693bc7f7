-- The loop's invariant: what was ahead before the root still is. Each turn leaves fewer; when the root is passed nothing is ahead, and the
-- tally is that of all nodes. Assumes nothing.
use lib.ListN.{length}
use mathlib.Core.Path.{◌≡◌}
use Rattle.jumping.specs.Turns.{turns_left}
use Rattle.jumping.proofs.Root.{Running}
use Rattle.jumping.proofs.walk_jumping.Given as goal

abbrev pub invariant-loop-a : goal.invariant-loop-a
invariant-loop-a l = Running l.fn.names l.fn.steps.kinds l.fn.steps.operands l.record l.initial.pile l.initial.list l.initial.a l.pile l.list l.a
    × (l.leaper.bytes.now ≡ l.record)

abbrev pub decreases-loop-a : goal.decreases-loop-a
decreases-loop-a l = turns_left (length l.record) l.a.at l.a.item
