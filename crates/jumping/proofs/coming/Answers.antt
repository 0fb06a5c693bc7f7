-- The root is the value ahead before any container is open; else the item's name or its position, and its container's marks, give the
-- value's. Assumes nothing.
use Rattle.std.proofs.Common.{refl}
use native.Mathlib.Omega.{arith}
use Rattle.jumping.proofs.Items.{item_due}
use Rattle.jumping.proofs.Root.{root_comes}
use Rattle.jumping.proofs.coming.Goals as goal

pub returns-then-a-eq0 : goal.returns-then-a-eq0
returns-then-a-eq0 c =
    record {
      onward = omega arith;
      within = c.requires.at_in_bounds;
      due = λ x h whole list y. root_comes h y c.requires.item_value.0 c.if-a-eq0.true;
    }

pub returns : goal.returns
returns c =
    record {
      onward = c.enter_child.ensures.onward;
      within = c.enter_child.ensures.within;
      due = λ x h whole list y. item_due h (y.item c.requires.item_value.0 c.if-a-eq0.false) refl refl c.enter_child.ensures;
    }
