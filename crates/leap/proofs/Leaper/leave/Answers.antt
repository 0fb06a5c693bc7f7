-- `leap::Leaper::leave` meets its contract: where the container's items stand, the depth falls to 0 with their last byte and not before. Assumes nothing.
use Rattle.leap.proofs.Ways.{tracked_start, tracked_out, after_leaves}
use Rattle.leap.proofs.Leaper.leave.Goals as goal

pub returns-then-at-self-clause-leaves : goal.returns-then-at-self-clause-leaves
returns-then-at-self-clause-leaves c = after_leaves (tracked_out tracked_start c.if-at-self.true)

pub returns-in-Some-clause-leaves : goal.returns-in-Some-clause-leaves
returns-in-Some-clause-leaves c = after_leaves c.in-Some.ensures

pub returns-in-None-clause-leaves : goal.returns-in-None-clause-leaves
returns-in-None-clause-leaves c = after_leaves c.leave_blocks.ensures.after_closing
