-- Without frames, or where the topmost is not the container's, nothing changes. Each way out is one law of Frames. Assumes nothing.
use Rattle.std.proofs.Common.{sym, ◌∙◌}
use Rattle.pile.proofs.Frames.{depth_at, pops_none, pops_other, pops_topmost}
use Rattle.pile.proofs.Pile.pop_frame.Goals as goal

pub returns-then-frames-eq0 : goal.returns-then-frames-eq0
returns-then-frames-eq0 c = pops_none c.if-frames-eq0.true

pub returns-then-level-depth : goal.returns-then-level-depth
returns-then-level-depth c = pops_other (λ e. c.if-level-depth.true (c.widen_depth-level.ensures ∙ sym (depth_at c.args.self.now _) ∙ e))

pub returns : goal.returns
returns c = pops_topmost c.if-frames-eq0.false (depth_at c.args.self.now _ ∙ sym c.widen_depth-level.ensures ∙ c.if-level-depth.false)
