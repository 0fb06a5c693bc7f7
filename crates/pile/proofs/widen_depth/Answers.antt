-- The number stays the same. Assumes nothing.
use Rattle.std.proofs.Common.{refl}
use Rattle.pile.specs.FrameDepth.{widened}
use Rattle.pile.proofs.widen_depth.Goals as goal

pub returns : goal.returns
unfolding widened
returns c = refl
