-- The depth is one less, and the frames and the marks are those around. Assumes nothing.
use Rattle.std.proofs.Common.{refl}
use Rattle.pile.proofs.Standing.leave.Goals as goal

pub returns : goal.returns
returns c = record { pops = c.pop_frame-around.ensures; is = refl }
