-- `lanes::minus` meets its contract: what the library's call gives back wraps to `x` when `m` is added. Assumes nothing.
use Rattle.std.proofs.Common.{arith}
use Rattle.lanes.proofs.minus.Goals as goal

pub returns : goal.returns
returns c = omega (arith, c.wrapping_sub_u64.ensures)
