-- `stops` of `lanes::Inner` meets its contract. On one byte below 80: the byte less 2D has the highest bit below 2D; with 20 set it is 7D at a closing bracket alone,
-- and the difference to 7D less 1 has the highest bit there. No other byte borrows from the next.
-- All 256 bytes are tried. Assumes nothing.
use Rattle.std.proofs.Common.{arith}
use Rattle.bits.specs.Truth.{all_below}
use Rattle.lanes.specs.Kinds.{inner}
use Rattle.lanes.specs.Lanes.{Lane, byte, same, both, and, or, xor, minus, flip, flipped}
use Rattle.lanes.specs.Stops.{marks_kind, by_lane}
use Rattle.lanes.proofs.InnerKind.stops.Goals as goal

abbrev lane : Lane
lane =
    both and
    (both and
    (both or (both minus byte (same 0x2D)) (both minus (both xor (both or byte (same 0x20)) (same 0x7D)) (same 0x01)))
    flip)
    (same 0x80)

pub returns : goal.returns
unfolding all_below marks_kind inner
returns c = by_lane inner lane tt tt (cc (flipped c.args.x (omega arith)))
