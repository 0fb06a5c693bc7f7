-- `stops` of `lanes::Unquoted` meets its contract. On one byte below 80: the difference to a quote less 1 has the highest bit at a quote alone.
-- No other byte borrows from the next.
-- All 256 bytes are tried. Assumes nothing.
use Rattle.std.proofs.Common.{arith}
use Rattle.bits.specs.Truth.{all_below}
use Rattle.lanes.specs.Kinds.{unquoted}
use Rattle.lanes.specs.Lanes.{Lane, same, both, and, high_at, flip, flipped}
use Rattle.lanes.specs.Stops.{marks_kind, by_lane}
use Rattle.lanes.proofs.UnquotedKind.stops.Goals as goal

abbrev lane : Lane
lane = both and (both and (high_at 0x22) flip) (same 0x80)

pub returns : goal.returns
unfolding all_below marks_kind unquoted
returns c = by_lane unquoted lane tt tt (cc (flipped c.args.x (omega arith)))
