-- `stops` of `lanes::Gap` meets its contract. The space less a byte below 80 has the highest bit above the space, and borrows from the next byte only
-- there; a byte from 80 on has that bit itself. All 256 bytes are tried. Assumes nothing.
use Rattle.bits.specs.Truth.{all_below}
use Rattle.lanes.specs.Kinds.{gap}
use Rattle.lanes.specs.Lanes.{Lane, byte, same, both, and, or, minus}
use Rattle.lanes.specs.Stops.{marks_kind, by_lane}
use Rattle.lanes.proofs.GapKind.stops.Goals as goal

abbrev lane : Lane
lane = both and (both or (both minus (same 0x20) byte) byte) (same 0x80)

pub returns : goal.returns
unfolding all_below marks_kind gap
returns c = by_lane gap lane tt tt (cc)
