-- `stops` of `lanes::Space` meets its contract: what differs from a space is not 0, and nothing is borrowed. All 256 bytes are tried. Assumes nothing.
use Rattle.bits.specs.Truth.{all_below}
use Rattle.lanes.specs.Kinds.{space_byte}
use Rattle.lanes.specs.Lanes.{Lane, byte, same, both, xor}
use Rattle.lanes.specs.Stops.{marks_kind, by_lane}
use Rattle.lanes.proofs.SpaceKind.stops.Goals as goal

abbrev lane : Lane
lane = both xor byte (same 0x20)

pub returns : goal.returns
unfolding all_below marks_kind space_byte
returns c = by_lane space_byte lane tt tt (cc)
