-- `stops` of `lanes::Digit` meets its contract. On one byte: the byte less 30, or 39 less the byte, has the highest bit where the byte is no digit. No
-- digit borrows from the next. All 256 bytes are tried. Assumes nothing.
use Rattle.bits.specs.Truth.{all_below}
use Rattle.lanes.specs.Kinds.{digit}
use Rattle.lanes.specs.Lanes.{Lane, byte, same, both, and, or, minus}
use Rattle.lanes.specs.Stops.{marks_kind, by_lane}
use Rattle.lanes.proofs.DigitKind.stops.Goals as goal

abbrev lane : Lane
lane = both and (both or (both minus byte (same 0x30)) (both minus (same 0x39) byte)) (same 0x80)

pub returns : goal.returns
unfolding all_below marks_kind digit
returns c = by_lane digit lane tt tt (cc)
