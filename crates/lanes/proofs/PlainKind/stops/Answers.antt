-- `stops` of `lanes::Plain` meets its contract. On one byte below 80: the difference to a quote less 1 has the highest bit at a quote alone, and so for a backslash;
-- the byte less 20 has it below 20. A byte from 80 on has it itself. No plain byte borrows from the next.
-- All 256 bytes are tried. Assumes nothing.
use Rattle.bits.specs.Truth.{all_below}
use Rattle.lanes.specs.Kinds.{plain}
use Rattle.lanes.specs.Lanes.{Lane, byte, same, both, and, or, minus, high_at}
use Rattle.lanes.specs.Stops.{marks_kind, by_lane}
use Rattle.lanes.proofs.PlainKind.stops.Goals as goal

abbrev lane : Lane
lane = both and (both or (both or (both or (high_at 0x22) (high_at 0x5C)) (both minus byte (same 0x20))) byte) (same 0x80)

pub returns : goal.returns
unfolding all_below marks_kind plain
returns c = by_lane plain lane tt tt (cc)
