-- `characters::string_end` meets its contract. The loop's invariant: the machine has come through the string so far, and no plain byte
-- stands next. The measure is what is left of the length. Assumes nothing.
use Rattle.std.proofs.Common.{◌≡◌, true, false, ◌<◌, ◌-◌, length, get_or}
use Rattle.lanes.specs.Kinds.{plain}
use Rattle.json_text.specs.Machine.{in_string}
use Rattle.characters.specs.Strings.{LedBoth}
use Rattle.characters.proofs.string_end.Given as goal

abbrev pub invariant-loop-i : goal.invariant-loop-i
invariant-loop-i l = LedBoth l.s l.from in_string in_string true l.i × (l.i < length l.s → plain (get_or l.s l.i 0) ≡ false)

abbrev pub decreases-loop-i : goal.decreases-loop-i
decreases-loop-i l = length l.s - l.i
