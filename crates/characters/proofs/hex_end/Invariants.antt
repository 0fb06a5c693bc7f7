-- `characters::hex_end` meets its contract. The loop's invariant: the machine has come to where so many digits are due as are left.
-- Assumes nothing.
use Rattle.std.proofs.Common.{Bool, true, ◌-◌}
use Rattle.json_text.specs.Machine.{hex_due}
use Rattle.json_text.specs.Led.{Led}
use Rattle.characters.specs.Strings.{hex_left}
use Rattle.characters.proofs.hex_end.Given as goal

abbrev pub invariant-loop-i : goal.invariant-loop-i
invariant-loop-i l = (f : Bool) → Led l.s l.from (hex_due 3 f) (hex_left (l.i-end - l.i) f) true l.i
