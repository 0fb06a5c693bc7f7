-- `validate::check_text` meets its contract. The loop's invariant: the verdict is that of the machine from here on, in the containers around.
-- The measure is what is left of the length. Assumes nothing.
use Rattle.std.proofs.Common.{◌-◌, length}
use Rattle.json_text.specs.Verdict.{text_verdict}
use Rattle.validate.proofs.CheckLaws.{Reached}
use Rattle.validate.proofs.check_text.Given as goal

abbrev pub invariant-loop-i : goal.invariant-loop-i
invariant-loop-i l = Reached (text_verdict l.text) l.text l.nest l.i l.due

abbrev pub decreases-loop-i : goal.decreases-loop-i
decreases-loop-i l = length l.text - l.i
