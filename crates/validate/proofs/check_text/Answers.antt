use Rattle.validate.proofs.CheckLaws.{start_at, next_at, end_taken, end_open, end_due}
use Rattle.validate.proofs.check_text.Goals as goal
use Rattle.validate.proofs.check_text.Goals.{in_default-via-in-After+else-is_empty, in_default-via-in_default}

pub loop-i-init : goal.loop-i-init
loop-i-init c = rw c.new-nest.ensures (start_at c.blank_run-i.ensures)

pub loop-i-preserved : goal.loop-i-preserved
loop-i-preserved c = next_at c.loop-i.invariant c.in_ok-turn.ensures c.blank_run-i-in-loop-i.ensures

pub returns-in-After : goal.returns-in-After
returns-in-After c = end_taken c.loop-i.invariant c.loop-i-test.false c.in-After.is c.if-is_empty.ensures

pub returns-in_default : goal.returns-in_default
returns-in_default c =
    elim c.in_default.branch [
      | in_default-via-in-After+else-is_empty w ↦ rw c.wrong.ensures (end_open c.loop-i.invariant c.loop-i-test.false w.if-is_empty.ensures)
      | in_default-via-in_default w ↦ rw c.wrong.ensures (end_due c.loop-i.invariant c.loop-i-test.false w.in_default.not-After)
    ]
