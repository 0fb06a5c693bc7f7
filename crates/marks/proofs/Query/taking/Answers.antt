-- A step takes a child by `*`, or by its name or its position; where no step of the kind that could has a mark, no name and no position is
-- looked at. Assumes nothing.
use native.Mathlib.Omega.{arith}
use Rattle.marks.proofs.NextMarks.{child_every, child_chosen, child_at_hand}
use Rattle.marks.proofs.Query.taking.Goals as goal

pub returns-then-live-eq0 : goal.returns-then-live-eq0
returns-then-live-eq0 c = child_every _ _ _ _ c.args.child (rw (← c.asked.ensures) c.if-live-eq0.true)

pub chosen-requires : goal.chosen-requires
chosen-requires c =
    let fits = c.args.self.now.fits in
    record {
      count_le_max_steps = fits.few;
      at_hand = child_at_hand _ _ _ fits (omega arith) _ _ c.args.child c.asked.ensures;
    }

pub returns : goal.returns
returns c = child_chosen _ _ _ _ c.args.child _ (rw (← c.asked.ensures) c.chosen.ensures)
