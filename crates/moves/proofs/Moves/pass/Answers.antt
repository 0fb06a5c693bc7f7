-- `moves::Moves::pass` meets its contract: after the byte the reader is after a whole character, as only an odd state tells, or its end
-- stays. Assumes nothing.
use Rattle.moves.proofs.MoveLaws.{passes_inside, passes_between}
use Rattle.moves.proofs.Moves.pass.Goals as goal
use Rattle.moves.proofs.Moves.pass.Goals.{then-state-eq1, else-state-eq1}

pub returns : goal.returns
returns c =
    elim c.if-state-eq1.branch [
      | then-state-eq1 w ↦ rw w.end-is (passes_between c.requires c.follow-state.ensures w.if-state-eq1.true)
      | else-state-eq1 w ↦ rw w.end-is (passes_inside c.requires c.follow-state.ensures)
    ]
