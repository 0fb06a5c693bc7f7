-- A pair that the list has is written, and where it has none nothing is. Assumes nothing.
use native.Mathlib.Omega.{arith}
use Rattle.pairs.proofs.Laws.{writes_out, writes_in}
use Rattle.pairs.proofs.write.Goals.{in-First, in-End}
use Rattle.pairs.proofs.write.Goals as goal

pub returns-then-list-pair : goal.returns-then-list-pair
returns-then-list-pair c = writes_out _ _ _ _ c.if-list-pair.true

pub returns : goal.returns
returns c =
    writes_in _ _ _ _ c.if-list-pair.false
    (elim c.match-half.branch [
      | in-First w ↦ rw w.in-First.is (omega (arith, w.slot-is))
      | in-End w ↦ rw w.in-End.is w.slot-is
    ])
