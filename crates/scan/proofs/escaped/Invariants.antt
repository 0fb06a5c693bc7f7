-- Backwards over the backslashes before `q`: the invariant says that what stands before `q` is what stands before the place reached, turned over
-- as `odd` says. Assumes nothing.
use Rattle.scan.proofs.Escapes.{Back}
use Rattle.scan.proofs.escaped.Given as goal

abbrev pub invariant-loop-before : goal.invariant-loop-before
invariant-loop-before l = Back l.s l.from l.q l.odd l.before
