-- `seek::value_end` meets its contract: the class of the first byte tells which scanner passes the value. Assumes nothing.
use mathlib.Core.Path.{sym, ◌∙◌}
use Rattle.seek.proofs.Values.{ends_outside, ends_scalar, ends_container}
use Rattle.seek.proofs.value_end.Goals as goal

pub returns-then-at-record : goal.returns-then-at-record
returns-then-at-record c = ends_outside _ _ c.requires.0 c.if-at-record.true

pub returns-then-class-eq-OPENING : goal.returns-then-class-eq-OPENING
returns-then-class-eq-OPENING c =
    ends_container _ _ _ c.if-at-record.false (sym c.class.ensures ∙ c.if-class-eq-OPENING.true)
    (rw c.new.ensures at c.leave.ensures.leaves)

pub returns : goal.returns
returns c = ends_scalar _ _ _ (λ z. c.if-class-eq-OPENING.false (c.class.ensures ∙ z)) c.scalar_end.ensures
