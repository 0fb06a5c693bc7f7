-- A pair is taken where the node is picked out, nothing has stopped and one is left; each way out is one law of Laws. Assumes nothing.
use Rattle.std.proofs.Common.{sym, ◌∙◌}
use Rattle.pairs.proofs.Laws.{begins_stopped, begins_passed, begins_full, begins_room}
use Rattle.pairs.proofs.begin.Goals as goal

pub returns-then-is_some : goal.returns-then-is_some
returns-then-is_some c = begins_stopped _ _ _ _ _ _ (sym c.is_some.ensures ∙ c.if-is_some.true)

pub returns-then-not-picked : goal.returns-then-not-picked
returns-then-not-picked c = begins_passed _ _ _ _ _ _ (sym c.is_some.ensures ∙ c.if-is_some.false) c.if-not-picked.true

pub returns-then-pair-list : goal.returns-then-pair-list
returns-then-pair-list c =
    begins_full _ _ _ _ _ _ (sym c.is_some.ensures ∙ c.if-is_some.false) c.if-not-picked.false c.if-pair-list.true

pub returns : goal.returns
returns c =
    begins_room _ _ _ _ _ _ (sym c.is_some.ensures ∙ c.if-is_some.false) c.if-not-picked.false c.if-pair-list.false c.write.ensures
