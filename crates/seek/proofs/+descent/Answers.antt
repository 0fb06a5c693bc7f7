-- A value, and the items of a container, turn by turn: each way out is one law of Descent or of Turns, and what was kept is one of Keeping.
-- Assumes nothing.
use Rattle.std.proofs.Common.{sym, ◌∙◌}
use Rattle.std.proofs.lemmas.Result.{err_from_is_err_and}
use Rattle.seek.proofs.Descent.{seeks_there, seeks_nothing, seeks_behind, seeks_outside, seeks_deeper, seeks_scalar, seeks_below}
use Rattle.seek.proofs.Keeping.{keeps_there, keeps_below, keeps_item}
use Rattle.seek.proofs.Turns.{going_first, empty_left, going_found, going_on, going_left}
use Rattle.seek.proofs.+descent.Goals as goal

pub seek_inside-returns-in_err-ahead-clause-seeks :
    goal.seek_inside-returns-in_err-ahead-clause-seeks
seek_inside-returns-in_err-ahead-clause-seeks g t c =
    let p = err_from_is_err_and c.from_residual.result c.from_residual.ensures.1 in
    rw (p.1, p.2) (empty_left _ _ _ _ _ _ c.in_err-ahead.ensures)

pub seek_inside-loop-end-init : goal.seek_inside-loop-end-init
seek_inside-loop-end-init g t c = (going_first _ _ _ _ _ _ c.in_ok-ahead.ensures, cc)

pub seek_inside-returns-in-Ok-clause-seeks : goal.seek_inside-returns-in-Ok-clause-seeks
seek_inside-returns-in-Ok-clause-seeks g t c =
    going_found _ _ _ _ _ _ _ c.loop-end.invariant.0 _ _ _ _ c.enter_item-item.ensures _ c.in-Ok.ensures.seeks

pub seek_inside-returns-in-Ok-clause-keeps : goal.seek_inside-returns-in-Ok-clause-keeps
seek_inside-returns-in-Ok-clause-keeps g t c =
    keeps_item _ _ _ _ _ _ _ _ c.loop-end.invariant.0 _ _ _ _ c.enter_item-item.ensures _ _ _ c.in-Ok.end
    (rw c.loop-end.invariant.1 at c.in-Ok.ensures.keeps) (rw c.link.ensures at c.keep.ensures)

pub seek_inside-returns-in_err-ahead-in-Err-clause-seeks :
    goal.seek_inside-returns-in_err-ahead-in-Err-clause-seeks
seek_inside-returns-in_err-ahead-in-Err-clause-seeks g t c =
    let p = err_from_is_err_and c.from_residual-in_err-ahead-in-Err.result c.from_residual-in_err-ahead-in-Err.ensures.1 in
    rw (p.1, p.2)
    (going_left _ _ _ _ _ _ _ c.loop-end.invariant.0 _ _ _ _ c.enter_item-item.ensures _ c.in-Err.ensures.seeks _
    c.in_err-ahead-in-Err.ensures)

pub seek_inside-loop-end-preserved : goal.seek_inside-loop-end-preserved
seek_inside-loop-end-preserved g t c = (
  going_on _ _ _ _ _ _ _ c.loop-end.invariant.0 _ _ _ _ c.enter_item-item.ensures _ c.in-Err.ensures.seeks _
      c.in_ok-ahead-in-Err.ensures,
  c.in-Err.ensures.keeps ∙ c.loop-end.invariant.1,
)

pub seek_value-returns-then-end-eq0-clause-seeks :
    goal.seek_value-returns-then-end-eq0-clause-seeks
seek_value-returns-then-end-eq0-clause-seeks g t c = seeks_nothing _ _ _ _ _ c.value_end-end.ensures c.if-end-eq0.true

pub seek_value-returns-then-at-offset-clause-seeks :
    goal.seek_value-returns-then-at-offset-clause-seeks
seek_value-returns-then-at-offset-clause-seeks g t c = seeks_there _ _ _ _ _ c.if-at-offset.true c.value_end-end.ensures

pub seek_value-returns-then-at-offset-clause-keeps :
    goal.seek_value-returns-then-at-offset-clause-keeps
seek_value-returns-then-at-offset-clause-keeps g t c = keeps_there _ _ _ _ _ _ c.value_end-end.result c.if-at-offset.true

pub seek_value-returns-then-at-offset-2-clause-seeks :
    goal.seek_value-returns-then-at-offset-2-clause-seeks
seek_value-returns-then-at-offset-2-clause-seeks g t c =
    seeks_behind _ _ _ _ _ c.if-at-offset-2.true c.value_end.ensures

pub seek_value-returns-then-at-record-clause-seeks :
    goal.seek_value-returns-then-at-record-clause-seeks
seek_value-returns-then-at-record-clause-seeks g t c = seeks_outside _ _ _ _ c.requires.0 c.if-at-record.true

pub seek_value-returns-then-class-ne-OPENING-clause-seeks :
    goal.seek_value-returns-then-class-ne-OPENING-clause-seeks
seek_value-returns-then-class-ne-OPENING-clause-seeks g t c =
    seeks_scalar _ _ _ _ _ c.if-at-offset.false (λ z. c.if-class-ne-OPENING.true (c.class.ensures ∙ z)) c.scalar_end.ensures

pub seek_value-returns-then-levels-eq0-clause-seeks :
    goal.seek_value-returns-then-levels-eq0-clause-seeks
seek_value-returns-then-levels-eq0-clause-seeks g t c =
    seeks_deeper _ _ _ _ c.requires.0 (sym c.class.ensures ∙ c.if-class-ne-OPENING.false) c.if-levels-eq0.true

pub seek_value-returns-clause-seeks : goal.seek_value-returns-clause-seeks
seek_value-returns-clause-seeks g t c =
    seeks_below _ _ _ _ _ c.if-at-offset.false (sym c.class.ensures ∙ c.if-class-ne-OPENING.false) c.if-levels-eq0.false
    c.seek_inside.ensures.seeks

pub seek_value-returns-clause-keeps : goal.seek_value-returns-clause-keeps
seek_value-returns-clause-keeps g t c =
    keeps_below _ _ _ _ _ _ _ c.seek_inside.result c.if-at-offset.false (sym c.class.ensures ∙ c.if-class-ne-OPENING.false)
    c.if-levels-eq0.false c.seek_inside.ensures.keeps
