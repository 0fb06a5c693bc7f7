-- A value and the items of a container: each way out is one law of Laws. Assumes nothing.
use native.Mathlib.Omega.{arith}
use mathlib.Core.Path.{sym, ◌∙◌}
use Rattle.plain.proofs.Laws.{value_past, value_too_deep, value_scalar, value_container}
use Rattle.plain.proofs.Laws.{items_cut, items_none, items_begin, item_walked, more_cut, more_none, more_again}
use Rattle.plain.proofs.+walk_items_walk_value.Goals as goal

pub walk_items-returns-then-first-record : goal.walk_items-returns-then-first-record
walk_items-returns-then-first-record t c = items_cut c.skip_blanks-first.ensures c.if-first-record.true

pub walk_items-returns-then-class-eq-CLOSING : goal.walk_items-returns-then-class-eq-CLOSING
walk_items-returns-then-class-eq-CLOSING t c =
    items_none c.skip_blanks-first.ensures c.if-first-record.false (sym c.class.ensures ∙ c.if-class-eq-CLOSING.true)

pub walk_items-loop-node-init : goal.walk_items-loop-node-init
walk_items-loop-node-init t c =
    items_begin c.skip_blanks-first.ensures (λ e. c.if-class-eq-CLOSING.false (c.class.ensures ∙ e))

pub walk_items-walk_value-passed-requires : goal.walk_items-walk_value-passed-requires
walk_items-walk_value-passed-requires t c =
    let bounds = c.requires in
    let child = c.enter_child-child.ensures in
    (omega (arith, c.decreases), (bounds.0, child.within, omega (arith, bounds.2, child.one_more)))

pub walk_items-returns-then-end-record : goal.walk_items-returns-then-end-record
walk_items-returns-then-end-record t c =
    let item = item_walked c.loop-node.invariant c.enter_child-child.ensures c.walk_value-passed.ensures in
    more_cut item c.skip_blanks-end.ensures c.if-end-record.true

pub walk_items-returns-then-byte-ne-COMMA : goal.walk_items-returns-then-byte-ne-COMMA
walk_items-returns-then-byte-ne-COMMA t c =
    let item = item_walked c.loop-node.invariant c.enter_child-child.ensures c.walk_value-passed.ensures in
    more_none item c.skip_blanks-end.ensures c.if-end-record.false c.if-byte-ne-COMMA.true

pub walk_items-overflow_add-index : goal.walk_items-overflow_add-index
walk_items-overflow_add-index t c =
    omega (arith, c.requires.0, c.loop-node.invariant.behind, c.loop-node.invariant.within)

pub walk_items-loop-node-preserved : goal.walk_items-loop-node-preserved
walk_items-loop-node-preserved t c =
    let item = item_walked c.loop-node.invariant c.enter_child-child.ensures c.walk_value-passed.ensures in
    more_again item c.skip_blanks-end.ensures c.if-end-record.false c.if-byte-ne-COMMA.false

pub walk_value-returns-then-at-record : goal.walk_value-returns-then-at-record
walk_value-returns-then-at-record t c = value_past c.requires.1 c.if-at-record.true

pub walk_value-returns-then-class-ne-OPENING : goal.walk_value-returns-then-class-ne-OPENING
walk_value-returns-then-class-ne-OPENING t c =
    value_scalar c.begin-wait.ensures (λ e. c.if-class-ne-OPENING.true (c.class.ensures ∙ e)) c.scalar_end-end.ensures c.finish.ensures

pub walk_value-returns-then-left-eq0 : goal.walk_value-returns-then-left-eq0
walk_value-returns-then-left-eq0 t c =
    value_too_deep c.requires.1 (sym c.class.ensures ∙ c.if-class-ne-OPENING.false) c.if-left-eq0.true

pub walk_value-walk_items-end-requires : goal.walk_value-walk_items-end-requires
walk_value-walk_items-end-requires t c =
    let bounds = c.requires in
    let some_left = c.if-left-eq0.false in (
      omega (arith, c.decreases, some_left),
      (bounds.0, omega (arith, c.if-at-record.false), omega (arith, bounds.2, some_left)),
    )

pub walk_value-finish-requires-2 : goal.walk_value-finish-requires-2
walk_value-finish-requires-2 t c = omega (arith, c.requires.0, c.walk_items-end.ensures.within)

pub walk_value-returns : goal.walk_value-returns
walk_value-returns t c =
    value_container c.begin-wait.ensures _ (sym c.class.ensures ∙ c.if-class-ne-OPENING.false) c.raise.ensures
    c.walk_items-end.ensures c.finish-2.ensures
