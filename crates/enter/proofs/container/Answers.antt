-- Each way out is one law of Values: the container is skipped, empty or entered, and on bytes that no tree explains nothing is promised.
-- Assumes nothing.
use mathlib.Core.Path.{refl, sym, ◌∙◌}
use mathlib.Core.Bool.{true≢false}
use native.Mathlib.Omega.{arith}
use Rattle.pile.specs.DueLaws.{onward_lost, lost_item, onward_passed, onward_entered, passed_item, due_passed, due_entered}
use Rattle.enter.proofs.Values.{idle_raised, has_level, has_frame, framed_fits, container_lost, skipped_due, more_bytes, empty_due, items_due}
use Rattle.enter.proofs.container.Goals as goal

pub returns-then-a-ge-MAX_DEPTH : goal.returns-then-a-ge-MAX_DEPTH
returns-then-a-ge-MAX_DEPTH c = record {
  passes_container = container_lost c.lose.ensures c.requires.at_in_bounds c.requires.depth_le_max_depth.1 (λ x whole y. omega (arith, has_level y, c.if-a-ge-MAX_DEPTH.true));
  same_record = refl;
}

pub returns-then-a-ge-MAX_DEPTH-2 : goal.returns-then-a-ge-MAX_DEPTH-2
returns-then-a-ge-MAX_DEPTH-2 c = record {
  passes_container = container_lost c.lose-then-a-ge-MAX_DEPTH-2.ensures c.requires.at_in_bounds c.requires.depth_le_max_depth.1 (λ x whole y. omega (arith, has_frame y, c.if-a-ge-MAX_DEPTH-2.true));
  same_record = refl;
}

pub pass-requires : goal.pass-requires
pass-requires c = omega (arith, c.leave-end.ensures.leaves.within (omega (arith, c.requires.at_in_bounds)), c.args.leaper.now.record_len_bound)

pub returns-then-is_dead : goal.returns-then-is_dead
returns-then-is_dead c = record {
  passes_container = record {
    onward =
        onward_passed c.pass.ensures (omega (arith, c.leave-end.ensures.leaves.onward))
        (c.leave-end.ensures.leaves.within (omega (arith, c.requires.at_in_bounds))) c.requires.depth_le_max_depth.0 c.requires.depth_le_max_depth.1;
    passed = λ e. passed_item c.pass.ensures;
    keeps = λ x whole y.
        due_passed c.pass.ensures
        (skipped_due y c.framed-frames.ensures c.raise.ensures c.is_dead.ensures c.if-is_dead.true
        c.leave-end.ensures.leaves);
  };
  same_record = c.leave-end.ensures.same_record;
}

pub returns-then-first-record : goal.returns-then-first-record
returns-then-first-record c = record {
  passes_container = record {
    onward = onward_lost c.lose-then-first-record.ensures (omega arith) (omega (arith, c.requires.at_in_bounds)) c.requires.depth_le_max_depth.1;
    passed = λ e. lost_item c.lose-then-first-record.ensures;
    keeps = λ x whole y.
        absurd (omega (arith, more_bytes y c.framed-frames.ensures c.raise.ensures c.skip_blanks-first.ensures, c.if-first-record.true));
  };
  same_record = refl;
}

pub pass-requires-then-class-eq-CLOSING : goal.pass-requires-then-class-eq-CLOSING
pass-requires-then-class-eq-CLOSING c = omega (arith, c.if-first-record.false, c.args.leaper.now.record_len_bound)

pub returns-then-class-eq-CLOSING : goal.returns-then-class-eq-CLOSING
returns-then-class-eq-CLOSING c = record {
  passes_container = record {
    onward =
        onward_passed c.pass-then-class-eq-CLOSING.ensures (omega (arith, c.skip_blanks-first.ensures.onward)) (omega (arith, c.if-first-record.false))
        c.requires.depth_le_max_depth.0 c.requires.depth_le_max_depth.1;
    passed = λ e. passed_item c.pass-then-class-eq-CLOSING.ensures;
    keeps = λ x whole y.
        due_passed c.pass-then-class-eq-CLOSING.ensures
        (empty_due y c.framed-frames.ensures c.raise.ensures c.skip_blanks-first.ensures
        (sym c.class.ensures ∙ c.if-class-eq-CLOSING.true));
  };
  same_record = refl;
}

pub enter-requires : goal.enter-requires
enter-requires c = (c.if-a-ge-MAX_DEPTH-2.false, c.if-a-ge-MAX_DEPTH.false)

pub returns : goal.returns
returns c = record {
  passes_container = record {
    onward =
        onward_entered c.enter.ensures (omega (arith, c.skip_blanks-first.ensures.onward)) (omega (arith, c.if-first-record.false))
        c.if-a-ge-MAX_DEPTH.false (framed_fits _ c.framed-frames.ensures c.if-a-ge-MAX_DEPTH-2.false);
    passed = λ e. absurd (true≢false (sym (c.is_dead.ensures.all (idle_raised c.raise.ensures e)) ∙ c.if-is_dead.false));
    keeps = λ x whole y.
        due_entered c.enter.ensures
        (items_due y c.framed-frames.ensures c.raise.ensures c.skip_blanks-first.ensures
        (λ e. c.if-class-eq-CLOSING.false (c.class.ensures ∙ e)));
  };
  same_record = refl;
}
