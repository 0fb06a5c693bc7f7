-- The node's pair is begun first; then a scalar is passed, and a container is left to its own function. Assumes nothing.
use mathlib.Core.Path.{refl, sym, ◌∙◌}
use native.Mathlib.Omega.{arith}
use Rattle.pile.specs.DueLaws.{onward_lost, onward_passed, lost_item, passed_item, due_passed}
use Rattle.enter.proofs.Values.{idle_begun, value_inside, scalar_due, container_due}
use Rattle.enter.proofs.value.Goals as goal

pub returns-then-at-record : goal.returns-then-at-record
returns-then-at-record c = record {
  passes_value = record {
    onward = onward_lost c.lose.ensures (omega arith) c.requires.at_in_bounds c.requires.depth_le_max_depth.1;
    passed = λ e. lost_item c.lose.ensures;
    keeps = λ x whole y. absurd (omega (arith, value_inside y, c.if-at-record.true));
  };
  same_record = refl;
}

pub returns-then-class-ne-OPENING : goal.returns-then-class-ne-OPENING
returns-then-class-ne-OPENING c = record {
  passes_value = record {
    onward =
        onward_passed c.pass.ensures c.scalar_end-end.ensures.onward c.scalar_end-end.ensures.within
        c.requires.depth_le_max_depth.0 c.requires.depth_le_max_depth.1;
    passed = λ e. passed_item c.pass.ensures;
    keeps = λ x whole y.
        due_passed c.pass.ensures
        (scalar_due y c.begin-wait.ensures (λ e. c.if-class-ne-OPENING.true (c.class.ensures ∙ e)) c.scalar_end-end.ensures);
  };
  same_record = refl;
}

pub container-requires : goal.container-requires
container-requires c = record {
  at_in_bounds = c.if-at-record.false;
  depth_le_max_depth = c.requires.depth_le_max_depth;
}

pub returns : goal.returns
returns c = record {
  passes_value = record {
    onward = c.container.ensures.passes_container.onward;
    passed = λ e. c.container.ensures.passes_container.passed (idle_begun c.begin-wait.ensures e);
    keeps = λ x whole y.
        c.container.ensures.passes_container.keeps x whole
        (container_due y c.begin-wait.ensures (sym c.class.ensures ∙ c.if-class-ne-OPENING.false));
  };
  same_record = c.container.ensures.same_record;
}
