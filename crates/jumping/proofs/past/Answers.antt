-- After blanks stands a comma, before an item, or else the closing bracket of the innermost container, whose pair and frame go. Assumes nothing.
use mathlib.Core.Bool.{true≢false}
use native.Mathlib.Omega.{arith}
use Rattle.pile.proofs.PileLaws.{pops_few}
use Rattle.jumping.proofs.Items.{past_inside, past_comma, past_closed, left_depth, left_due}
use Rattle.pile.specs.DueLaws.{onward_lost, onward_passed, lost_farther, passed_farther, due_passed}
use Rattle.jumping.proofs.past.Goals as goal

pub returns-then-next-record : goal.returns-then-next-record
returns-then-next-record c =
    record {
      onward = onward_lost c.lose.ensures (omega arith) c.requires.record_len_bound.1 c.requires.depth_le_max_depth.1;
      farther = lost_farther c.lose.ensures;
      keeps = λ x whole y.
          absurd (omega (arith, c.if-next-record.true, past_inside c.requires.depth_le_max_depth.2 c.skip_blanks-next.ensures y));
    }

pub returns-then-record-next-eq-COMMA : goal.returns-then-record-next-eq-COMMA
returns-then-record-next-eq-COMMA c =
    record {
      onward =
          record {
            onward = omega (arith, c.skip_blanks-next.ensures.onward);
            farther = λ e. omega (arith, c.skip_blanks-next.ensures.onward);
            within = omega (arith, c.if-next-record.false);
            inside = λ e. omega (arith, c.if-next-record.false);
            in_container = λ e. c.requires.depth_le_max_depth.2;
            room = c.requires.depth_le_max_depth.0;
            few = c.requires.depth_le_max_depth.1;
          };
      farther = omega (arith, c.skip_blanks-next.ensures.onward);
      keeps = λ x whole y.
          record {
            root = λ e g. absurd (c.requires.depth_le_max_depth.2 g);
            item = λ e g. past_comma c.requires.depth_le_max_depth.2 c.skip_blanks-next.ensures (omega (arith, c.requires.record_len_bound)) c.if-record-next-eq-COMMA.true c.count_item.ensures y;
            passed = λ e. absurd (true≢false e);
          };
    }

pub pass-requires : goal.pass-requires
pass-requires c = omega (arith, c.if-next-record.false, c.requires.record_len_bound.0)

pub returns : goal.returns
returns c =
    let left = c.leave.ensures in
    record {
      onward =
          onward_passed c.pass.ensures (omega (arith, c.skip_blanks-next.ensures.onward)) (omega (arith, c.if-next-record.false))
          (omega (arith, left_depth left, c.requires.depth_le_max_depth.0)) (omega (arith, pops_few left.pops, c.requires.depth_le_max_depth.1));
      farther = passed_farther c.pass.ensures (omega (arith, c.skip_blanks-next.ensures.onward));
      keeps = λ x whole y.
          due_passed c.pass.ensures
          (left_due left _ _
          (past_closed c.requires.depth_le_max_depth.2 c.skip_blanks-next.ensures c.if-record-next-eq-COMMA.false left.pops y));
    }
