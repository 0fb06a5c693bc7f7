-- The query and the record are those of the input; the text for the lister's answer to them is what is printed. Assumes nothing.
use native.Mathlib.Omega.{arith}
use Rattle.report.specs.AnswerLaws.{output_long, answer_fits, answer_text}
use Rattle.report.proofs.print_picklist.Goals as goal

pub returns-then-input-gt-MAX_INPUT : goal.returns-then-input-gt-MAX_INPUT
returns-then-input-gt-MAX_INPUT c = rw (output_long c.args.input.now c.if-input-gt-MAX_INPUT.true) c.write_too_long.ensures

pub write_answer-requires : goal.write_answer-requires
write_answer-requires c =
    let lister = c.list_jumping-answer in
    record {
      pairs_le_max_pairs = answer_fits lister.ensures;
      pairs_in_bounds = omega (arith, answer_fits lister.ensures, lister.auto.list);
    }

pub returns : goal.returns
returns c =
    rw (
    answer_text c.list_jumping-answer.ensures c.args.input.now c.if-input-gt-MAX_INPUT.false
    c.parts.ensures.query_part c.parts.ensures.record_part
    )
    c.write_answer.ensures
