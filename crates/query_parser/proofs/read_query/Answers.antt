use Rattle.std.proofs.Common.{arith, rules, sym}
use lib.Seq.{length-take-le}
use Rattle.query_steps.specs.Reader.{StepTaken}
use Rattle.query_parser.proofs.Answers.{long_answer, empty_answer, other_answer, begin_so_far}
use Rattle.query_parser.proofs.Answers.{so_far_more, so_far_refused, so_far_end, so_far_many}
use Rattle.query_parser.proofs.read_query.Goals as goal
use Rattle.query_parser.proofs.read_query.Goals.{in_default-via-in-Some+in_default, in_default-via-in_default}

pub slice_bounds-too_long-end : goal.slice_bounds-too_long-end
slice_bounds-too_long-end c = sym (length-take-le _ c.args.query.now (omega (arith, c.if-query-gt-MAX_QUERY_BYTES.true)))

pub returns-then-query-gt-MAX_QUERY_BYTES : goal.returns-then-query-gt-MAX_QUERY_BYTES
returns-then-query-gt-MAX_QUERY_BYTES c = long_answer (omega (arith, c.if-query-gt-MAX_QUERY_BYTES.true)) c.too_long.ensures

pub returns-in_default : goal.returns-in_default
returns-in_default c = elim c.in_default.branch [
  | in_default-via-in-Some+in_default w ↦ other_answer (search rules) (search rules) c.wrong.ensures
  | in_default-via-in_default w ↦ empty_answer (search rules) c.wrong.ensures
]

pub loop-at-init : goal.loop-at-init
loop-at-init c =
    begin_so_far c.if-query-gt-MAX_QUERY_BYTES.false (search rules) (search rules) c.no_steps-steps.ensures

pub returns-in_err-found : goal.returns-in_err-found
returns-in_err-found c = search (rules, so_far_refused c.loop-at.invariant)

pub returns-then-full : goal.returns-then-full
returns-then-full c =
    let t : StepTaken c.args.query.now c.loop-at.at c.in_ok-found.found c.in_ok-found.after = search rules in
    so_far_many c.loop-at.invariant t (omega (arith, c.loop-at.invariant.held.holds.fits.few)) c.too_many.ensures

pub loop-at-preserved : goal.loop-at-preserved
loop-at-preserved c =
    let t : StepTaken c.args.query.now c.loop-at.at c.in_ok-found.found c.in_ok-found.after = search rules in
    so_far_more c.loop-at.invariant t c.decode-operand.ensures c.push.ensures

pub returns : goal.returns
returns c = so_far_end c.loop-at.invariant c.loop-at-test.false
