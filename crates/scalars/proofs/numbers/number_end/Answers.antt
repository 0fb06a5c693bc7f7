-- `scalars::numbers::number_end` meets its contract, part by part. Assumes nothing.
use Rattle.std.proofs.lemmas.Result.{err_from_is_err_and}
use Rattle.encoding.proofs.ReadsLaws.{reads_so}
use Rattle.scalars.specs.Numbers.{number_none, number_wrong, number_some}
use Rattle.scalars.proofs.numbers.number_end.Goals as goal

pub returns-then-whole-at : goal.returns-then-whole-at
returns-then-whole-at c = number_none c.whole_end-whole.ensures c.if-whole-at.true

pub returns-in_err-fraction_end : goal.returns-in_err-fraction_end
returns-in_err-fraction_end c =
    let p = err_from_is_err_and c.from_residual.result c.from_residual.ensures.1 in
    rw (p.1, p.2) (number_wrong c.whole_end-whole.ensures c.if-whole-at.false c.in_err-fraction_end.ensures)

pub returns : goal.returns
returns c = reads_so (number_some c.whole_end-whole.ensures c.if-whole-at.false c.in_ok-fraction_end.ensures) _ c.exponent_end.ensures
