-- `scalars::numbers::whole_end` meets its contract: at a nought, and else by the digits that stand there. Assumes nothing.
use Rattle.swar.specs.Passing.{run_on}
use Rattle.scalars.specs.Numbers.{whole-zero, whole_digits}
use Rattle.scalars.proofs.numbers.whole_end.Goals as goal

pub returns-then-byte_at : goal.returns-then-byte_at
returns-then-byte_at c = whole-zero c.if-byte_at.ensures

pub returns : goal.returns
returns c = whole_digits c.if-byte_at.ensures (run_on c.digits_to_point.ensures c.digits_end.ensures)
