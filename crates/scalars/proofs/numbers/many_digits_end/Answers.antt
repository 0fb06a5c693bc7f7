-- `scalars::numbers::many_digits_end` meets its contract: some digits, and then those that are left. Assumes nothing.
use Rattle.swar.specs.Passing.{run_on}
use Rattle.scalars.proofs.numbers.many_digits_end.Goals as goal

pub returns : goal.returns
returns c = run_on c.passed.ensures c.digits_end.ensures
