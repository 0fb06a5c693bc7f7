-- `scalars::numbers::power_end` meets its contract: where a digit stands the digits are passed, and where none does the machine is dead.
-- Assumes nothing.
use Rattle.scalars.specs.Numbers.{power_none, power_some}
use Rattle.scalars.proofs.numbers.power_end.Goals as goal

pub returns-then-end-first : goal.returns-then-end-first
returns-then-end-first c = power_none c.sign_end-first.ensures c.digits_end-end.ensures c.if-end-first.true

pub returns : goal.returns
returns c = power_some c.sign_end-first.ensures c.digits_end-end.ensures c.if-end-first.false
