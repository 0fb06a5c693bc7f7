-- `scalars::numbers::minus_end` meets its contract: a byte that is no sign is taken as after one. Assumes nothing.
use Rattle.scalars.specs.Scalars.{minus_led, bare_led}
use Rattle.scalars.proofs.numbers.minus_end.Goals as goal

pub returns-then-s-at-eq45 : goal.returns-then-s-at-eq45
returns-then-s-at-eq45 c = minus_led c.requires.0 c.if-s-at-eq45.true

pub returns : goal.returns
returns c = bare_led c.requires.0 c.requires.1 c.requires.2 c.if-s-at-eq45.false
