-- `scalars::numbers::sign_end` meets its contract: a byte that is no sign is taken as after a sign. Assumes nothing.
use Rattle.std.proofs.Common.{rules}
use Rattle.scalars.specs.Among.{among_two, other, no_more, byte, nothing}
use Rattle.scalars.specs.Numbers.{sign_led, unsigned_led}
use Rattle.scalars.proofs.numbers.sign_end.Goals as goal

pub returns-in-Some-eq43 : goal.returns-in-Some-eq43
returns-in-Some-eq43 c = sign_led (byte (search rules) (among_two (search rules)))

pub returns-in_default : goal.returns-in_default
returns-in_default c = unsigned_led c.requires (byte (search rules) (other (search rules) (other (search rules) no_more)))

pub returns-in_default-2 : goal.returns-in_default-2
returns-in_default-2 c = unsigned_led c.requires (nothing (search rules))
