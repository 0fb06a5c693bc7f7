-- `scalars::numbers::digit_at` meets its contract, by what is known of the place and its byte at each return. Assumes nothing.
use Rattle.std.proofs.Common.{rules}
use Rattle.scalars.specs.Numbers.{under, over, digit_stands, no_digit_stands}
use Rattle.scalars.proofs.numbers.digit_at.Goals as goal

pub returns-in-Some-48-to-57 : goal.returns-in-Some-48-to-57
returns-in-Some-48-to-57 c = digit_stands (search rules) (search rules) (search rules)

pub returns-in_default : goal.returns-in_default
returns-in_default c = no_digit_stands (λ h. under (search rules))

pub returns-in_default-2 : goal.returns-in_default-2
returns-in_default-2 c = no_digit_stands (λ h. over (search rules))
