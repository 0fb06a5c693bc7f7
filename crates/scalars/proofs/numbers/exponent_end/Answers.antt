-- `scalars::numbers::exponent_end` meets its contract: at the end of the bytes, at a byte that is no letter of an exponent, and at one that is.
-- Assumes nothing.
use Rattle.std.proofs.Common.{rules}
use Rattle.encoding.proofs.ReadsLaws.{reads_so}
use Rattle.scalars.specs.Among.{among_two, other, no_more}
use Rattle.scalars.specs.Numbers.{exponent_none, exponent_other, exponent_some}
use Rattle.scalars.proofs.numbers.exponent_end.Goals as goal

pub returns-in-Some-eq101 : goal.returns-in-Some-eq101
returns-in-Some-eq101 c = reads_so (exponent_some {s = c.args.s.now} {i = c.args.at} (search rules) (among_two (search rules))) _ c.power_end.ensures

pub returns-in_default : goal.returns-in_default
returns-in_default c = exponent_other (search rules) (other (search rules) (other (search rules) no_more))

pub returns-in_default-2 : goal.returns-in_default-2
returns-in_default-2 c = exponent_none (search rules)
