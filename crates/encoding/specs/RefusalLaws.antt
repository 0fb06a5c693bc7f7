-- No ground of refusal has the number 0, which the public calls answer where nothing is refused. Assumes nothing.
use Rattle.std.specs.Prelude.{◌≡◌}
use Rattle.std.proofs.Common.{arith}
use Rattle.encoding.specs.declared.refusals.Ground.{Ground}
use Rattle.encoding.specs.declared.refusals.Ground.TheVariants.{QueryTooLong, QueryWrong, TooManySteps, RecordTooLong, RecordWrong, TooDeep, LeftOver, NoValue, HalfName, NoRoom}
use Rattle.encoding.specs.Refusals.{number_of}

pub some_ground : (g : Ground) → number_of g ≡ 0 → ⊥
some_ground QueryTooLong h = omega arith
some_ground QueryWrong h = omega arith
some_ground TooManySteps h = omega arith
some_ground RecordTooLong h = omega arith
some_ground RecordWrong h = omega arith
some_ground TooDeep h = omega arith
some_ground LeftOver h = omega arith
some_ground NoValue h = omega arith
some_ground HalfName h = omega arith
some_ground NoRoom h = omega arith
