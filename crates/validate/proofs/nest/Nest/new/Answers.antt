-- `validate::nest::Nest::new` meets its contract: nothing is read of the row. Assumes nothing.
use Rattle.std.proofs.Common.{refl}
use Rattle.validate.proofs.nest.Nest.new.Goals as goal

pub returns : goal.returns
returns c = refl
