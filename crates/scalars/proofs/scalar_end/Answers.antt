-- `scalars::scalar_end` meets its contract, by the first byte. Assumes nothing.
use Rattle.encoding.proofs.ReadsLaws.{reads_so}
use Rattle.scalars.specs.Scalars.{number_scalar}
use Rattle.scalars.proofs.scalar_end.Goals as goal

pub returns : goal.returns
returns c = reads_so (number_scalar c.minus_end.ensures) _ c.number_end.ensures
