-- The lowest bit of the word moved i places down is its bit i. Assumes nothing.
use Rattle.bits.specs.Laws.{bit_test}
use Rattle.bits.proofs.has.Goals as goal

pub returns : goal.returns
returns c = bit_test c.args.w c.args.i
