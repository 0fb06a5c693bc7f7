-- The trailing zeros of a word count the bits that are off below the lowest one that is on. Assumes nothing.
use Rattle.bits.specs.Laws.{trailing_lowest}
use Rattle.bits.proofs.lowest.Goals as goal

pub returns : goal.returns
returns c = trailing_lowest 64 c.args.w
