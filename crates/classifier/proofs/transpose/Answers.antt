-- Three swaps, of single bits, of pairs and of fours, turn rows into columns. Assumes nothing.
use Rattle.classifier.proofs.DeltaSwap.{turn_law}
use Rattle.classifier.proofs.transpose.Goals as goal

pub returns : goal.returns
returns c = turn_law _ _ _ _ c.swap-singles.ensures c.swap-pairs.ensures c.swap.ensures
