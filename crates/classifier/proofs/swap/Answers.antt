-- The xor of a bit and its partner, put in at both places, exchanges the two. Assumes nothing.
use Rattle.classifier.proofs.DeltaSwap.{swap_law}
use Rattle.classifier.proofs.swap.Goals as goal

pub returns : goal.returns
returns c = swap_law c.args.k c.args.mask c.args.x
