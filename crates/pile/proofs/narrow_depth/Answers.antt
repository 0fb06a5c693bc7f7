-- A depth up to 512 is below 65,536, so that the cast keeps it, and it is its own remainder. Assumes nothing.
use borrow.Author.Rules.{rules}
use Rattle.pile.specs.FrameDepth.{narrowed}
use Rattle.pile.proofs.narrow_depth.Goals as goal

pub returns : goal.returns
unfolding narrowed
returns c = search rules
