-- Words that were sorted have no place with both kinds of brackets. Assumes nothing.
use Rattle.blocks.proofs.Apart.{sorted_apart}
use Rattle.blocks.proofs.Counting.{counted_sorted}
use Rattle.std.proofs.Common.{refl}
use Rattle.blocks.proofs.sort_counted.Goals as goal

pub invariant_of-result : goal.invariant_of-result
invariant_of-result c = rw c.count.ensures record {
  counted_is = refl;
  apart = sorted_apart c.sort_block.ensures;
}

pub returns : goal.returns
returns c = counted_sorted c.sort_block.ensures c.count.ensures
