-- The words by the places of its bytes, with the strings that are found, are those of the block in front, and the last place says the two
-- facts. Assumes nothing.
use Rattle.blocks.proofs.Apart.{classes_apart}
use Rattle.blocks.proofs.Counting.{counted_sorted}
use Rattle.blocks.proofs.Front.{full_front, sorted_front}
use Rattle.blocks.proofs.Sort.{full_sorted}
use Rattle.std.proofs.Common.{refl, arith}
use Rattle.blocks.proofs.sort_full.Goals as goal

pub invariant_of-result : goal.invariant_of-result
invariant_of-result c = rw c.count.ensures record {
  counted_is = refl;
  apart = classes_apart c.classify-c.ensures (omega arith) _ _;
}

pub returns : goal.returns
returns c =
    let front = rw c.unwrap-block.ensures at c.first_chunk.ensures.cases in
    counted_sorted
    (sorted_front _ c.requires _ _ front.same
    (full_sorted _ _ _ _ _ _ _ _ _ _ c.classify-c.ensures c.find_strings-k.ensures (omega arith) (full_front _ front.enough front.same) (omega arith) (omega arith) (omega arith) c.has.ensures))
    c.count.ensures
