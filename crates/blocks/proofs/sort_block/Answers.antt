-- A full block at the front, or a shorter part, which is whole. Assumes nothing.
use Rattle.blocks.proofs.Front.{sorted_front}
use Rattle.blocks.proofs.sort_block.Goals as goal

pub returns-in-Some : goal.returns-in-Some
returns-in-Some c =
    let front = c.in-Some.ensures.cases in
    sorted_front _ front.enough _ _ front.same c.sort_full.ensures.sorted
