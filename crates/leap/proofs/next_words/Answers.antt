-- `leap::next_words` meets its contract: the counted words of a full block in front are those of the part. Assumes nothing.
use Rattle.blocks.proofs.Counting.{counted_front}
use Rattle.leap.proofs.next_words.Goals as goal

pub returns-in-Some : goal.returns-in-Some
returns-in-Some c =
    let front = c.in-Some.ensures.cases in
    counted_front _ front.enough _ _ front.same c.sort_full.ensures
