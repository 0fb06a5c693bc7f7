-- What the sorter of full blocks promises beside the words: how many brackets they have.
use Rattle.std.specs.Prelude.{◌≡◌, ℕ, Bool, List, count_ones}
use Rattle.blocks.specs.declared.Counted.{Counted}
use Rattle.blocks.specs.declared.Words.{Words}
use Rattle.blocks.specs.Sorted.{Sorted}

-- w with how many opening and closing brackets it has
abbrev pub counted_of : Words → Counted
counted_of w = record { words = w; opened = count_ones w.opening; closed = count_ones w.closing }

-- r has the words of the block at the front of s, the two facts for the next block, and the numbers of its brackets
pub record SortedCounted (s : List ℕ) (inside odd : Bool) (r : Counted) : Type 0 where
  pub sorted : Sorted s inside odd r.words
  pub counted : r ≡ counted_of r.words
