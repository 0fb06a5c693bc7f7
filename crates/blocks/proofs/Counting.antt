-- Words that are sorted, with their brackets counted; and the numbers of a full block for every part that begins with it. Assumes nothing.
use Rattle.std.proofs.Common.{◌≡◌, ℕ, ◌≤◌, Bool, List, length, take, refl}
use Rattle.blocks.proofs.Front.{sorted_front}
use Rattle.blocks.specs.Counts.{counted_of, SortedCounted}
use Rattle.blocks.specs.Sorted.{Sorted}
use Rattle.blocks.specs.declared.Counted.{Counted}
use Rattle.blocks.specs.declared.Words.{Words}

pub counted_sorted : {s : List ℕ} {inside odd : Bool} {w : Words} {r : Counted} → Sorted s inside odd w → r ≡ counted_of w → SortedCounted s inside odd r
counted_sorted h e = rw e (record { sorted = h; counted = refl })

pub counted_front : (s : List ℕ) → 64 ≤ length s → (inside odd : Bool) {d : List ℕ} {r : Counted} → d ≡ take 64 s
    → SortedCounted d inside odd r → SortedCounted s inside odd r
counted_front s long inside odd e h = record { sorted = sorted_front s long inside odd e h.sorted; counted = h.counted }
