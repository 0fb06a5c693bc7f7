-- What the functions on pairs promise, as changes of a tally.
use Rattle.std.specs.Prelude.{◌≡◌, List, Bool, ℕ, suc, ◌+◌, ◌*◌, ◌≤◌, ◌<◌, Option, Some, None, set}
use Rattle.answers.specs.Lister.{pairs_of}
use Rattle.automaton.specs.Tally.{Tally, raised}
use Rattle.automaton.specs.Halves.{begin, waiting}
use Rattle.pairs.specs.declared.Counts.{Counts}
use Rattle.pairs.specs.declared.Half.{Half}
use Rattle.pairs.specs.declared.Half.TheVariants.{First, End}

-- a tally by its four parts
abbrev pub tally : List ℕ → (used peak stop : ℕ) → Tally
tally l u h s = record { list = l; used = u; peak = h; stop = s }

-- one more than a number that is there, and 0 where none is: so a tally holds its stop, and the pair that waits for an end
abbrev pub plus_one : Option ℕ → ℕ
plus_one None = 0
plus_one (Some n) = suc n

-- the tally of what a walk counts, with the list
abbrev pub tally_of : List ℕ → Counts → Tally
tally_of l c = tally l c.used c.peak (plus_one c.stop)

abbrev pub half_at : Half → ℕ
half_at First = 0
half_at End = 1

-- a place is written into one half of a pair, if the list has that pair
pub record Writes (list : List ℕ) (pair : ℕ) (half : Half) (place : ℕ) (after : List ℕ) : Type 0 where
  pub inside : pair < pairs_of list → after ≡ set list (pair * 2 + half_at half) place
  pub outside : pairs_of list ≤ pair → after ≡ list

-- a node that begins at a is begun: the tally after it, and the pair that waits for its end
pub record Begins (picked : Bool) (list : List ℕ) (c : Counts) (a : ℕ) (after : List ℕ) (c' : Counts) (wait : Option ℕ) : Type 0 where
  pub begun : begin picked (tally_of list c) a ≡ tally_of after c'
  pub waits : waiting picked (tally_of list c) ≡ plus_one wait

-- frames count for the peak
pub record Raises (c : Counts) (frames : ℕ) (c' : Counts) : Type 0 where
  pub raises : (list : List ℕ) → raised frames (tally_of list c) ≡ tally_of list c'
