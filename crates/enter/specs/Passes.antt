-- What passing or entering the value ahead promises: it goes on, stays within the pile, and keeps what all that is ahead comes to.
use Rattle.std.specs.Prelude.{◌≡◌, Option, List, false, ℕ, length}
use Rattle.query.specs.Steps.{Step}
use Rattle.automaton.specs.Tally.{Tally}
use Rattle.pile.specs.declared.Pile.{Pile}
use Rattle.pile.specs.Pile.{ValueDue, ContainerDue}
use Rattle.pile.specs.Moves.{Idle}
use Rattle.pile.specs.Due.{tally_at, Due, Onward}
use Rattle.pile.specs.declared.Standing.{Standing}
use Rattle.walk.specs.declared.Coming.{Coming}

-- the value ahead is passed, or it is a container with items and is entered; a dead one is passed at once, and no item of it is ahead then
pub record PassesValue (s : List ℕ) (z z' : Pile) (list list' : List ℕ) (v : Coming) (a r : Standing) : Type 0 where
  pub onward : Onward (length s) v.at r
  pub passed : Idle v.marks a.counts.stop → r.item ≡ false
  pub keeps : (x : List Step) (whole : Tally) → ValueDue x s whole z v.at (tally_at list a) v.marks v.picked a.depth a.frames a.marks
      → Due x s whole z' list' r

-- the same of a container whose pair w is begun
pub record PassesContainer (s : List ℕ) (z z' : Pile) (list list' : List ℕ) (v : Coming) (w : Option ℕ) (a r : Standing) : Type 0 where
  pub onward : Onward (length s) v.at r
  pub passed : Idle v.marks a.counts.stop → r.item ≡ false
  pub keeps : (x : List Step) (whole : Tally) → ContainerDue x s whole z v.at (tally_at list a) w v.marks a.depth a.frames a.marks
      → Due x s whole z' list' r
