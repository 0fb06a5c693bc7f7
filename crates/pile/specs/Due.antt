-- What is ahead where the walk stands, and how a step goes on from there.
use Rattle.std.specs.Prelude.{◌≡◌, ℕ, ◌+◌, ◌<◌, ◌≤◌, true, false, List, length, ◌==◌, ◌≢◌}
use Rattle.json_text.specs.Verdict.{max_depth}
use Rattle.query.specs.Steps.{Step}
use Rattle.automaton.specs.Tally.{Tally}
use Rattle.pairs.specs.Pairs.{tally_of}
use Rattle.pile.specs.declared.Pile.{Pile}
use Rattle.pile.specs.Pile.{ValuePassed, ItemDue, ValueDue}
use Rattle.pile.specs.declared.Standing.{Standing}

abbrev pub tally_at : List ℕ → Standing → Tally
tally_at list a = tally_of list a.counts

-- what is ahead at a place: the root, an item of the innermost container, or what follows a value that has been passed
pub record Due (x : List Step) (s : List ℕ) (whole : Tally) (z : Pile) (list : List ℕ) (a : Standing) : Type 0 where
  pub root : a.item ≡ true → a.depth ≡ 0
      → ValueDue x s whole z a.at (tally_at list a) a.marks (length x == 0) a.depth a.frames a.marks
  pub item : a.item ≡ true → (a.depth ≢ 0) → ItemDue x s whole z a.at (tally_at list a) a.depth a.frames a.marks
  pub passed : a.item ≡ false → ValuePassed x s whole z a.at (tally_at list a) a.depth a.frames a.marks

-- in a record of n bytes, on from place i
pub record Onward (n i : ℕ) (r : Standing) : Type 0 where
  pub onward : i ≤ r.at
  pub farther : r.item ≡ true → i < r.at
  pub within : r.at ≤ n + 1
  pub inside : (r.depth ≢ 0) → r.at ≤ n
  pub in_container : r.item ≡ true → r.depth ≢ 0
  pub room : r.depth ≤ max_depth
  pub few : r.frames ≤ max_depth
