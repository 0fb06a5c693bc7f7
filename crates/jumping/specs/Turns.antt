-- What the steps of the jumping walk promise: each goes on, stays within the pile, and keeps what all that is ahead comes to.
use Rattle.std.specs.Prelude.{◌≡◌, List, Bool, true, false, ℕ, ◌+◌, ◌-◌, ◌*◌, ◌≤◌, ◌<◌, length}
use Rattle.json_text.specs.Grammar.{Tree, text, nesting}
use Rattle.json_text.specs.Verdict.{max_depth}
use Rattle.query_parser.specs.Holds.{Holds}
use Rattle.query.specs.Steps.{Step}
use Rattle.query_parser.specs.declared.compiled.Kinds.{Kinds}
use Rattle.select.specs.Nodes.{root}
use Rattle.select.specs.Visits.{node_visits}
use Rattle.automaton.specs.State.{next, start}
use Rattle.automaton.specs.Tally.{Tally, tallied, fresh}
use Rattle.pile.specs.declared.Pile.{Pile}
use Rattle.pile.specs.Pile.{Sized, ValuePassed, ValueDue}
use Rattle.pile.specs.Due.{tally_at, Due, Onward}
use Rattle.pile.specs.declared.Standing.{Standing}
use Rattle.walk.specs.declared.Coming.{Coming}

pub record RootMarks (count marks : ℕ) : Type 0 where
  pub are : (x : List Step) → count ≡ length x → marks ≡ (start x).marks

-- before the root: the first byte of the record's value, and the marks of the root of a query with so many steps
pub record BeforeRoot (s : List ℕ) (count : ℕ) (r : Standing) : Type 0 where
  pub within : r.at ≤ length s
  pub item_is : r.item ≡ true
  pub depth_is : r.depth ≡ 0
  pub frames_are : r.frames ≡ 0
  pub due : (x : List Step) → count ≡ length x → (t : Tree) → text t ≡ s → nesting t.value ≤ max_depth → (z : Pile) → Sized z → (list : List ℕ)
      → Due x s (tallied (fresh list) (node_visits (next x) (root t) (start x))) z list r

-- the first byte of the value ahead, its marks, and whether it is picked out
pub record Comes (names : List ℕ) (kinds : Kinds) (operands s : List ℕ) (z : Pile) (a : Standing) (r : Coming) : Type 0 where
  pub onward : a.at ≤ r.at
  pub within : r.at ≤ length s
  pub due : (x : List Step) → Holds names x kinds operands → (whole : Tally) (list : List ℕ) → Due x s whole z list a
      → ValueDue x s whole z r.at (tally_at list a) r.marks r.picked a.depth a.frames a.marks

-- past a comma, with which the innermost container has one item more, or past its closing bracket
pub record GoesOn (s : List ℕ) (z z' : Pile) (list list' : List ℕ) (a r : Standing) : Type 0 where
  pub onward : Onward (length s) a.at r
  pub farther : a.at < r.at
  pub keeps : (x : List Step) (whole : Tally) → ValuePassed x s whole z a.at (tally_at list a) a.depth a.frames a.marks
      → Due x s whole z' list' r

-- how many turns there may still be, in a record of n bytes
abbrev pub turns_left : (n i : ℕ) → (item : Bool) → ℕ
turns_left n i true = 2 * (n + 1 - i) + 1
turns_left n i false = 2 * (n + 1 - i)

-- one step
pub record Turns (names : List ℕ) (kinds : Kinds) (operands s : List ℕ) (z z' : Pile) (list list' : List ℕ) (a r : Standing) : Type 0 where
  pub fewer : turns_left (length s) r.at r.item < turns_left (length s) a.at a.item
  pub inside : (r.depth ≡ 0 → ⊥) → r.at ≤ length s
  pub in_container : r.item ≡ true → r.depth ≡ 0 → ⊥
  pub room : r.depth ≤ max_depth
  pub few : r.frames ≤ max_depth
  pub keeps : (x : List Step) → Holds names x kinds operands → (whole : Tally) → Due x s whole z list a → Due x s whole z' list' r
