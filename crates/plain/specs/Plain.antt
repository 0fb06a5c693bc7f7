-- What the parts of the plain walk promise: where they end, and the tally that they come to. Each says more only where a value or items stand there.
use Rattle.std.specs.Prelude.{◌≡◌, List, Bool, true, ℕ, ◌+◌, ◌≤◌, length, drop}
use Rattle.encoding.specs.Bytes.{Blanks, put_blanks}
use Rattle.json_text.specs.Grammar.{Key, put_key}
use Rattle.query_parser.specs.Holds.{Holds}
use Rattle.query.specs.Steps.{Step}
use Rattle.query_parser.specs.declared.compiled.Kinds.{Kinds}
use Rattle.select.specs.Nodes.{label_of}
use Rattle.scan.specs.Scans.{kind_if}
use Rattle.scan.specs.Shape.{solid}
use Rattle.automaton.specs.State.{State, next, start}
use Rattle.automaton.specs.Tally.{Tally}
use Rattle.walk.specs.Ahead.{value_at, ItemsAhead, ValueAhead}
use Rattle.plain.specs.declared.State.{State as Carried}

-- a state by the parts that a walk carries
abbrev pub state_of : Carried → State
state_of x = record { marks = x.marks; picked = x.picked; frames = x.frames }

-- the state at the root of a walk for a query of n steps
pub record RootState (n : ℕ) (st : State) : Type 0 where
  pub no_frames : st.frames ≡ 0
  pub starts : (x : List Step) → length x ≡ n → st ≡ start x

-- a query's names, kinds and operands, and a record s
module _ (names : List ℕ) (kinds : Kinds) (operands s : List ℕ) where
  -- the item at position j stands at a, in a container with the state st: the place of its value, and the value's state
  pub record EntersChild (a : ℕ) (is_object : Bool) (j : ℕ) (st : State) (v : ℕ) (st' : State) : Type 0 where
    pub onward : a ≤ v
    pub within : v ≤ length s
    pub one_more : st'.frames ≤ st.frames + 1
    pub exact : (x : List Step) → Holds names x kinds operands
        → (w : Blanks) (key : Key (kind_if is_object)) (rest : List ℕ)
        → drop a s ≡ put_blanks w (put_key (kind_if is_object) key rest) → solid rest ≡ true
        → (v ≡ value_at (kind_if is_object) a w key) × (st' ≡ next x st (label_of (kind_if is_object) key j))

  -- a value at a is walked, with the state st and n levels that may be opened: from the tally t to t', up to place e
  pub record WalksValue (a n : ℕ) (st : State) (t t' : Tally) (e : ℕ) : Type 0 where
    pub onward : a ≤ e
    pub within : e ≤ length s
    pub exact : (x : List Step) → Holds names x kinds operands → (rest : List ℕ) (goal : Tally) (end : ℕ)
        → ValueAhead (next x) s rest st n goal end a t → (t' ≡ goal) × (e ≡ end)

  -- the items of a container with the state st are walked, from the place after its opening bracket to that after its closing one
  pub record WalksItems (a n : ℕ) (is_object : Bool) (st : State) (t t' : Tally) (e : ℕ) : Type 0 where
    pub onward : a ≤ e
    pub within : e ≤ length s
    pub exact : (x : List Step) → Holds names x kinds operands → (rest : List ℕ) (goal : Tally) (end : ℕ)
        → ItemsAhead (next x) s rest (kind_if is_object) st n goal end a t → (t' ≡ goal) × (e ≡ end)
