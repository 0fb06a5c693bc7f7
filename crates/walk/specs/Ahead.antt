-- What is still ahead of a walk inside a container, and what the whole of it comes to: a tally and a place.
use Rattle.std.specs.Prelude.{◌≡◌, List, [], ◌++◌, true, ℕ, ◌+◌, ◌≤◌, length, drop}
use Rattle.encoding.specs.Bytes.{Blanks, put_blanks}
use Rattle.json_text.specs.Grammar.{Kind, Key, Value, Items, More, put_key, put_value, put_items, put_more, nesting, items_nesting, more_nesting}
use Rattle.select.specs.Nodes.{Label, size, key_size, label_of}
use Rattle.select.specs.Visits.{visits, items_visits, more_visits}
use Rattle.scan.specs.Shape.{stopped}
use Rattle.automaton.specs.State.{State}
use Rattle.automaton.specs.Tally.{Tally, tallied}

-- the place of an item's value
abbrev pub value_at : (k : Kind) → ℕ → Blanks → Key k → ℕ
value_at k i w key = i + length w + key_size k key

-- in a container with the state st, from which child states follow by next, of which n levels more may be opened;
-- after it stands rest, the tally will be goal and the place after the container end
module _ (next : State → Label → State) (s rest : List ℕ) (k : Kind) (st : State) (n : ℕ) (goal : Tally) (end : ℕ) where
  -- at place i, with the tally t, the item at position j is ahead; before each item but the first there is a comma, so j is at most i
  pub record ItemAhead (i j : ℕ) (t : Tally) : Type 0 where
    pub w : Blanks
    pub key : Key k
    pub v : Value
    pub m : More k
    pub behind : j ≤ i
    pub here : drop i s ≡ put_blanks w (put_key k key (put_value v (put_more m rest)))
    pub shallow : nesting v ≤ n
    pub shallow_more : more_nesting m ≤ n
    pub runs :
        tallied t
        (visits next v (next st (label_of k key j)) (value_at k i w key) ++ more_visits next m st (j + 1) (value_at k i w key + size v))
        ≡ goal
    pub ends : end ≡ value_at k i w key + size v + length (put_more m [])

  -- an item has been passed; the next one's position is j
  pub record MoreAhead (i j : ℕ) (t : Tally) : Type 0 where
    pub m : More k
    pub behind : j ≤ i + 1
    pub here : drop i s ≡ put_more m rest
    pub shallow : more_nesting m ≤ n
    pub runs : tallied t (more_visits next m st j i) ≡ goal
    pub ends : end ≡ i + length (put_more m [])

  -- the opening bracket has been passed
  pub record ItemsAhead (i : ℕ) (t : Tally) : Type 0 where
    pub is : Items k
    pub here : drop i s ≡ put_items is rest
    pub shallow : items_nesting is ≤ n
    pub runs : tallied t (items_visits next is st i) ≡ goal
    pub ends : end ≡ i + length (put_items is [])

-- a value is ahead, with the state st, of which n levels may be opened; what follows it ends a word
pub record ValueAhead (next : State → Label → State) (s rest : List ℕ) (st : State) (n : ℕ) (goal : Tally) (end : ℕ)
    (i : ℕ) (t : Tally) : Type 0 where
  pub v : Value
  pub here : drop i s ≡ put_value v rest
  pub stops : stopped rest ≡ true
  pub shallow : nesting v ≤ n
  pub runs : tallied t (visits next v st i) ≡ goal
  pub ends : end ≡ i + size v
