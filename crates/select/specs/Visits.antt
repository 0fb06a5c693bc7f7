-- A walk through a value, over any states: every node in preorder, with the state that the labels on the way to it lead to.
use Rattle.std.specs.Prelude.{List, [], ◌∷◌, ◌++◌, ℕ, ◌+◌, length}
use Rattle.json_text.specs.Grammar.{Kind, Value, literal, number, string, container, Items, empty, items, More, end, more, Tree}
use Rattle.select.specs.Nodes.{Label, Node, size, key_size, label_of, root}

-- a node, and the state at it
pub record Visit (S : Type 0) : Type 0 where
  pub state : S
  pub node : Node

abbrev pub visit : {S : Type 0} → S → Value → ℕ → Visit S
visit s v a = record { state = s; node = record { value = v; first = a } }

module _ {S : Type 0} (next : S → Label → S) where
  unfoldable mutual
    unfolding size key_size label_of

    -- of a value whose first byte stands at a, with the state s
    pub visits : Value → S → ℕ → List (Visit S)
    visits (literal l) s a = visit s (literal l) a ∷ []
    visits (number g n f e) s a = visit s (number g n f e) a ∷ []
    visits (string cs) s a = visit s (string cs) a ∷ []
    visits (container k is) s a = visit s (container k is) a ∷ items_visits is s (a + 1)

    -- of a container's items, where s is the container's state
    pub items_visits : {k : Kind} → Items k → S → ℕ → List (Visit S)
    items_visits (empty w) s a = []
    items_visits {k} (items w key v m) s a =
        let b = a + length w + key_size k key in
        visits v (next s (label_of k key 0)) b ++ more_visits m s 1 (b + size v)

    pub more_visits : {k : Kind} → More k → S → (j a : ℕ) → List (Visit S)
    more_visits (end w) s j a = []
    more_visits {k} (more w w' key v m) s j a =
        let b = a + length w + 1 + length w' + key_size k key in
        visits v (next s (label_of k key j)) b ++ more_visits m s (j + 1) (b + size v)

  unfoldable pub node_visits : Node → S → List (Visit S)
  unfolding visits
  node_visits n s = visits n.value s n.first

-- the way to a node: the labels from the root down to it, the last one first
abbrev pub Way : Type 0
Way = List Label

abbrev pub step : Way → Label → Way
step w l = l ∷ w

-- every node of a record, with its way
unfoldable pub nodes : Tree → List (Visit Way)
unfolding node_visits root
nodes t = node_visits step (root t) []
