-- The nodes of a record (RFC 9535 §1.1): its values, where they stand, and how one is reached from another.
use mathlib.Core.List.{List, [], ◌∷◌, Memᴰ}
use Rattle.std.specs.Prelude.{ℕ, ◌+◌, length}
use Rattle.json_text.specs.Grammar.{Kind, array, object, Key, put_key, Value, literal, number}
use Rattle.json_text.specs.Grammar.{string, container, Items, empty, items, More, end, more, put_value, Tree}
use Rattle.json_text.specs.Points.{points_of}

-- how a node hangs below its parent: by a name, as the code points that it spells, or by its position in an array, from 0
pub data Label : Type 0 where
  member : List ℕ → Label
  element : ℕ → Label

-- a value, and the place of its first byte in the record
pub record Node : Type 0 where
  pub value : Value
  pub first : ℕ

-- how many bytes a value takes, and what stands before an item's value
unfoldable pub size : Value → ℕ
unfolding put_value
size v = length (put_value v [])

unfoldable pub key_size : (k : Kind) → Key k → ℕ
unfolding put_key
key_size k key = length (put_key k key [])

-- the byte after the last
unfoldable pub end_of : Node → ℕ
unfolding size
end_of n = n.first + size n.value

-- the value of a record that stands before any other
unfoldable pub root : Tree → Node
root t = record { value = t.value; first = length t.before }

unfoldable pub label_of : (k : Kind) → Key k → ℕ → Label
unfolding points_of
label_of array key j = element j
label_of object key j = member (points_of key.chars)

pub record Child : Type 0 where
  pub label : Label
  pub node : Node

abbrev pub child : Label → Value → ℕ → Child
child l v a = record { label = l; node = record { value = v; first = a } }

-- the items that follow at place a, the first of them number j
unfoldable pub more_children : {k : Kind} → More k → (j a : ℕ) → List Child
unfolding size key_size label_of
more_children (end w) j a = []
more_children {k} (more w w' key v m) j a =
    let b = a + length w + 1 + length w' + key_size k key in
    child (label_of k key j) v b ∷ more_children m (j + 1) (b + size v)

-- the items of a container whose opening bracket stands just before place a
unfoldable pub items_children : {k : Kind} → Items k → (a : ℕ) → List Child
unfolding more_children
items_children (empty w) a = []
items_children {k} (items w key v m) a =
    let b = a + length w + key_size k key in
    child (label_of k key 0) v b ∷ more_children m 1 (b + size v)

-- every member of an object, also where names repeat, and every element of an array, in order; a scalar has none
unfoldable pub value_children : Value → ℕ → List Child
unfolding items_children
value_children (literal l) a = []
value_children (number g n f e) a = []
value_children (string cs) a = []
value_children (container k is) a = items_children is (a + 1)

unfoldable pub children : Node → List Child
unfolding value_children
children n = value_children n.value n.first

-- c is a child of p, by the label l
unfoldable pub IsChild : Node → Label → Node → Type 0
IsChild p l c = Memᴰ (record { label = l; node = c }) (children p)

-- n is p, or a node below it
pub data Below (p : Node) : Node → Type 0 where
  same : Below p p
  down : {m n : Node} (l : Label) → Below p m → IsChild m l n → Below p n

-- the nodes of a record
unfoldable pub IsNode : Tree → Node → Type 0
IsNode t n = Below (root t) n

-- a container, array or object
pub data IsContainer : Node → Type 0 where
  holds : {a : ℕ} (k : Kind) (is : Items k) → IsContainer (record { value = container k is; first = a })
