-- The way to a node with the places of its names: what the path of the node, and ground 9, go by.
use Rattle.std.specs.Prelude.{List, [], ◌∷◌, ◌++◌, ℕ, ◌+◌, length}
use Rattle.json_text.specs.Grammar.{Kind, array, object, Key, Value, literal, number, string, container, Items, empty, items, More, end, more, Tree}
use Rattle.json_text.specs.Points.{points_of}
use Rattle.select.specs.Nodes.{Label, member, element, Node, size, key_size, root}
use Rattle.select.specs.Visits.{Visit, visit}

-- how a node hangs below its parent: by a name, as its code points, whose opening quote stands at a place; or by its position in an array
pub data Link : Type 0 where
  named : (points : List ℕ) (quote : ℕ) → Link
  placed : (position : ℕ) → Link

unfoldable pub link_label : Link → Label
link_label (named k q) = member k
link_label (placed j) = element j

-- the links from the root down to a node, the last one first
abbrev pub Trail : Type 0
Trail = List Link

-- of the item number j of a container, where what stands before its value begins at place q
unfoldable pub link_of : (k : Kind) → Key k → (j q : ℕ) → Link
unfolding points_of
link_of array key j q = placed j
link_of object key j q = named (points_of key.chars) q

-- a child, and how it hangs below its parent
pub record Item : Type 0 where
  pub link : Link
  pub node : Node

abbrev pub item : Link → Value → ℕ → Item
item l v a = record { link = l; node = record { value = v; first = a } }

-- the items that follow at place a, the first of them number j
unfoldable pub more_items : {k : Kind} → More k → (j a : ℕ) → List Item
unfolding size key_size link_of
more_items (end w) j a = []
more_items {k} (more w w' key v m) j a =
    let q = a + length w + 1 + length w' in
    let b = q + key_size k key in
    item (link_of k key j q) v b ∷ more_items m (j + 1) (b + size v)

-- the items of a container whose opening bracket stands just before place a
unfoldable pub container_items : {k : Kind} → Items k → (a : ℕ) → List Item
unfolding more_items
container_items (empty w) a = []
container_items {k} (items w key v m) a =
    let q = a + length w in
    let b = q + key_size k key in
    item (link_of k key 0 q) v b ∷ more_items m 1 (b + size v)

unfoldable pub value_items : Value → ℕ → List Item
unfolding container_items
value_items (literal l) a = []
value_items (number g n f e) a = []
value_items (string cs) a = []
value_items (container k is) a = container_items is (a + 1)

-- the children of a node, each with its link
unfoldable pub items_of : Node → List Item
unfolding value_items
items_of n = value_items n.value n.first

unfoldable mutual
  unfolding size key_size link_of

  -- every node of a value whose first byte stands at a, with its trail, in preorder; u is the value's own
  pub trails : Value → Trail → ℕ → List (Visit Trail)
  trails (literal l) u a = visit u (literal l) a ∷ []
  trails (number g n f e) u a = visit u (number g n f e) a ∷ []
  trails (string cs) u a = visit u (string cs) a ∷ []
  trails (container k is) u a = visit u (container k is) a ∷ items_trails is u (a + 1)

  pub items_trails : {k : Kind} → Items k → Trail → ℕ → List (Visit Trail)
  items_trails (empty w) u a = []
  items_trails {k} (items w key v m) u a =
      let q = a + length w in
      let b = q + key_size k key in
      trails v (link_of k key 0 q ∷ u) b ++ more_trails m u 1 (b + size v)

  pub more_trails : {k : Kind} → More k → Trail → (j a : ℕ) → List (Visit Trail)
  more_trails (end w) u j a = []
  more_trails {k} (more w w' key v m) u j a =
      let q = a + length w + 1 + length w' in
      let b = q + key_size k key in
      trails v (link_of k key j q ∷ u) b ++ more_trails m u (j + 1) (b + size v)

-- every node of a record, with its trail
unfoldable pub trails_of : Tree → List (Visit Trail)
unfolding trails root
trails_of t = trails (root t).value [] (root t).first
