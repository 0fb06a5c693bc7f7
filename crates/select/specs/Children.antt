-- Walking by children: a node's visits are the node and then the visits of its children; and induction from the children up.
-- With these two no later law goes by cases of the grammar. Assumes nothing.
use Rattle.std.specs.Prelude.{◌≡◌, ℕ, ◌+◌}
use Rattle.std.proofs.Math.Path.{refl, ap}
use Rattle.std.proofs.Common.{sym, subst}
use mathlib.Core.List.Memᴰ
use mathlib.Core.List.{List, ◌∷◌, ◌++◌, flat_map, Memᴰ}
use Rattle.std.proofs.Math.ListN.{length}
use Rattle.json_text.specs.Grammar.{Kind, Value, literal, number, string, container, Items, empty, items, More, end, more}
use Rattle.select.specs.Nodes.{Label, Node, Child, size, key_size, label_of, children, IsChild, value_children, items_children, more_children}
use Rattle.select.specs.Visits.{Visit, visit, visits, items_visits, more_visits, node_visits}

module _ {S : Type 0} (next : S → Label → S) (s : S) where
  -- the visits below one child of a node with the state s
  abbrev pub child_visits : Child → List (Visit S)
  child_visits c = node_visits next c.node (next s c.label)

  more_visits_are : {k : Kind} (m : More k) (j a : ℕ) → more_visits next m s j a ≡ flat_map child_visits (more_children m j a)
  unfolding visits node_visits more_children flat_map
  more_visits_are (end w) j a = refl
  more_visits_are {k} (more w w' key v m) j a =
      let b = a + length w + 1 + length w' + key_size k key in
      ap (λ (z : List (Visit S)). visits next v (next s (label_of k key j)) b ++ z) (more_visits_are m (j + 1) (b + size v))

  -- the visits of a container's items are those of its children
  pub items_visits_are : {k : Kind} (is : Items k) (a : ℕ) → items_visits next is s a ≡ flat_map child_visits (items_children is a)
  unfolding visits node_visits items_children flat_map
  items_visits_are (empty w) a = refl
  items_visits_are {k} (items w key v m) a =
      let b = a + length w + key_size k key in
      ap (λ (z : List (Visit S)). visits next v (next s (label_of k key 0)) b ++ z) (more_visits_are m 1 (b + size v))

  value_visits_are : (v : Value) (a : ℕ) → visits next v s a ≡ visit s v a ∷ flat_map child_visits (value_children v a)
  unfolding visits value_children flat_map
  value_visits_are (literal l) a = refl
  value_visits_are (number g n f e) a = refl
  value_visits_are (string cs) a = refl
  value_visits_are (container k is) a = ap (λ (z : List (Visit S)). visit s (container k is) a ∷ z) (items_visits_are is (a + 1))

  -- a node's visits are the node and then the visits of its children
  pub visits_children : (n : Node) → node_visits next n s ≡ record { state = s; node = n } ∷ flat_map child_visits (children n)
  unfolding node_visits children
  visits_children n = value_visits_are n.value n.first

-- what holds of the first child and of each of the others holds of each
pub first_or_rest : (P : Node → Type 0) {c x : Child} {cs : List Child} → P x.node → (Memᴰ c cs → P c.node) → Memᴰ c (x ∷ cs)
    → P c.node
first_or_rest P p f (Memᴰ.head e) = subst (λ (c : Child). P c.node) (sym e) p
first_or_rest P p f (Memᴰ.tail m) = f m

-- what holds of a node as soon as it holds of its children holds of all nodes
module _ (P : Node → Type 0) (up : (n : Node) → ((l : Label) (c : Node) → IsChild n l c → P c) → P n) where
  mutual
    unfolding IsChild children

    value_induction : (v : Value) (a : ℕ) → P (record { value = v; first = a })
    value_induction (literal l) a = up (record { value = literal l; first = a }) (λ l c m. absurd (Memᴰ.not-nil m))
    value_induction (number g n f e) a = up (record { value = number g n f e; first = a }) (λ l c m. absurd (Memᴰ.not-nil m))
    value_induction (string cs) a = up (record { value = string cs; first = a }) (λ l c m. absurd (Memᴰ.not-nil m))
    value_induction (container k is) a =
        up (record { value = container k is; first = a }) (λ l c m. items_induction is (a + 1) (record { label = l; node = c }) m)

    items_induction : {k : Kind} (is : Items k) (a : ℕ) (c : Child) → Memᴰ c (items_children is a) → P c.node
    items_induction (empty w) a c m = absurd (Memᴰ.not-nil m)
    items_induction {k} (items w key v xs) a c m =
        let b = a + length w + key_size k key in
        first_or_rest P (value_induction v b) (λ m'. more_induction xs 1 (b + size v) c m') m

    more_induction : {k : Kind} (xs : More k) (j a : ℕ) (c : Child) → Memᴰ c (more_children xs j a) → P c.node
    more_induction (end w) j a c m = absurd (Memᴰ.not-nil m)
    more_induction {k} (more w w' key v xs) j a c m =
        let b = a + length w + 1 + length w' + key_size k key in
        first_or_rest P (value_induction v b) (λ m'. more_induction xs (j + 1) (b + size v) c m') m

  pub node_induction : (n : Node) → P n
  node_induction n = value_induction n.value n.first
