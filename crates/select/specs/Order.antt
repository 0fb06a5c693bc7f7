-- Where nodes stand: those that a walk visits begin at strictly rising places, so that no two begin at the same one.
-- The children of a node stand apart, one after the other, behind its first byte and before its end. Assumes nothing.
use Rattle.std.specs.Prelude.{◌≡◌, refl, ◌⊎◌, ℕ, zero, suc, ◌+◌, ◌≤◌, ◌<◌, length}
use Rattle.std.proofs.Common.{sym, ap, ◌∙◌, inl, inr, add-one}
use Rattle.std.proofs.Math.Path.{subst}
use mathlib.Core.List.Memᴰ
use mathlib.Core.List.{List, [], ◌∷◌, ◌++◌, map, map-append, flat_map, Memᴰ}
use Rattle.std.proofs.Math.Option.{some}
use native.Mathlib.Omega.{arith}
use Rattle.std.proofs.Math.ListN.{get_elem?}
use Rattle.encoding.specs.BytesLaws.{length_blanks}
use Rattle.json_text.specs.Grammar.{Kind, Value, literal, number, string, container, Items, empty}
use Rattle.json_text.specs.Grammar.{items, More, end, more, put_value, put_items, put_more, Tree}
use Rattle.json_text.specs.Append.{length-key, length_value, value_positive}
use Rattle.select.specs.Nodes.{Label, Node, Child, size, key_size, end_of, root, children}
use Rattle.select.specs.Nodes.{value_children, items_children, more_children, IsChild, Below, IsNode}
use Rattle.select.specs.Nodes as N
use Rattle.select.specs.Visits.{Visit, Way, step, node_visits, nodes}
use Rattle.select.specs.Children.{child_visits, visits_children, node_induction}
use Rattle.select.specs.Reach.{Reach, visited_is, below_is}

-- the numbers strictly rise, from a on, and stay below e
abbrev pub Rises : ℕ → List ℕ → ℕ → Type 0
Rises a [] e = a ≤ e
Rises a (x ∷ xs) e = (a ≤ x) × Rises (suc x) xs e

pub rises_lower : (a b e : ℕ) (xs : List ℕ) → a ≤ b → Rises b xs e → Rises a xs e
rises_lower a b e [] h r = omega arith
rises_lower a b e (x ∷ xs) h r = (omega (arith, r.0), r.1)

rises-append : (a b e : ℕ) (xs ys : List ℕ) → Rises a xs b → Rises b ys e → Rises a (xs ++ ys) e
rises-append a b e [] ys r r' = rises_lower a b e ys r r'
rises-append a b e (x ∷ xs) ys r r' = (r.0, rises-append (suc x) b e xs ys r.1 r')

-- the nodes of children stand one after the other, from a on, and end before e
abbrev pub Apart : ℕ → List Child → ℕ → Type 0
Apart a [] e = a ≤ e
Apart a (c ∷ cs) e = (a ≤ c.node.first) × Apart (end_of c.node) cs e

more_apart : {k : Kind} (m : More k) (j a e : ℕ) → e ≡ a + length (put_more m []) → Apart a (more_children m j a) e
unfolding more_children put_more end_of size key_size
more_apart (end w) j a e h = omega arith
more_apart {k} (more w w' key v m) j a e h = (
  omega arith,
  more_apart
      m
      (j + 1)
      (a + length w + 1 + length w' + key_size k key + size v)
      e
      (omega (arith, simp length_blanks at h, length-key k key (put_value v (put_more m [])), length_value v (put_more m []))),
)

items_apart : {k : Kind} (is : Items k) (a e : ℕ) → e ≡ a + length (put_items is []) → Apart a (items_children is a) e
unfolding items_children put_items end_of size key_size
items_apart (empty w) a e h = omega arith
items_apart {k} (items w key v m) a e h = (
  omega arith,
  more_apart
      m
      1
      (a + length w + key_size k key + size v)
      e
      (omega (arith, simp length_blanks at h, length-key k key (put_value v (put_more m [])), length_value v (put_more m []))),
)

value_apart : (v : Value) (a : ℕ) → Apart (suc a) (value_children v a) (a + size v)
unfolding value_children size put_value
value_apart (literal l) a = omega (arith, value_positive (literal l))
value_apart (number g n f e) a = omega (arith, value_positive (number g n f e))
value_apart (string cs) a = omega (arith, value_positive (string cs))
value_apart (container k is) a =
    let e = a + size (container k is) in
    subst (λ (b : ℕ). Apart b (items_children is (a + 1)) e) (add-one a) (items_apart is (a + 1) e (omega arith))

-- the children of a node stand one after the other, behind its first byte
pub children_apart : (n : Node) → Apart (suc n.first) (children n) (end_of n)
unfolding children end_of
children_apart n = value_apart n.value n.first

-- the first bytes of visits
abbrev pub firsts : {S : Type 0} → List (Visit S) → List ℕ
firsts vs = map (λ v. v.node.first) vs

module _ {S : Type 0} (next : S → Label → S) where
  abbrev Ordered : Node → Type 0
  Ordered n = (s : S) → Rises n.first (firsts (node_visits next n s)) (end_of n)

  children_rise : (s : S) (a e : ℕ) (cs : List Child) → Apart a cs e → ((c : Child) → Memᴰ c cs → Ordered c.node)
      → Rises a (firsts (flat_map (child_visits next s) cs)) e
  unfolding flat_map
  children_rise s a e [] h ih = h
  children_rise s a e (c ∷ cs) h ih =
      let xs = child_visits next s c in
      let ys = flat_map (child_visits next s) cs in
      subst
      (λ (zs : List ℕ). Rises a zs e)
      (sym (map-append (λ v. v.node.first) xs ys))
      (rises-append
      a
      (end_of c.node)
      e
      (firsts xs)
      (firsts ys)
      (rises_lower a c.node.first (end_of c.node) (firsts xs) h.0 (ih c (Memᴰ.head refl) (next s c.label)))
      (children_rise s (end_of c.node) e cs h.1 (λ d m. ih d (Memᴰ.tail m))))

  -- the first bytes of the nodes that a walk visits strictly rise
  pub visits_rise : (n : Node) → Ordered n
  unfolding IsChild
  visits_rise = node_induction Ordered up
    where
      up : (n : Node) → ((l : Label) (c : Node) → IsChild n l c → Ordered c) → Ordered n
      up n ih s =
          subst
          (λ (vs : List (Visit S)). Rises n.first (firsts vs) (end_of n))
          (sym (visits_children next s n))
          (omega arith, children_rise s (suc n.first) (end_of n) (children n) (children_apart n) (λ c m. ih c.label c.node m))

pub nodes_rise : (t : Tree) → Rises (root t).first (firsts (nodes t)) (end_of (root t))
unfolding nodes
nodes_rise t = visits_rise step (root t) []

get_elem?_mem : {A : Type 0} {x : A} (xs : List A) (i : ℕ) → get_elem? xs i ≡ some x → Memᴰ x xs
get_elem?_mem [] i p = let z : ◌≡◌ {A = ℕ} 0 1 = cc in absurd (omega arith)
get_elem?_mem {A} {x} (y ∷ xs) zero p = let same : x ≡ y = cc in Memᴰ.head same
get_elem?_mem (y ∷ xs) (suc i) p = Memᴰ.tail (get_elem?_mem xs i p)

-- what stands in a list with rising numbers
module _ {A : Type 0} (f : A → ℕ) where
  pub rises_bounds : (a e : ℕ) {x : A} (xs : List A) → Rises a (map f xs) e → Memᴰ x xs → (a ≤ f x) × (f x < e)
  rises_bounds a e [] r m = absurd (Memᴰ.not-nil m)
  rises_bounds a e {x} (y ∷ xs) r m = go (Memᴰ.cases_cons m) (rises_bounds (suc (f y)) e xs r.1) (rises_ends (suc (f y)) e (map f xs) r.1)
    where
      rises_ends : (a e : ℕ) (xs : List ℕ) → Rises a xs e → a ≤ e
      rises_ends a e [] r = r
      rises_ends a e (x ∷ xs) r = omega (arith, r.0, rises_ends (suc x) e xs r.1)

      go : (x ≡ y) ⊎ Memᴰ x xs → (Memᴰ x xs → (suc (f y) ≤ f x) × (f x < e)) → f y < e → (a ≤ f x) × (f x < e)
      go (inl p) rest h = (omega (arith, ap f p, r.0), omega (arith, ap f p))
      go (inr p) rest h = (omega (arith, r.0, (rest p).0), (rest p).1)

  -- two with the same number are one
  pub rises_unique : (a e : ℕ) {x y : A} (xs : List A) → Rises a (map f xs) e → Memᴰ x xs → Memᴰ y xs → f x ≡ f y → x ≡ y
  rises_unique a e [] r m m' h = absurd (Memᴰ.not-nil m)
  rises_unique a e {x} {y} (z ∷ xs) r m m' h =
      go (Memᴰ.cases_cons m) (Memᴰ.cases_cons m') (λ p p'. rises_unique (suc (f z)) e xs r.1 p p' h)
    where
      above : {u : A} → Memᴰ u xs → f z < f u
      above p = (rises_bounds (suc (f z)) e xs r.1 p).0

      go : (x ≡ z) ⊎ Memᴰ x xs → (y ≡ z) ⊎ Memᴰ y xs → (Memᴰ x xs → Memᴰ y xs → x ≡ y) → x ≡ y
      go (inl p) (inl p') rest = p ∙ sym p'
      go (inl p) (inr p') rest = absurd (omega (arith, ap f p, above p'))
      go (inr p) (inl p') rest = absurd (omega (arith, ap f p', above p))
      go (inr p) (inr p') rest = rest p p'

  -- what stands earlier has the smaller number
  pub rises_earlier : (a e : ℕ) (xs : List A) → Rises a (map f xs) e → (i j : ℕ) (x y : A) → i < j → get_elem? xs i ≡ some x
      → get_elem? xs j ≡ some y → f x < f y
  rises_earlier a e [] r i j x y h p q = let z : ◌≡◌ {A = ℕ} 0 1 = cc in absurd (omega arith)
  rises_earlier a e (z ∷ xs) r zero zero x y h p q = absurd (omega arith)
  rises_earlier a e (z ∷ xs) r zero (suc j) x y h p q =
      let same : z ≡ x = cc in
      omega (arith, ap f same, (rises_bounds (suc (f z)) e xs r.1 (get_elem?_mem xs j q)).0)
  rises_earlier a e (z ∷ xs) r (suc i) zero x y h p q = absurd (omega arith)
  rises_earlier a e (z ∷ xs) r (suc i) (suc j) x y h p q = rises_earlier (suc (f z)) e xs r.1 i j x y (omega arith) p q

-- two nodes of a record with the same first byte are one node, with one way
pub way_unique : {r : Node} {w w' : Way} {n n' : Node} → Reach r w n → Reach r w' n' → n.first ≡ n'.first → (w ≡ w') × (n ≡ n')
way_unique {r} {w} {w'} {n} {n'} p p' h =
    let e =
    rises_unique
    (λ (v : Visit Way). v.node.first)
    r.first
    (end_of r)
    (node_visits step r [])
    (visits_rise step r [])
    ((visited_is r w n).1 p)
    ((visited_is r w' n').1 p')
    h in
    (ap (λ v. v.state) e, ap (λ v. v.node) e)

-- so a place is the first byte of one node at most
pub node_unique : (t : Tree) (n n' : Node) → IsNode t n → IsNode t n' → n.first ≡ n'.first → n ≡ n'
unfolding IsNode
node_unique t n n' h h' e = (way_unique ((below_is (root t) n).0 h).1 ((below_is (root t) n').0 h').1 e).1

-- a node has at least one byte
pub first_before_end : (n : Node) → n.first < end_of n
unfolding end_of size
first_before_end n = omega (arith, value_positive n.value)

apart_ends : (a e : ℕ) (cs : List Child) → Apart a cs e → a ≤ e
apart_ends a e [] h = h
apart_ends a e (c ∷ cs) h = omega (arith, h.0, first_before_end c.node, apart_ends (end_of c.node) e cs h.1)

apart_bounds : (a e : ℕ) {c : Child} (cs : List Child) → Apart a cs e → Memᴰ c cs → (a ≤ c.node.first) × (end_of c.node ≤ e)
apart_bounds a e [] h m = absurd (Memᴰ.not-nil m)
apart_bounds a e {c} (d ∷ cs) h m = go (Memᴰ.cases_cons m) (apart_bounds (end_of d.node) e cs h.1)
  where
    go : (c ≡ d) ⊎ Memᴰ c cs → (Memᴰ c cs → (end_of d.node ≤ c.node.first) × (end_of c.node ≤ e))
        → (a ≤ c.node.first) × (end_of c.node ≤ e)
    go (inl p) rest =
        subst
        (λ (x : Child). (a ≤ x.node.first) × (end_of x.node ≤ e))
        (sym p)
        (h.0, apart_ends (end_of d.node) e cs h.1)
    go (inr p) rest = (omega (arith, h.0, first_before_end d.node, (rest p).0), (rest p).1)

-- a child begins behind its parent's first byte and ends with its parent or before it
pub child_within : (p : Node) (l : Label) (c : Node) → IsChild p l c → (p.first < c.first) × (end_of c ≤ end_of p)
unfolding IsChild
child_within p l c m = apart_bounds (suc p.first) (end_of p) (children p) (children_apart p) m

pub below_within : {p n : Node} → Below p n → (p.first ≤ n.first) × (end_of n ≤ end_of p)
below_within N.same = (omega arith, omega arith)
below_within (N.down {m} {n} l b c) =
    let h = below_within b in
    let k = child_within m l n c in
    (omega (arith, h.0, k.0), omega (arith, h.1, k.1))
