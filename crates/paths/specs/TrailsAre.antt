-- What trails are: the links that lead from the root, item by item, down to a node. Without the places of names items are children, and the trails
-- of a record are the ways to its nodes. Both hold as the visits of a node are the node itself and then those of its items. Assumes nothing.
use Rattle.std.specs.Prelude.{◌≡◌, ◌↔◌, ◌⊎◌, ℕ, ◌+◌}
use Rattle.std.proofs.Math.Path.{refl, ap}
use Rattle.std.proofs.Common.{sym, ap₂, subst, ◌∙◌, inl, inr}
use mathlib.Core.List.{List, [], ◌∷◌, ◌++◌, map, map-append, append-nil, reverse, reverse-cons, flat_map}
use mathlib.Core.List.Memᴰ
use mathlib.Core.List.{Memᴰ}
use Rattle.std.proofs.Math.ListN.{length}
use Rattle.json_text.specs.Grammar.{Kind, array, object, Key, Value, literal, number, string, container, Items, empty, items, More, end, more, Tree}
use Rattle.select.specs.Nodes.{Label, Node, Child, child, size, key_size, end_of, root, children, value_children, items_children, more_children}
use Rattle.select.specs.Nodes.{IsChild, Below, same}
use Rattle.select.specs.Nodes as N
use Rattle.select.specs.Visits.{Visit, visit, Way, step, node_visits, nodes}
use Rattle.select.specs.VisitsMap.{over}
use Rattle.select.specs.Children.{child_visits, visits_children, node_induction}
use Rattle.select.specs.Reach.{mem_flat_map, of_flat_map}
use Rattle.select.specs.Order.{Rises, firsts, nodes_rise, rises_unique}
use Rattle.paths.specs.Normalized.{labels_on}
use Rattle.paths.specs.Trails.{Link, link_label, Trail, link_of, Item, item, more_items, container_items, value_items, items_of}
use Rattle.paths.specs.Trails.{trails, items_trails, more_trails, trails_of}

-- an item without the place of its name
abbrev pub child_of : Item → Child
child_of i = record { label = link_label i.link; node = i.node }

label_of_lem : (k : Kind) (key : Key k) (j q : ℕ) → link_label (link_of k key j q) ≡ N.label_of k key j
unfolding link_label link_of N.label_of
label_of_lem array key j q = refl
label_of_lem object key j q = refl

more_children_lem : {k : Kind} (m : More k) (j a : ℕ) → map child_of (more_items m j a) ≡ more_children m j a
unfolding more_items more_children
more_children_lem (end w) j a = refl
more_children_lem {k} (more w w' key v m) j a =
    let q = a + length w + 1 + length w' in
    let b = q + key_size k key in
    ap₂ (λ (l : Label) (cs : List Child). child l v b ∷ cs) (label_of_lem k key j q) (more_children_lem m (j + 1) (b + size v))

container_children : {k : Kind} (is : Items k) (a : ℕ) → map child_of (container_items is a) ≡ items_children is a
unfolding container_items items_children
container_children (empty w) a = refl
container_children {k} (items w key v m) a =
    let q = a + length w in
    let b = q + key_size k key in
    ap₂ (λ (l : Label) (cs : List Child). child l v b ∷ cs) (label_of_lem k key 0 q) (more_children_lem m 1 (b + size v))

value_children_lem : (v : Value) (a : ℕ) → map child_of (value_items v a) ≡ value_children v a
unfolding value_items value_children
value_children_lem (literal l) a = refl
value_children_lem (number g n f e) a = refl
value_children_lem (string cs) a = refl
value_children_lem (container k is) a = container_children is (a + 1)

-- items are children
pub items_are : (n : Node) → map child_of (items_of n) ≡ children n
unfolding items_of children
items_are n = value_children_lem n.value n.first

-- n is an item of m, by the link l
abbrev pub IsItem : Node → Link → Node → Type 0
IsItem m l n = Memᴰ (record { link = l; node = n }) (items_of m)

pub item_child : (m : Node) {n : Node} {l : Link} → IsItem m l n → IsChild m (link_label l) n
unfolding IsChild
item_child m h = rw items_are at (Memᴰ.map child_of h)

pub child_item : (m : Node) (l : Label) (n : Node) → IsChild m l n → (k : Link) × IsItem m k n × (link_label k ≡ l)
unfolding IsChild
child_item m l n h =
    let (i, k, e) = Memᴰ.of_map child_of {b = record { label = l; node = n }} (items_of m) (rw items_are h) in
    (i.link, subst (λ (x : Node). IsItem m i.link x) (ap (λ (c : Child). c.node) e) k, ap (λ (c : Child). c.label) e)

-- a node and all below it, with their trails; u is the node's own
abbrev node_trails : Node → Trail → List (Visit Trail)
node_trails n u = trails n.value u n.first

abbrev at : Trail → Node → Visit Trail
at u n = record { state = u; node = n }

module _ (u : Trail) where
  -- those of one item of a node with the trail u
  abbrev item_trails : Item → List (Visit Trail)
  item_trails i = node_trails i.node (i.link ∷ u)

  more_trails_lem : {k : Kind} (m : More k) (j a : ℕ) → more_trails m u j a ≡ flat_map item_trails (more_items m j a)
  unfolding trails more_items flat_map
  more_trails_lem (end w) j a = refl
  more_trails_lem {k} (more w w' key v m) j a =
      let q = a + length w + 1 + length w' in
      let b = q + key_size k key in
      ap (λ (z : List (Visit Trail)). trails v (link_of k key j q ∷ u) b ++ z) (more_trails_lem m (j + 1) (b + size v))

  container_trails : {k : Kind} (is : Items k) (a : ℕ) → items_trails is u a ≡ flat_map item_trails (container_items is a)
  unfolding trails container_items flat_map
  container_trails (empty w) a = refl
  container_trails {k} (items w key v m) a =
      let q = a + length w in
      let b = q + key_size k key in
      ap (λ (z : List (Visit Trail)). trails v (link_of k key 0 q ∷ u) b ++ z) (more_trails_lem m 1 (b + size v))

  value_trails : (v : Value) (a : ℕ) → trails v u a ≡ visit u v a ∷ flat_map item_trails (value_items v a)
  unfolding trails value_items flat_map
  value_trails (literal l) a = refl
  value_trails (number g n f e) a = refl
  value_trails (string cs) a = refl
  value_trails (container k is) a = ap (λ (z : List (Visit Trail)). visit u (container k is) a ∷ z) (container_trails is (a + 1))

  -- a node's visits are the node and then those of its items
  trails_items : (n : Node) → node_trails n u ≡ at u n ∷ flat_map item_trails (items_of n)
  unfolding items_of
  trails_items n = value_trails n.value n.first

-- a trail without the places of its names
abbrev pub way_of : Trail → Way
way_of u = map link_label u

abbrev Forgets : Node → Type 0
Forgets n = (u : Trail) → map (over way_of) (node_trails n u) ≡ node_visits step n (way_of u)

items_forget : (u : Trail) (is : List Item) → ((i : Item) → Memᴰ i is → Forgets i.node)
    → map (over way_of) (flat_map (item_trails u) is) ≡ flat_map (child_visits step (way_of u)) (map child_of is)
unfolding flat_map
items_forget u [] ih = refl
items_forget u (i ∷ is) ih =
    map-append (over way_of) (item_trails u i) (flat_map (item_trails u) is)
    ∙ ap₂ (λ (x y : List (Visit Way)). x ++ y) (ih i (Memᴰ.head refl) (i.link ∷ u)) (items_forget u is (λ x m. ih x (Memᴰ.tail m)))

trails_forget : (n : Node) → Forgets n
trails_forget = node_induction Forgets up
  where
    up : (n : Node) → ((l : Label) (c : Node) → IsChild n l c → Forgets c) → Forgets n
    up n ih u =
        ap (map (over way_of)) (trails_items u n)
        ∙ ap (λ z. record { state = way_of u; node = n } ∷ z)
        (items_forget u (items_of n) (λ i m. ih (link_label i.link) i.node (item_child n m))
        ∙ ap (flat_map (child_visits step (way_of u))) (items_are n))
        ∙ sym (visits_children step (way_of u) n)

-- without the places of names the trails of a record are the ways to its nodes
pub trails_are : (t : Tree) → map (over way_of) (trails_of t) ≡ nodes t
unfolding trails_of nodes
trails_are t = trails_forget (root t) []

-- the links u, the last one first, lead from r, item by item, down to n
pub data Leads (r : Node) : Trail → Node → Type 0 where
  start : Leads r [] r
  down : {m n : Node} {u : Trail} {l : Link} → Leads r u m → IsItem m l n → Leads r (l ∷ u) n

-- the same from the top: from r, whose trail is b, to n, whose trail is u
data Descends : (r : Node) (b u : Trail) (n : Node) → Type 0 where
  here : {r : Node} {b : Trail} → Descends r b b r
  into : {r c n : Node} {b u : Trail} {l : Link} → IsItem r l c → Descends c (l ∷ b) u n → Descends r b u n

further : {r m n : Node} {b u : Trail} {l : Link} → Descends r b u m → IsItem m l n → Descends r b (l ∷ u) n
further here h = into h here
further (into k d) h = into k (further d h)

leads_descends : {r n : Node} {u : Trail} → Leads r u n → Descends r [] u n
leads_descends start = here
leads_descends (down p h) = further (leads_descends p) h

descends_leads : {r m n : Node} {b u : Trail} → Leads r b m → Descends m b u n → Leads r u n
descends_leads p here = p
descends_leads p (into h d) = descends_leads (down p h) d

descends_visit : {r n : Node} {b u : Trail} → Descends r b u n → Memᴰ (at u n) (node_trails r b)
descends_visit {r} {b = b} here = rw (trails_items b r) (Memᴰ.head refl)
descends_visit {r} {b = b} (into h d) = rw (trails_items b r) (Memᴰ.tail (mem_flat_map (item_trails b) h (descends_visit d)))

abbrev Descended : Node → Type 0
Descended n = (b : Trail) (x : Visit Trail) → Memᴰ x (node_trails n b) → Descends n b x.state x.node

visit_descends : (n : Node) → Descended n
visit_descends = node_induction Descended up
  where
    up : (n : Node) → ((l : Label) (c : Node) → IsChild n l c → Descended c) → Descended n
    up n ih b x m = go (Memᴰ.cases_cons (rw (trails_items b n) at m))
      where
        go : (x ≡ at b n) ⊎ Memᴰ x (flat_map (item_trails b) (items_of n)) → Descends n b x.state x.node
        go (inl e) = subst (λ (y : Visit Trail). Descends n b y.state y.node) (sym e) here
        go (inr h) =
            let (i, p, q) = of_flat_map (item_trails b) (items_of n) h in
            into p (ih (link_label i.link) i.node (item_child n p) (i.link ∷ b) x q)

-- the visits of a record are of the nodes that trails lead to, with these trails
pub visited_is : (t : Tree) (u : Trail) (n : Node) → Memᴰ (record { state = u; node = n }) (trails_of t) ↔ Leads (root t) u n
unfolding trails_of
visited_is t u n = (λ m. descends_leads start (visit_descends (root t) [] (at u n) m), λ p. descends_visit (leads_descends p))

-- the labels from the root down, with one link more
pub labels_snoc : (l : Link) (u : Trail) → map link_label (reverse (l ∷ u)) ≡ map link_label (reverse u) ++ (link_label l ∷ [])
labels_snoc l u = ap (map link_label) (reverse-cons l u) ∙ map-append link_label (reverse u) (l ∷ [])

-- on from c, whose trail is u, to a node below it
pub leads_on : {r c n : Node} {u : Trail} → Leads r u c → (b : Below c n)
    → (v : Trail) × Leads r (v ++ u) n × (labels_on b ≡ map link_label (reverse v))
unfolding labels_on
leads_on p same = ([], p, refl)
leads_on p (N.down {m} {n} l b c) =
    let (v, q, e) = leads_on p b in
    let (k, h, f) = child_item m l n c in
    (k ∷ v, down q h, ap₂ (λ (x : List Label) (y : Label). x ++ (y ∷ [])) e (sym f) ∙ sym (labels_snoc k v))

-- a trail leads to a node below the root
pub leads_below : {r n : Node} {u : Trail} → Leads r u n → Below r n
leads_below start = same
leads_below (down {m} {l} p h) = N.down (link_label l) (leads_below p) (item_child m h)

-- trails that lead to nodes with the same first byte are one trail
pub trail_unique : (t : Tree) {u v : Trail} {n m : Node} → Leads (root t) u n → Leads (root t) v m → n.first ≡ m.first → u ≡ v
trail_unique t {u} {v} {n} {m} p q e =
    ap (λ (x : Visit Trail). x.state)
    (rises_unique
    (λ (x : Visit Trail). x.node.first)
    (root t).first
    (end_of (root t))
    (trails_of t)
    rise
    ((visited_is t u n).1 p)
    ((visited_is t v m).1 q)
    e)
  where
    same_firsts : (vs : List (Visit Trail)) → firsts (map (over way_of) vs) ≡ firsts vs
    same_firsts [] = refl
    same_firsts (x ∷ vs) = ap (λ (z : List ℕ). x.node.first ∷ z) (same_firsts vs)

    rise : Rises (root t).first (firsts (trails_of t)) (end_of (root t))
    rise = rw (← same_firsts (trails_of t), trails_are) (nodes_rise t)

-- the trail to a node of a record, whose labels are those on any way down to it
pub trail_to : (t : Tree) {n : Node} → Below (root t) n → (u : Trail) × Leads (root t) u n
trail_to t b = let (v, p, e) = leads_on start b in (v, rw append-nil at p)

pub labels_on_lem : (t : Tree) {u : Trail} {n : Node} → Leads (root t) u n → (b : Below (root t) n) → labels_on b ≡ map link_label (reverse u)
labels_on_lem t p b =
    let (v, q, e) = leads_on start b in
    e ∙ ap (λ (x : Trail). map link_label (reverse x)) (trail_unique t (rw append-nil at q) p refl)
