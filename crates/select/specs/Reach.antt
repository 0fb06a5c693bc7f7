-- Which nodes are reached, and by which ways: the nodes that a walk visits.
-- A visit is of the node itself or below a child; and with a node its children are visited. Assumes nothing.
use Rattle.std.specs.Prelude.{◌≡◌, refl, ◌↔◌, ◌⊎◌}
use Rattle.std.proofs.Common.{sym, ap, inl, inr}
use Rattle.std.proofs.Math.Path.{subst}
use mathlib.Core.List.Memᴰ
use mathlib.Core.List.{List, [], ◌∷◌, flat_map, Memᴰ}
use Rattle.json_text.specs.Grammar.{Tree}
use Rattle.select.specs.Nodes.{Label, Node, children, IsChild, Below, root}
use Rattle.select.specs.Nodes as N
use Rattle.select.specs.Visits.{Visit, Way, step, node_visits, nodes}
use Rattle.select.specs.Children.{child_visits, visits_children, node_induction}

-- the labels w, the last one first, lead from r, at the way b, to n
pub data ReachFrom (r : Node) (b : Way) : Way → Node → Type 0 where
  start : ReachFrom r b b r
  down : {m n : Node} {w : Way} (l : Label) → ReachFrom r b w m → IsChild m l n → ReachFrom r b (l ∷ w) n

-- the labels w, the last one first, lead from r to n
abbrev pub Reach : Node → Way → Node → Type 0
Reach r w n = ReachFrom r [] w n

-- one label more, before all others
from_child : {r c : Node} {b : Way} (l : Label) → IsChild r l c → {w : Way} {n : Node} → ReachFrom c (l ∷ b) w n → ReachFrom r b w n
from_child l h start = down l start h
from_child l h (down l' p h') = down l' (from_child l h p) h'

below_reach : {r n : Node} → Below r n → (w : Way) × Reach r w n
below_reach N.same = ([], start)
below_reach (N.down l h c) = let (w, p) = below_reach h in (l ∷ w, down l p c)

reach_below : {r n : Node} {w : Way} → Reach r w n → Below r n
reach_below start = N.same
reach_below (down l p c) = N.down l (reach_below p) c

-- the nodes below r are those that some way reaches
pub below_is : (r n : Node) → Below r n ↔ ((w : Way) × Reach r w n)
below_is r n = (below_reach, λ p. reach_below p.1)

pub mem_flat_map : {A B : Type 0} (f : A → List B) {x : A} {y : B} {xs : List A} → Memᴰ x xs → Memᴰ y (f x) → Memᴰ y (flat_map f xs)
unfolding flat_map
mem_flat_map f {y} (Memᴰ.head {x = z} {xs} e) m = Memᴰ.append_left (flat_map f xs) (subst (λ x. Memᴰ y (f x)) e m)
mem_flat_map f (Memᴰ.tail {x = z} h) m = Memᴰ.append_right (f z) (mem_flat_map f h m)

pub of_flat_map : {A B : Type 0} (f : A → List B) {y : B} (xs : List A) → Memᴰ y (flat_map f xs) → (x : A) × Memᴰ x xs × Memᴰ y (f x)
unfolding flat_map
of_flat_map f [] m = absurd (Memᴰ.not-nil m)
of_flat_map {A} {B} f {y} (x ∷ xs) m = go (Memᴰ.append_cases (f x) m) (of_flat_map f xs)
  where
    go : Memᴰ y (f x) ⊎ Memᴰ y (flat_map f xs) → (Memᴰ y (flat_map f xs) → (z : A) × Memᴰ z xs × Memᴰ y (f z))
        → (z : A) × Memᴰ z (x ∷ xs) × Memᴰ y (f z)
    go (inl h) rest = (x, Memᴰ.head refl, h)
    go (inr h) rest = let (z, p, q) = rest h in (z, Memᴰ.tail p, q)

abbrev at : Way → Node → Visit Way
at w n = record { state = w; node = n }

-- a visit of n is of n itself or below a child
module _ (b : Way) where
  visit_cases : (n : Node) {x : Visit Way} → Memᴰ x (node_visits step n b)
      → (x ≡ at b n) ⊎ Memᴰ x (flat_map (child_visits step b) (children n))
  visit_cases n {x} m = Memᴰ.cases_cons (subst (λ (z : List (Visit Way)). Memᴰ x z) (visits_children step b n) m)

  visit_self : (n : Node) → Memᴰ (at b n) (node_visits step n b)
  visit_self n = subst (λ (z : List (Visit Way)). Memᴰ (at b n) z) (sym (visits_children step b n)) (Memᴰ.head refl)

  visit_below : (n c : Node) {x : Visit Way} (l : Label) → IsChild n l c → Memᴰ x (node_visits step c (l ∷ b)) → Memᴰ x (node_visits step n b)
  unfolding IsChild
  visit_below n c {x} l h m =
      subst (λ (z : List (Visit Way)). Memᴰ x z) (sym (visits_children step b n)) (Memᴰ.tail (mem_flat_map (child_visits step b) h m))

-- a visited node is reached by its way
abbrev pub Reached : Node → Type 0
Reached n = (b : Way) (x : Visit Way) → Memᴰ x (node_visits step n b) → ReachFrom n b x.state x.node

pub visit_reach : (n : Node) → Reached n
unfolding IsChild
visit_reach = node_induction Reached up
  where
    up : (n : Node) → ((l : Label) (c : Node) → IsChild n l c → Reached c) → Reached n
    up n ih b x m = go (visit_cases b n m)
      where
        go : (x ≡ at b n) ⊎ Memᴰ x (flat_map (child_visits step b) (children n)) → ReachFrom n b x.state x.node
        go (inl e) = subst (λ (y : Visit Way). ReachFrom n b y.state y.node) (sym e) start
        go (inr h) =
            let (c, p, q) = of_flat_map (child_visits step b) (children n) h in
            from_child c.label p (ih c.label c.node p (c.label ∷ b) x q)

-- with a node its children are visited too
abbrev Closed : Node → Type 0
Closed n = (b w : Way) (m c : Node) (l : Label) → Memᴰ (at w m) (node_visits step n b) → IsChild m l c
    → Memᴰ (at (l ∷ w) c) (node_visits step n b)

visits_closed : (n : Node) → Closed n
unfolding IsChild
visits_closed = node_induction Closed up
  where
    up : (n : Node) → ((l : Label) (c : Node) → IsChild n l c → Closed c) → Closed n
    up n ih b w m c l h k = go (visit_cases b n h)
      where
        go : (at w m ≡ at b n) ⊎ Memᴰ (at w m) (flat_map (child_visits step b) (children n)) → Memᴰ (at (l ∷ w) c) (node_visits step n b)
        go (inl e) =
            Memᴰ.cast
            (ap (λ (x : Visit Way). at (l ∷ x.state) c) e)
            (visit_below b n c l (subst (λ (x : Visit Way). IsChild x.node l c) e k) (visit_self (l ∷ b) c))
        go (inr h') =
            let (d, p, q) = of_flat_map (child_visits step b) (children n) h' in
            visit_below b n d.node d.label p (ih d.label d.node p (d.label ∷ b) w m c l q k)

reach_visit : {r : Node} {b : Way} {n : Node} {w : Way} → ReachFrom r b w n → Memᴰ (at w n) (node_visits step r b)
reach_visit {r} {b = b} start = visit_self b r
reach_visit {r} {b = b} (down {m} {n} {w} l p c) = visits_closed r b w m n l (reach_visit p) c

-- the visits of a walk with ways are the nodes that are reached, with their ways
pub visited_is : (r : Node) (w : Way) (n : Node) → Memᴰ (record { state = w; node = n }) (node_visits step r []) ↔ Reach r w n
visited_is r w n = (visit_reach r [] (at w n), reach_visit)

pub nodes_are : (t : Tree) (w : Way) (n : Node) → Memᴰ (record { state = w; node = n }) (nodes t) ↔ Reach (root t) w n
unfolding nodes
nodes_are t = visited_is (root t)
