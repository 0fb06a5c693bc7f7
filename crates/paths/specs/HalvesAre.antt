-- Ground 9's place is that of the first name with half of a surrogate pair: the names on a way stand in its order, so the outermost is the first.
-- Where there is none all labels are whole, as a record's names have no numbers but code points and halves. Assumes nothing.
use Rattle.std.specs.Prelude.{◌≡◌, refl, ◌↔◌, ◌⊎◌, List, [], ◌∷◌, ◌++◌, map, reverse, Bool, true, false, ◌&&◌, ℕ, ◌+◌, ◌≤◌, leb, length}
use Rattle.std.proofs.Common.{sym, ap, subst, ◌∙◌, inl, inr, arith, leb-true, le-leb}
use mathlib.Core.List.Memᴰ
use mathlib.Core.List.{Memᴰ}
use Rattle.std.proofs.Math.Bool.{and-eq-true_iff}
use Rattle.std.proofs.lemmas.Bool.{false≢true}
use Rattle.std.proofs.Math.Option.{Option, some, none}
use Rattle.bits.specs.Truth.{or_is}
use Rattle.encoding.specs.Points.{HasHalf, here, there, Ranged}
use Rattle.encoding.specs.Points as P
use Rattle.json_text.specs.Grammar.{Kind, array, object, Key, Value, literal, number, string, container, Items, empty, items, More, end, more, Tree}
use Rattle.json_text.specs.PointsLaws.{chars_spell}
use Rattle.select.specs.Nodes.{Label, member, Node, key_size, size, same, root}
use Rattle.select.specs.Nodes as N
use Rattle.select.specs.Order.{child_within}
use Rattle.paths.specs.Answer.{has_half, or_half, first_half}
use Rattle.paths.specs.Halves.{HalfOn, FirstHalf}
use Rattle.paths.specs.Trails.{Link, named, placed, link_label, Trail, link_of, Item, more_items, container_items, value_items, items_of}
use Rattle.paths.specs.TrailsAre.{IsItem, item_child, Leads, start, down, labels_snoc, leads_on, leads_below, trail_unique, trail_to}
use Rattle.paths.specs.Whole.{Whole, WholeLabel, name, position, WholeLabels}
use Rattle.paths.specs.Whole as W

-- the test for halves

is_half_lem : (n : ℕ) → ((leb 0xD800 n && leb n 0xDFFF) ≡ true) ↔ ((0xD800 ≤ n) × (n ≤ 0xDFFF))
is_half_lem n =
    let both = and-eq-true_iff (leb 0xD800 n) (leb n 0xDFFF) in
    (λ e. (leb-true 0xD800 n (both.0 e).0, leb-true n 0xDFFF (both.0 e).1), λ h. both.1 (le-leb 0xD800 n h.0, le-leb n 0xDFFF h.1))

pub has_half_is : (k : List ℕ) → (has_half k ≡ true) ↔ HasHalf k
unfolding has_half
has_half_is k = (there_is k, is_there)
  where
    there_is : (k : List ℕ) → has_half k ≡ true → HasHalf k
    there_is [] e = absurd (false≢true e)
    there_is (n ∷ k) e = go ((or_is (leb 0xD800 n && leb n 0xDFFF) (has_half k)).0 e) (there_is k)
      where
        go : ((leb 0xD800 n && leb n 0xDFFF) ≡ true) ⊎ (has_half k ≡ true) → (has_half k ≡ true → HasHalf k) → HasHalf (n ∷ k)
        go (inl h) rest = here ((is_half_lem n).0 h).0 ((is_half_lem n).0 h).1
        go (inr h) rest = there (rest h)

    is_there : {k : List ℕ} → HasHalf k → has_half k ≡ true
    is_there (here {n} {ns} l u) = (or_is (leb 0xD800 n && leb n 0xDFFF) (has_half ns)).1 (inl ((is_half_lem n).1 (l, u)))
    is_there (there {n} {ns} x) = (or_is (leb 0xD800 n && leb n 0xDFFF) (has_half ns)).1 (inr (is_there x))

-- where names stand

-- what is so of an item behind place a whose value begins at b: a name stands between, and its numbers are code points or halves
abbrev Stands : (a : ℕ) → Link → (b : ℕ) → Type 0
Stands a (named k q) b = Ranged k × (a ≤ q) × (q ≤ b)
Stands a (placed j) b = Unit

abbrev ItemStands : ℕ → Item → Type 0
ItemStands a i = Stands a i.link i.node.first

stands_before : (a a' b : ℕ) (l : Link) → a ≤ a' → Stands a' l b → Stands a l b
stands_before a a' b (named k q) h s = (s.0, omega (arith, s.1), s.2)
stands_before a a' b (placed j) h s = tt

link_stands : (k : Kind) (key : Key k) (j a q b : ℕ) → a ≤ q → q ≤ b → Stands a (link_of k key j q) b
unfolding link_of
link_stands array key j a q b l h = tt
link_stands object key j a q b l h = ((chars_spell key.chars).decoded.ranged, l, h)

-- an item and the ones after it, which stand behind place e
stands_first : (a e : ℕ) {x i : Item} {is : List Item} → ItemStands a x → a ≤ e → (Memᴰ i is → ItemStands e i) → Memᴰ i (x ∷ is)
    → ItemStands a i
stands_first a e s h f (Memᴰ.head p) = subst (λ (i : Item). ItemStands a i) (sym p) s
stands_first a e {i = i} s h f (Memᴰ.tail m) = stands_before a e i.node.first i.link h (f m)

more_stand : {k : Kind} (m : More k) (j a : ℕ) (i : Item) → Memᴰ i (more_items m j a) → ItemStands a i
unfolding more_items
more_stand (end w) j a i h = absurd (Memᴰ.not-nil h)
more_stand {k} (more w w' key v m) j a i h =
    let q = a + length w + 1 + length w' in
    let b = q + key_size k key in
    stands_first a (b + size v) (link_stands k key j a q b (omega arith) (omega arith)) (omega arith) (more_stand m (j + 1) (b + size v) i) h

container_stand : {k : Kind} (is : Items k) (a : ℕ) (i : Item) → Memᴰ i (container_items is a) → ItemStands a i
unfolding container_items
container_stand (empty w) a i h = absurd (Memᴰ.not-nil h)
container_stand {k} (items w key v m) a i h =
    let q = a + length w in
    let b = q + key_size k key in
    stands_first a (b + size v) (link_stands k key 0 a q b (omega arith) (omega arith)) (omega arith) (more_stand m 1 (b + size v) i) h

value_stand : (v : Value) (a : ℕ) (i : Item) → Memᴰ i (value_items v a) → ItemStands a i
unfolding value_items
value_stand (literal l) a i h = absurd (Memᴰ.not-nil h)
value_stand (number g n f e) a i h = absurd (Memᴰ.not-nil h)
value_stand (string cs) a i h = absurd (Memᴰ.not-nil h)
value_stand (container k is) a i h = stands_before a (a + 1) i.node.first i.link (omega arith) (container_stand is (a + 1) i h)

item_stands : (m : Node) {n : Node} {l : Link} → IsItem m l n → Stands m.first l n.first
unfolding items_of
item_stands m h = value_stand m.value m.first _ h

-- a name on the trail has half of a pair, and its opening quote stands at q
pub data HalfIn : Trail → ℕ → Type 0 where
  last : {k : List ℕ} {q : ℕ} {u : Trail} → HasHalf k → HalfIn (named k q ∷ u) q
  earlier : {l : Link} {q : ℕ} {u : Trail} → HalfIn u q → HalfIn (l ∷ u) q

-- such names stand before the node that the trail leads to
half_before : {r n : Node} {u : Trail} {q : ℕ} → Leads r u n → HalfIn u q → q ≤ n.first
half_before start x = elim x [ ]
half_before (down {m} p h) (last x) = (item_stands m h).2
half_before (down {m} {n} {l = l} p h) (earlier x) = omega (arith, half_before p x, (child_within m (link_label l) n (item_child m h)).0)

-- the place of the first such name on a trail, if there is one
data FirstIn (u : Trail) : Option ℕ → Type 0 where
  one : {q : ℕ} → HalfIn u q → ((p : ℕ) → HalfIn u p → q ≤ p) → FirstIn u (some q)
  no_one : ((q : ℕ) → HalfIn u q → ⊥) → FirstIn u none

none_in : {u : Trail} {x : Option ℕ} → FirstIn u x → (x ≡ none) ↔ ((q : ℕ) → HalfIn u q → ⊥)
none_in (one {q} x f) = (λ e. let z : ◌≡◌ {A = ℕ} 0 1 = cc in absurd (omega arith), λ g. absurd (g q x))
none_in (no_one f) = (λ e. f, λ g. refl)

-- one link more, which stands behind all names of the trail so far
first_more : (a b : ℕ) (l : Link) {u : Trail} {x : Option ℕ} → Stands a l b → ((q : ℕ) → HalfIn u q → q ≤ a) → FirstIn u x
    → FirstIn (l ∷ u) (or_half x l)
unfolding or_half
first_more a b l {u} s before (one {q} x f) = one (earlier x) (λ p y. by p y s)
  where
    by : (p : ℕ) {l : Link} → HalfIn (l ∷ u) p → Stands a l b → q ≤ p
    by p (last y) s = omega (arith, before q x, s.1)
    by p (earlier y) s = f p y
first_more a b (placed j) {u} s before (no_one f) = no_one by
  where
    by : (p : ℕ) → HalfIn (placed j ∷ u) p → ⊥
    by p (earlier y) = f p y
first_more a b (named k q) {u} s before (no_one f) = go (has_half k) refl
  where
    only : (p : ℕ) → HalfIn (named k q ∷ u) p → q ≤ p
    only p (last y) = omega arith
    only p (earlier y) = absurd (f p y)

    without : has_half k ≡ false → (p : ℕ) → HalfIn (named k q ∷ u) p → ⊥
    without e p (last y) = false≢true (sym e ∙ (has_half_is k).1 y)
    without e p (earlier y) = f p y

    go : (b : Bool) → has_half k ≡ b → FirstIn (named k q ∷ u) (elim b as (λ _. Option ℕ) [ true ↦ some q | false ↦ none ])
    go true e = one (last ((has_half_is k).0 e)) only
    go false e = no_one (without e)

first_in : {r n : Node} {u : Trail} → Leads r u n → FirstIn u (first_half u)
unfolding first_half
first_in start = no_one (λ q h. elim h [ ])
first_in (down {m} {n} {l = l} p h) = first_more m.first n.first l (item_stands m h) (λ q x. half_before p x) (first_in p)

-- names without halves are whole, and labels with whole names have no halves

points_whole : {k : List ℕ} → Ranged k → (HasHalf k → ⊥) → Whole k
points_whole P.none f = W.none
points_whole (P.more h r) f = W.more (record { ranged = h; no_half = λ l u. f (here l u) }) (points_whole r (λ x. f (there x)))

whole_points : {k : List ℕ} → Whole k → HasHalf k → ⊥
whole_points W.none x = elim x [ ]
whole_points (W.more s w) (here l u) = s.no_half l u
whole_points (W.more s w) (there x) = whole_points w x

whole_snoc : (ls : List Label) (l : Label) → WholeLabels (ls ++ (l ∷ [])) ↔ (WholeLabels ls × WholeLabel l)
whole_snoc ls l = (apart ls, λ p. join p.0 p.1)
  where
    apart : (ls : List Label) → WholeLabels (ls ++ (l ∷ [])) → WholeLabels ls × WholeLabel l
    apart [] (W.more w ws) = (W.none, w)
    apart (m ∷ ls) (W.more w ws) = let (vs, v) = apart ls ws in (W.more w vs, v)

    join : {ls : List Label} → WholeLabels ls → WholeLabel l → WholeLabels (ls ++ (l ∷ []))
    join W.none v = W.more v W.none
    join (W.more w ws) v = W.more w (join ws v)

labels_whole : {r n : Node} {u : Trail} → Leads r u n → ((q : ℕ) → HalfIn u q → ⊥) → WholeLabels (map link_label (reverse u))
unfolding link_label
labels_whole start f = W.none
labels_whole (down {m} {n} {u} {l} p h) f =
    rw labels_snoc ((whole_snoc (map link_label (reverse u)) (link_label l)).1 (labels_whole p (λ q x. f q (earlier x)), by l (item_stands m h) f))
  where
    by : (l : Link) → Stands m.first l n.first → ((q : ℕ) → HalfIn (l ∷ u) q → ⊥) → WholeLabel (link_label l)
    by (named k q) s f = name (points_whole s.0 (λ x. f q (last x)))
    by (placed j) s f = position j

whole_labels : {u : Trail} {q : ℕ} → HalfIn u q → WholeLabels (map link_label (reverse u)) → ⊥
unfolding link_label
whole_labels (last {k} {q} {u} x) w = by ((whole_snoc (map link_label (reverse u)) (member k)).0 (rw labels_snoc at w)).1
  where
    by : WholeLabel (member k) → ⊥
    by (name v) = whole_points v x
whole_labels (earlier {l} {u = u} x) w = whole_labels x ((whole_snoc (map link_label (reverse u)) (link_label l)).0 (rw labels_snoc at w)).0

-- halves on the way to a node, and on its trail

half_further : (v : Trail) {u : Trail} {q : ℕ} → HalfIn u q → HalfIn (v ++ u) q
half_further [] h = h
half_further (l ∷ v) h = earlier (half_further v h)

module _ (t : Tree) where
  in_half : {u : Trail} {n : Node} {q : ℕ} → Leads (root t) u n → HalfIn u q → HalfOn t n q
  in_half start x = elim x [ ]
  in_half (down {m} {n} p h) (last {k} x) =
      record { parent = m; above = leads_below p; child = n; name = k; member = h; half = x; below = same }
  in_half (down {m} {l = l} p h) (earlier x) =
      let y = in_half p x in
      record {
        parent = y.parent;
        above = y.above;
        child = y.child;
        name = y.name;
        member = y.member;
        half = y.half;
        below = N.down (link_label l) y.below (item_child m h);
      }

  module _ {u : Trail} {n : Node} (p : Leads (root t) u n) where
    -- they are the same
    pub half_is : {q : ℕ} → HalfOn t n q ↔ HalfIn u q
    half_is {q} = (on, in_half p)
      where
        on : HalfOn t n q → HalfIn u q
        on h =
            let (v, a) = trail_to t h.above in
            let (w, b, e) = leads_on (down a h.member) h.below in
            subst (λ (x : Trail). HalfIn x q) (trail_unique t b p refl) (half_further w (last h.half))

    -- the computed place is that of the first
    pub first_half_is : (q : ℕ) → (first_half u ≡ some q) ↔ FirstHalf t n q
    first_half_is q = (first (first_in p), place (first_in p))
      where
        first : {x : Option ℕ} → FirstIn u x → x ≡ some q → FirstHalf t n q
        first (one {q = q'} x f) e =
            let same : q' ≡ q = cc in
            subst (λ (z : ℕ). FirstHalf t n z) same (record { half = half_is.1 x; first = λ r y. f r (half_is.0 y) })
        first (no_one f) e = let z : ◌≡◌ {A = ℕ} 0 1 = cc in absurd (omega arith)

        place : {x : Option ℕ} → FirstIn u x → FirstHalf t n q → x ≡ some q
        place (one {q = q'} x f) h = ap some (omega (arith, f q (half_is.0 h.half), h.first q' (half_is.1 x)))
        place (no_one f) h = absurd (f q (half_is.0 h.half))

    -- there is no place exactly if no name has half of a pair, and exactly if the labels from the root down are whole

    pub no_half_is : (first_half u ≡ none) ↔ ((q : ℕ) → HalfOn t n q → ⊥)
    no_half_is = (λ e q h. (none_in (first_in p)).0 e q (half_is.0 h), λ f. (none_in (first_in p)).1 (λ q x. f q (half_is.1 x)))

    pub whole_is : (first_half u ≡ none) ↔ WholeLabels (map link_label (reverse u))
    whole_is = (λ e. labels_whole p ((none_in (first_in p)).0 e), λ w. (none_in (first_in p)).1 (λ q x. whole_labels x w))
