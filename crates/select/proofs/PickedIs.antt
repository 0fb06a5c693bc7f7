-- The test on ways finds just what a query picks out.
-- By induction on the steps: a step takes from a node, or from one below it, whose way is a part of the way. Assumes nothing.
use Rattle.std.specs.Prelude.{◌≡◌, refl, ◌↔◌, ◌⊎◌, Bool, ◌&&◌}
use Rattle.std.proofs.Common.{sym, subst, ◌∙◌, inl, inr}
use mathlib.Core.List.{List, [], ◌∷◌, reverse}
use Rattle.std.proofs.Math.Bool.{true, false, and-eq-true_iff}
use Rattle.std.proofs.lemmas.Bool.{false≢true}
use Rattle.json_text.specs.Grammar.{Tree}
use Rattle.bits.specs.Truth.{or_is}
use Rattle.query.specs.Steps.{Selector, Step}
use Rattle.select.specs.Nodes.{Node, Below, root}
use Rattle.select.specs.Nodes as N
use Rattle.select.specs.Picked.{TakesAs, PickedBack, PickedFrom, Picked}
use Rattle.select.specs.Visits.{Way}
use Rattle.select.specs.Ways.{hits, reached, picks_back, picks}
use Rattle.select.specs.Reach.{Reach, start, down}
use Rattle.select.specs.HitsAre.{hits_is}

-- the test of one step more
unfoldable pub takes : (deep : Bool) → Selector → (Way → Bool) → Way → Bool
unfolding hits reached
takes d sel f [] = false
takes d sel f (l ∷ w) = hits sel l && reached d f w

module _ (r : Node) (f : Way → Bool) where
  -- n is reached by some way of which f holds
  abbrev pub Found : Node → Type 0
  Found n = (w : Way) × Reach r w n × (f w ≡ true)

  -- n is a node of which f holds, or below one
  abbrev FoundAbove : Node → Type 0
  FoundAbove n = (m : Node) × Found m × Below m n

  reached_below : {m n : Node} → Below m n → Found m → (w : Way) × Reach r w n × (reached true f w ≡ true)
  unfolding reached
  reached_below N.same (w, p, e) = (w, p, go w e)
    where
      go : (w : Way) → f w ≡ true → reached true f w ≡ true
      go [] e = e
      go (l ∷ w) e = (or_is (f (l ∷ w)) (reached true f w)).1 (inl e)
  reached_below (N.down l h c) x =
      let (w, p, e) = reached_below h x in
      (l ∷ w, down l p c, (or_is (f (l ∷ w)) (reached true f w)).1 (inr e))

  found_above : {w : Way} {n : Node} → Reach r w n → reached true f w ≡ true → FoundAbove n
  unfolding reached
  found_above start e = (r, ([], start, e), N.same)
  found_above (down {m} {n} {w} l p c) e = go ((or_is (f (l ∷ w)) (reached true f w)).0 e) (λ e'. found_above p e')
    where
      go : (f (l ∷ w) ≡ true) ⊎ (reached true f w ≡ true) → (reached true f w ≡ true → FoundAbove m) → FoundAbove n
      go (inl h) up = (n, (l ∷ w, down l p c, h), N.same)
      go (inr h) up = let (k, x, b) = up h in (k, x, N.down l b c)

-- one step more: f finds what the steps before it pick out
module _ (r : Node) (f : Way → Bool) (P : Node → Type 0) (is : (m : Node) → P m ↔ Found r f m) (sel : Selector) where
  abbrev Taken : Bool → Node → Type 0
  Taken d n = (m : Node) × P m × TakesAs d sel m n

  taken_found : (d : Bool) {n : Node} → Taken d n → Found r (takes d sel f) n
  unfolding takes reached
  taken_found false (m, p, t) =
      let (w, q, e) = (is m).0 p in
      (t.label ∷ w, down t.label q t.child, (and-eq-true_iff (hits sel t.label) (f w)).1 ((hits_is sel t.label).0 t.hits, e))
  taken_found true (m, p, t) =
      let (w, q, e) = reached_below r f t.below ((is m).0 p) in
      let l = t.takes.label in
      (l ∷ w, down l q t.takes.child, (and-eq-true_iff (hits sel l) (reached true f w)).1 ((hits_is sel l).0 t.takes.hits, e))

  found_taken : (d : Bool) {w : Way} {n : Node} → Reach r w n → takes d sel f w ≡ true → Taken d n
  unfolding takes reached
  found_taken d start e = absurd (false≢true e)
  found_taken false (down {m} {n} {w} l p c) e =
      let h = (and-eq-true_iff (hits sel l) (f w)).0 e in
      (m, (is m).1 (w, p, h.1), record { label = l; child = c; hits = (hits_is sel l).1 h.0 })
  found_taken true (down {m} {n} {w} l p c) e =
      let h = (and-eq-true_iff (hits sel l) (reached true f w)).0 e in
      let (k, x, b) = found_above r f p h.1 in
      (k, (is k).1 x, record { from = m; below = b; takes = record { label = l; child = c; hits = (hits_is sel l).1 h.0 } })

picks_takes : (s : Step) (q : List Step) (w : Way) → picks_back (s ∷ q) w ≡ takes s.deep s.selector (picks_back q) w
unfolding picks_back takes
picks_takes s q [] = refl
picks_takes s q (l ∷ w) = refl

picked_back : (r : Node) (q : List Step) (n : Node) → PickedBack r q n ↔ Found r (picks_back q) n
unfolding picks_back takes
picked_back r [] n = (λ e. ([], subst (Reach r []) (sym e) start, refl), λ x. at_root x.1 x.2)
  where
    at_root : {w : Way} {m : Node} → Reach r w m → picks_back [] w ≡ true → m ≡ r
    at_root start e = refl
    at_root (down l p c) e = absurd (false≢true e)
picked_back r (s ∷ q) n = go (λ m. picked_back r q m)
  where
    go : ((m : Node) → PickedBack r q m ↔ Found r (picks_back q) m) → PickedBack r (s ∷ q) n ↔ Found r (picks_back (s ∷ q)) n
    go is = (
      λ x.
          let (w, p, e) = taken_found r (picks_back q) (PickedBack r q) is s.selector s.deep x in
          (w, p, picks_takes s q w ∙ e),
      λ x.
          found_taken r (picks_back q) (PickedBack r q) is s.selector s.deep x.1 (sym (picks_takes s q x.0) ∙ x.2),
    )

-- a query picks a node out exactly if its test holds of some way to the node
pub picked_from : (r : Node) (q : List Step) (n : Node) → PickedFrom r q n ↔ ((w : Way) × Reach r w n × (picks q w ≡ true))
unfolding picks
picked_from r q n = picked_back r (reverse q) n

pub picked_is : (t : Tree) (q : List Step) (n : Node) → Picked t q n ↔ ((w : Way) × Reach (root t) w n × (picks q w ≡ true))
unfolding Picked
picked_is t q n = picked_from (root t) q n
