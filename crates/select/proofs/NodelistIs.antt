-- RFC 9535's nodelist has just the nodes that a query picks out.
-- A segment gives what its step takes, and steps taken from the first one on are steps taken from the last one back. Assumes nothing.
use Rattle.std.specs.Prelude.{◌≡◌, ◌↔◌, ◌⊎◌, Bool}
use Rattle.std.proofs.Math.Path.{refl}
use Rattle.std.proofs.Common.{sym, ap, subst, ◌∙◌, inl, inr}
use mathlib.Core.List.Memᴰ
use mathlib.Core.List.{List, [], ◌∷◌, reverse_aux, flat_map, Memᴰ}
use Rattle.std.proofs.Math.Bool.{true, false}
use Rattle.std.proofs.lemmas.Bool.{false≢true}
use Rattle.json_text.specs.Grammar.{Tree}
use Rattle.query.specs.Steps.{Selector, Step}
use Rattle.select.specs.Nodes.{Label, Node, Child, children, IsChild, Below, root}
use Rattle.select.specs.Picked.{TakesChild, TakesAs, Takes, PickedBack, Picked}
use Rattle.select.specs.Visits.{Visit, Way, step, node_visits}
use Rattle.select.specs.Ways.{hits}
use Rattle.select.specs.Nodelist.{node_if, selected, descendants, segment, applied, nodelist}
use Rattle.select.specs.Reach.{visited_is, below_is, mem_flat_map, of_flat_map}
use Rattle.select.specs.HitsAre.{hits_is}

-- what is in the results for all nodes is in that for one of them
flat_map_is : (f : Node → List Node) (ns : List Node) (n : Node) → Memᴰ n (flat_map f ns) ↔ ((m : Node) × Memᴰ m ns × Memᴰ n (f m))
flat_map_is f ns n = (of_flat_map f ns, λ x. mem_flat_map f x.1 x.2)

-- a selector gives the children that it hits
module _ (sel : Selector) (n : Node) where
  abbrev Selected : List Child → Type 0
  Selected cs = (l : Label) × Memᴰ (record { label = l; node = n }) cs × (hits sel l ≡ true)

  selected_from : (cs : List Child) → Memᴰ n (selected sel cs) → Selected cs
  unfolding selected node_if
  selected_from [] m = absurd (Memᴰ.not-nil m)
  selected_from (c ∷ cs) m = go (hits sel c.label) refl m (λ h. selected_from cs h)
    where
      later : Selected cs → Selected (c ∷ cs)
      later (l, h, e) = (l, Memᴰ.tail h, e)

      first : hits sel c.label ≡ true → (n ≡ c.node) ⊎ Memᴰ n (selected sel cs) → (Memᴰ n (selected sel cs) → Selected cs)
          → Selected (c ∷ cs)
      first e (inl p) rest = (c.label, Memᴰ.head (ap (λ (x : Node). record { label = c.label; node = x }) p), e)
      first e (inr h) rest = later (rest h)

      go : (b : Bool) → hits sel c.label ≡ b → Memᴰ n (node_if b c.node (selected sel cs))
          → (Memᴰ n (selected sel cs) → Selected cs) → Selected (c ∷ cs)
      go true e m rest = first e (Memᴰ.cases_cons m) rest
      go false e m rest = later (rest m)

  from_selected : (cs : List Child) → Selected cs → Memᴰ n (selected sel cs)
  unfolding selected node_if
  from_selected [] (l, m, e) = absurd (Memᴰ.not-nil m)
  from_selected (c ∷ cs) (l, m, e) = go (Memᴰ.cases_cons m) (λ h. from_selected cs (l, h, e))
    where
      here : (b : Bool) → b ≡ true → n ≡ c.node → Memᴰ n (node_if b c.node (selected sel cs))
      here true h p = Memᴰ.head p
      here false h p = absurd (false≢true h)

      later : (b : Bool) → Memᴰ n (selected sel cs) → Memᴰ n (node_if b c.node (selected sel cs))
      later true h = Memᴰ.tail h
      later false h = h

      go : (record { label = l; node = n } ≡ c) ⊎ Memᴰ (record { label = l; node = n }) cs
          → (Memᴰ (record { label = l; node = n }) cs → Memᴰ n (selected sel cs))
          → Memᴰ n (node_if (hits sel c.label) c.node (selected sel cs))
      go (inl p) rest = here (hits sel c.label) (ap (λ (x : Child). hits sel x.label) (sym p) ∙ e) (ap (λ (x : Child). x.node) p)
      go (inr h) rest = later (hits sel c.label) (rest h)

  child_is : (p : Node) → Memᴰ n (selected sel (children p)) ↔ TakesChild sel p n
  unfolding IsChild
  child_is p = (
    λ m. let (l, h, e) = selected_from (children p) m in record { label = l; child = h; hits = (hits_is sel l).1 e },
    λ x. from_selected (children p) (x.label, x.child, (hits_is sel x.label).0 x.hits),
  )

-- the descendants of a node are the nodes below it, itself among them
descendants_are : (p n : Node) → Memᴰ n (descendants p) ↔ Below p n
unfolding descendants
descendants_are p n = (
  λ m.
      let (v, h, e) = Memᴰ.of_map (λ (v : Visit Way). v.node) vs m in
      subst (Below p) e ((below_is p v.node).1 (v.state, (visited_is p v.state v.node).0 h)),
  λ b.
      let (w, x) = (below_is p n).0 b in
      Memᴰ.map (λ (v : Visit Way). v.node) ((visited_is p w n).1 x),
)
  where
    vs : List (Visit Way)
    vs = node_visits step p []

-- a segment gives what its step takes
segment_is : (d : Bool) (sel : Selector) (p n : Node) → Memᴰ n (segment d sel p) ↔ TakesAs d sel p n
unfolding segment
segment_is false sel p n = child_is sel n p
segment_is true sel p n = (
  λ m.
      let (k, b, h) = below.0 m in
      record { from = k; below = (descendants_are p k).0 b; takes = (child_is sel n k).0 h },
  λ x. below.1 (x.from, (descendants_are p x.from).1 x.below, (child_is sel n x.from).1 x.takes),
)
  where
    below : Memᴰ n (segment true sel p) ↔ ((m : Node) × Memᴰ m (descendants p) × Memᴰ n (selected sel (children m)))
    below = flat_map_is (λ m. selected sel (children m)) (descendants p) n

-- the steps, the first one first, lead from m to n
abbrev Led : List Step → Node → Node → Type 0
Led [] m n = n ≡ m
Led (s ∷ q) m n = (k : Node) × Takes s m k × Led q k n

-- the segments give what the steps lead to from some node that they were applied to
applied_is : (q : List Step) (ns : List Node) (n : Node) → Memᴰ n (applied q ns) ↔ ((m : Node) × Memᴰ m ns × Led q m n)
unfolding applied
applied_is [] ns n = (λ h. (n, h, refl), λ x. Memᴰ.cast x.2 x.1)
applied_is (s ∷ q) ns n = go (applied_is q (flat_map (segment s.deep s.selector) ns) n)
  where
    next : (k : Node)
        → Memᴰ k (flat_map (segment s.deep s.selector) ns)
        ↔ ((m : Node) × Memᴰ m ns × Memᴰ k (segment s.deep s.selector m))
    next = flat_map_is (segment s.deep s.selector) ns

    go : Memᴰ n (applied (s ∷ q) ns) ↔ ((k : Node) × Memᴰ k (flat_map (segment s.deep s.selector) ns) × Led q k n) →
        Memᴰ n (applied (s ∷ q) ns) ↔ ((m : Node) × Memᴰ m ns × Led (s ∷ q) m n)
    go rest = (
      λ h.
          let (k, x, r) = rest.0 h in
          let (m, y, z) = (next k).0 x in
          (m, y, (k, (segment_is s.deep s.selector m k).0 z, r)),
      λ h.
          let (m, y, (k, z, r)) = h in
          rest.1 (k, (next k).1 (m, y, (segment_is s.deep s.selector m k).1 z), r),
    )

-- steps picked one after the other, from the last one back or from the first one on
back_is : (r : Node) (q b : List Step) (n : Node) → PickedBack r (reverse_aux q b) n ↔ ((m : Node) × PickedBack r b m × Led q m n)
back_is r [] b n = (λ h. (n, h, refl), λ x. subst (PickedBack r b) (sym x.2) x.1)
back_is r (s ∷ q) b n = go (back_is r q (s ∷ b) n)
  where
    go : PickedBack r (reverse_aux q (s ∷ b)) n ↔ ((m : Node) × PickedBack r (s ∷ b) m × Led q m n) →
        PickedBack r (reverse_aux (s ∷ q) b) n ↔ ((m : Node) × PickedBack r b m × Led (s ∷ q) m n)
    go rest = (
      λ h. let (m, (k, x, y), z) = rest.0 h in (k, x, (m, y, z)),
      λ h. let (k, x, (m, y, z)) = h in rest.1 (m, (k, x, y), z),
    )

-- a node is in RFC 9535's nodelist exactly if the query picks it out
pub nodelist_is : (t : Tree) (q : List Step) (n : Node) → Memᴰ n (nodelist t q) ↔ Picked t q n
unfolding nodelist Picked
nodelist_is t q n = (
  λ h.
      let (m, x, y) = (applied_is q (root t ∷ []) n).0 h in
      (back_is (root t) q [] n).1 (m, Memᴰ.eq_of_singleton x, y),
  λ h.
      let (m, x, y) = (back_is (root t) q [] n).0 h in
      (applied_is q (root t ∷ []) n).1 (m, Memᴰ.head x, y),
)
