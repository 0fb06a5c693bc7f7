-- The trail of the node that begins at an offset, among the nodes of a value. A value's nodes with their trails are its nodes with their
-- ways, so that where no end was found there is no trail. Assumes nothing.
use Rattle.std.specs.Prelude.{◌≡◌, ℕ, Bool, true, false, ◌+◌, eqb, length}
use Rattle.std.proofs.Math.Path.{refl, sym}
use Rattle.std.proofs.Common.{ap, ap₂, ◌∙◌}
use mathlib.Core.List.{List, [], ◌∷◌, ◌++◌, map-append}
use Rattle.std.proofs.Math.Option.{Option, some, none}
use Rattle.json_text.specs.Grammar as G
use Rattle.json_text.specs.Grammar.{Kind, Value, Items, More}
use Rattle.select.specs.Nodes.{size, key_size, end_of, label_of}
use Rattle.select.specs.Order.{firsts}
use Rattle.select.specs.Visits.{Visit, visit, Way, step, visits, items_visits, more_visits}
use Rattle.answers.specs.Finder.{end_among}
use Rattle.paths.specs.Answer.{trail_among}
use Rattle.paths.specs.Trails.{Trail, link_of, trails, items_trails, more_trails}
use Rattle.seek.specs.Among.{head_or, among, head_found, head_other, among_first, among_second}

module _ (o : ℕ) where
  abbrev own_trail : Visit Trail → Trail
  own_trail v = v.state

  trails_among : (vs : List (Visit Trail)) → trail_among vs o ≡ among own_trail o vs
  unfolding trail_among
  trails_among [] = refl
  trails_among (v ∷ vs) = ap (head_or own_trail o v (eqb v.node.first o)) (trails_among vs)

  trail_here : (v : Visit Trail) (vs : List (Visit Trail)) → v.node.first ≡ o → trail_among (v ∷ vs) o ≡ some v.state
  trail_here v vs h = trails_among (v ∷ vs) ∙ head_found own_trail o v vs h

  trail_later : (v : Visit Trail) (vs : List (Visit Trail)) → (v.node.first ≡ o → ⊥) → trail_among (v ∷ vs) o ≡ trail_among vs o
  trail_later v vs h = trails_among (v ∷ vs) ∙ head_other own_trail o v vs h ∙ sym (trails_among vs)

  -- of two runs of nodes: the trail is found among the first, or it is that among the second
  pub trail_first : (xs ys : List (Visit Trail)) (u : Trail) → trail_among xs o ≡ some u → trail_among (xs ++ ys) o ≡ some u
  trail_first xs ys u h = trails_among (xs ++ ys) ∙ among_first own_trail o xs ys u (sym (trails_among xs) ∙ h)

  pub trail_second : (xs ys : List (Visit Trail)) → trail_among xs o ≡ none → trail_among (xs ++ ys) o ≡ trail_among ys o
  trail_second xs ys h = trails_among (xs ++ ys) ∙ among_second own_trail o xs ys (sym (trails_among xs) ∙ h) ∙ sym (trails_among ys)

  -- a value that begins at the offset has its own trail, and of a container that does not it is that among the items
  pub trail_there : (v : Value) (u : Trail) (a : ℕ) → a ≡ o → trail_among (trails v u a) o ≡ some u
  unfolding trails
  trail_there (G.literal l) u a h = trail_here (visit u (G.literal l) a) [] h
  trail_there (G.number g n f e) u a h = trail_here (visit u (G.number g n f e) a) [] h
  trail_there (G.string cs) u a h = trail_here (visit u (G.string cs) a) [] h
  trail_there (G.container k is) u a h = trail_here (visit u (G.container k is) a) (items_trails is u (a + 1)) h

  pub trail_inside : (k : Kind) (is : Items k) (u : Trail) (a : ℕ) → (a ≡ o → ⊥)
      → trail_among (trails (G.container k is) u a) o ≡ trail_among (items_trails is u (a + 1)) o
  unfolding trails
  trail_inside k is u a h = trail_later (visit u (G.container k is) a) (items_trails is u (a + 1)) h

  abbrev end_or : Visit Way → Bool → Option ℕ → Option ℕ
  end_or v b x = elim b [ true ↦ some (end_of v.node) | false ↦ x ]

  abbrev trail_or : Visit Trail → Bool → Option Trail → Option Trail
  trail_or = head_or own_trail o

  -- where no node begins at the offset, none of those that begin at the same places does
  none_among : (ts : List (Visit Trail)) (vs : List (Visit Way)) → firsts ts ≡ firsts vs → end_among vs o ≡ none → trail_among ts o ≡ none
  unfolding trail_among end_among
  none_among [] vs p h = refl
  none_among (t ∷ ts) [] p h = absurd (cc)
  none_among (t ∷ ts) (v ∷ vs) p h =
      let q : t.node.first ≡ v.node.first = cc in
      rw q (go (eqb v.node.first o) h (none_among ts vs (cc)))
    where
      go : (b : Bool) → end_or v b (end_among vs o) ≡ none → (end_among vs o ≡ none → trail_among ts o ≡ none) → trail_or t b (trail_among ts o) ≡ none
      go true h again = absurd (cc)
      go false h again = again h

-- with their trails and with their ways the nodes begin at the same places
mutual
  unfolding trails visits

  value_firsts : (v : Value) (u : Trail) (way : Way) (a : ℕ) → firsts (trails v u a) ≡ firsts (visits step v way a)
  value_firsts (G.literal l) u way a = refl
  value_firsts (G.number g n f e) u way a = refl
  value_firsts (G.string cs) u way a = refl
  value_firsts (G.container k is) u way a = ap (λ (xs : List ℕ). a ∷ xs) (items_firsts is u way (a + 1))

  items_firsts : {k : Kind} (is : Items k) (u : Trail) (way : Way) (a : ℕ) → firsts (items_trails is u a) ≡ firsts (items_visits step is way a)
  items_firsts (G.empty w) u way a = refl
  items_firsts {k} (G.items w key v m) u way a =
      let q = a + length w in
      let b = q + key_size k key in
      simp map-append
      (ap₂ (λ (xs ys : List ℕ). xs ++ ys) (value_firsts v (link_of k key 0 q ∷ u) (step way (label_of k key 0)) b)
      (more_firsts m u way 1 (b + size v)))

  more_firsts : {k : Kind} (m : More k) (u : Trail) (way : Way) (j a : ℕ) → firsts (more_trails m u j a) ≡ firsts (more_visits step m way j a)
  more_firsts (G.end w) u way j a = refl
  more_firsts {k} (G.more w w' key v m) u way j a =
      let q = a + length w + 1 + length w' in
      let b = q + key_size k key in
      simp map-append
      (ap₂ (λ (xs ys : List ℕ). xs ++ ys) (value_firsts v (link_of k key j q ∷ u) (step way (label_of k key j)) b)
      (more_firsts m u way (j + 1) (b + size v)))

pub trail_none : (o : ℕ) (v : Value) (u : Trail) (way : Way) (a : ℕ) → end_among (visits step v way a) o ≡ none → trail_among (trails v u a) o ≡ none
trail_none o v u way a h = none_among o (trails v u a) (visits step v way a) (value_firsts v u way a) h
