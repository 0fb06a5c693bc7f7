-- The end of the node that begins at an offset, among the nodes of a value. A node has at least one byte, so an end is never 0, and nodes begin
-- at rising places, so that none of a value behind the offset begins there. Assumes nothing.
use Rattle.std.specs.Prelude.{◌≡◌, eqb}
use Rattle.std.proofs.Math.Path.{refl, sym}
use Rattle.std.proofs.Common.{ap, ◌∙◌, arith}
use mathlib.Core.List.{List, [], ◌∷◌, ◌++◌}
use Rattle.std.proofs.Math.Bool.{Bool, true, false}
use Rattle.std.proofs.Math.Option.{Option, some, none}
use Prim.Native.Nat.{ℕ, suc, ◌+◌, ◌<◌}
use Rattle.json_text.specs.Grammar as G
use Rattle.json_text.specs.Grammar.{Kind, Value, Items}
use Rattle.select.specs.Nodes.{size, end_of}
use Rattle.select.specs.Order.{Rises, firsts, visits_rise, first_before_end}
use Rattle.select.specs.Visits.{Visit, Way, step, visit, visits, items_visits, node_visits}
use Rattle.answers.specs.Finder.{end_among, or_zero}
use Rattle.scan.specs.Scans.{IsScalar}
use Rattle.seek.specs.Seeks.{end_or_zero}
use Rattle.seek.specs.Among.{head_or, among, head_found, head_other, among_first, among_second}

module _ (o : ℕ) where
  abbrev own_end : Visit Way → ℕ
  own_end v = end_of v.node

  ends_among : (vs : List (Visit Way)) → end_among vs o ≡ among own_end o vs
  unfolding end_among
  ends_among [] = refl
  ends_among (v ∷ vs) = ap (head_or own_end o v (eqb v.node.first o)) (ends_among vs)

  found_there : (v : Visit Way) (vs : List (Visit Way)) → v.node.first ≡ o → end_among (v ∷ vs) o ≡ some (end_of v.node)
  found_there v vs h = ends_among (v ∷ vs) ∙ head_found own_end o v vs h

  found_later : (v : Visit Way) (vs : List (Visit Way)) → (v.node.first ≡ o → ⊥) → end_among (v ∷ vs) o ≡ end_among vs o
  found_later v vs h = ends_among (v ∷ vs) ∙ head_other own_end o v vs h ∙ sym (ends_among vs)

  -- of two runs of nodes: the end is found among the first, or it is that among the second
  pub found_first : (xs ys : List (Visit Way)) (e : ℕ) → end_among xs o ≡ some e → end_among (xs ++ ys) o ≡ some e
  found_first xs ys e h = ends_among (xs ++ ys) ∙ among_first own_end o xs ys e (sym (ends_among xs) ∙ h)

  pub found_second : (xs ys : List (Visit Way)) → end_among xs o ≡ none → end_among (xs ++ ys) o ≡ end_among ys o
  found_second xs ys h = ends_among (xs ++ ys) ∙ among_second own_end o xs ys (sym (ends_among xs) ∙ h) ∙ sym (ends_among ys)

  -- no end is 0
  pub none_found : (vs : List (Visit Way)) → end_or_zero vs o ≡ 0 → end_among vs o ≡ none
  unfolding end_among or_zero
  none_found [] h = refl
  none_found (v ∷ vs) h = go (eqb v.node.first o) h (none_found vs)
    where
      head_end : Bool → Option ℕ
      head_end b = elim b [ true ↦ some (end_of v.node) | false ↦ end_among vs o ]

      go : (b : Bool) → or_zero (head_end b) ≡ 0 → (end_or_zero vs o ≡ 0 → end_among vs o ≡ none) → head_end b ≡ none
      go true h again = absurd (omega (arith, first_before_end v.node))
      go false h again = again h

  -- all nodes begin behind the offset
  none_behind : (a e : ℕ) (vs : List (Visit Way)) → Rises a (firsts vs) e → o < a → end_among vs o ≡ none
  unfolding end_among
  none_behind a e [] r h = refl
  none_behind a e (v ∷ vs) r h =
      found_later v vs (λ z. omega (arith, r.0)) ∙ none_behind (suc v.node.first) e vs r.1 (omega (arith, r.0))

  -- the nodes of the value v at place a
  module _ (v : Value) (way : Way) (a : ℕ) where
    pub value_behind : o < a → end_among (visits step v way a) o ≡ none
    unfolding node_visits end_of
    value_behind h = none_behind a (a + size v) (visits step v way a) (visits_rise step (record { value = v; first = a }) way) h

    pub value_there : a ≡ o → end_among (visits step v way a) o ≡ some (a + size v)
    unfolding visits end_of
    value_there h = go v
      where
        go : (v : Value) → end_among (visits step v way a) o ≡ some (a + size v)
        go (G.literal l) = found_there (visit way (G.literal l) a) [] h
        go (G.number g n f e) = found_there (visit way (G.number g n f e) a) [] h
        go (G.string cs) = found_there (visit way (G.string cs) a) [] h
        go (G.container k is) = found_there (visit way (G.container k is) a) (items_visits step is way (a + 1)) h

    pub scalar_other : IsScalar v → (a ≡ o → ⊥) → end_among (visits step v way a) o ≡ none
    unfolding visits end_among
    scalar_other s h = go v s
      where
        go : (v : Value) → IsScalar v → end_among (visits step v way a) o ≡ none
        go (G.literal l) s = found_later (visit way (G.literal l) a) [] h
        go (G.number g n f e) s = found_later (visit way (G.number g n f e) a) [] h
        go (G.string cs) s = found_later (visit way (G.string cs) a) [] h
        go (G.container k is) s = absurd s

  pub container_other : (k : Kind) (is : Items k) (way : Way) (a : ℕ) → (a ≡ o → ⊥)
      → end_among (visits step (G.container k is) way a) o ≡ end_among (items_visits step is way (a + 1)) o
  unfolding visits
  container_other k is way a h = found_later (visit way (G.container k is) a) (items_visits step is way (a + 1)) h
