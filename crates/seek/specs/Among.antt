-- What is told of the first node that begins at an offset, among the nodes of a walk: its end, or its trail. Assumes nothing.
use Rattle.std.specs.Prelude.{◌≡◌, Bool, ℕ, eqb}
use Rattle.std.proofs.Math.Path.{refl}
use Rattle.std.proofs.Common.{ap, eq-eqb, ne_eqb}
use mathlib.Core.List.{List, [], ◌∷◌, ◌++◌}
use Rattle.std.proofs.Math.Bool.{true, false}
use Rattle.std.proofs.Math.Option.{Option, some, none}
use Rattle.select.specs.Visits.{Visit}

module _ {S B : Type 0} (f : Visit S → B) (o : ℕ) where
  -- one node before others, by whether it begins there
  abbrev pub head_or : Visit S → Bool → Option B → Option B
  head_or v b x = elim b [ true ↦ some (f v) | false ↦ x ]

  abbrev pub among : List (Visit S) → Option B
  among [] = none
  among (v ∷ vs) = head_or v (eqb v.node.first o) (among vs)

  pub head_found : (v : Visit S) (vs : List (Visit S)) → v.node.first ≡ o → among (v ∷ vs) ≡ some (f v)
  head_found v vs h = ap (λ (b : Bool). head_or v b (among vs)) (eq-eqb v.node.first o h)

  pub head_other : (v : Visit S) (vs : List (Visit S)) → (v.node.first ≡ o → ⊥) → among (v ∷ vs) ≡ among vs
  head_other v vs h = ap (λ (b : Bool). head_or v b (among vs)) (ne_eqb v.node.first o h)

  -- of two runs of nodes: it is among the first, or it is that among the second
  pub among_first : (xs ys : List (Visit S)) (x : B) → among xs ≡ some x → among (xs ++ ys) ≡ some x
  among_first [] ys x h = absurd (cc)
  among_first (v ∷ xs) ys x h = go (eqb v.node.first o) h (among_first xs ys x)
    where
      go : (b : Bool) → head_or v b (among xs) ≡ some x → (among xs ≡ some x → among (xs ++ ys) ≡ some x) → head_or v b (among (xs ++ ys)) ≡ some x
      go true h again = h
      go false h again = again h

  pub among_second : (xs ys : List (Visit S)) → among xs ≡ none → among (xs ++ ys) ≡ among ys
  among_second [] ys h = refl
  among_second (v ∷ xs) ys h = go (eqb v.node.first o) h (among_second xs ys)
    where
      go : (b : Bool) → head_or v b (among xs) ≡ none → (among xs ≡ none → among (xs ++ ys) ≡ among ys) → head_or v b (among (xs ++ ys)) ≡ among ys
      go true h again = absurd (cc)
      go false h again = again h
