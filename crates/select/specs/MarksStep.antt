-- How marks pass from a node to its children: the laws that a walk goes by.
-- The first i + 1 steps pick out what step i + 1 takes from a node that the first i pick out, or from one below it, which is mark i. Assumes nothing.
use Rattle.std.specs.Prelude.{◌≡◌, ◌⊎◌, Bool, ◌&&◌, ◌||◌, ℕ, zero, suc, ◌≤◌, ◌<◌, eqb, length, take}
use Rattle.std.proofs.Math.Path.{refl, sym, ap, ap₂}
use Rattle.std.proofs.Common.{◌∙◌, inl, inr, arith, ltb-true, ltb-false, lt-ltb, le-ltb}
use mathlib.Core.List.{List, [], ◌∷◌, ◌++◌, reverse, reverse-append, reverse-reverse, cons≢nil}
use Rattle.std.proofs.Math.Bool.{true, false, or-false, and-true, and-false, and-eq-true_iff}
use Rattle.std.proofs.lemmas.Bool.{false≢true}
use Rattle.std.proofs.Math.Option.{Option, some, none}
use Rattle.std.proofs.Math.Dec.{ltb, eqb-suc-zero}
use Rattle.std.proofs.Math.ListN.{get_elem?}
use Rattle.std.proofs.Math.Seq.{take-length}
use Rattle.bits.specs.Truth.{or_is}
use Rattle.query.specs.Steps.{Step, is_deep}
use Rattle.select.specs.Nodes.{Label}
use Rattle.select.specs.Visits.{Way}
use Rattle.select.specs.Ways.{hits, reached, picks_back, picks, mark}

-- a step, if there is one, hits a label
unfoldable pub step_hits : Option Step → Label → Bool
unfolding hits
step_hits none l = false
step_hits (some s) l = hits s.selector l

-- a query has its step i + 1 exactly if i is less than their number
pub step_some : {s : Step} (q : List Step) (i : ℕ) → get_elem? q i ≡ some s → i < length q
step_some [] i e = let z : ◌≡◌ {A = ℕ} 0 1 = cc in absurd (omega arith)
step_some (x ∷ q) zero e = omega arith
step_some (x ∷ q) (suc i) e = omega (arith, step_some q i e)

pub step_none : (q : List Step) (i : ℕ) → get_elem? q i ≡ none → length q ≤ i
step_none [] i e = omega arith
step_none (x ∷ q) zero e = let z : ◌≡◌ {A = ℕ} 0 1 = cc in absurd (omega arith)
step_none (x ∷ q) (suc i) e = omega (arith, step_none q i e)

take_last : {s : Step} (q : List Step) (i : ℕ) → get_elem? q i ≡ some s → take (suc i) q ≡ take i q ++ (s ∷ [])
take_last [] i e = let z : ◌≡◌ {A = ℕ} 0 1 = cc in absurd (omega arith)
take_last {s} (x ∷ q) zero e = let same : x ≡ s = cc in ap (λ (y : Step). y ∷ []) same
take_last (x ∷ q) (suc i) e = ap (λ (z : List Step). x ∷ z) (take_last q i e)

-- the first i + 1 steps, the last of them first
back_last : (q : List Step) (i : ℕ) (s : Step) → get_elem? q i ≡ some s → reverse (take (suc i) q) ≡ s ∷ reverse (take i q)
back_last q i s e = ap reverse (take_last q i e) ∙ reverse-append (take i q) (s ∷ [])

reached_root : (d : Bool) (f : Way → Bool) → f [] ≡ reached d f []
unfolding reached
reached_root true f = refl
reached_root false f = refl

reached_down : (d : Bool) (f : Way → Bool) (l : Label) (w : Way) → (f (l ∷ w) || (d && reached d f w)) ≡ reached d f (l ∷ w)
unfolding reached
reached_down true f l w = refl
reached_down false f l w = or-false (f (l ∷ w))

module _ (q : List Step) (i : ℕ) (s : Step) (e : get_elem? q i ≡ some s) where
  picks_last : (l : Label) (w : Way) → picks (take (suc i) q) (l ∷ w) ≡ (hits s.selector l && reached s.deep (picks (take i q)) w)
  unfolding picks picks_back
  picks_last l w = ap (λ (z : List Step). picks_back z (l ∷ w)) (back_last q i s e)

  -- a node has a mark if the steps before it pick out the node or, where the next step is deep, some node above it
  pub mark_reached : (w : Way) → mark q i w ≡ reached s.deep (picks (take i q)) w
  unfolding mark
  mark_reached [] = ap (λ (b : Bool). b && picks (take i q) []) (lt-ltb i (length q) (step_some q i e)) ∙ reached_root s.deep (picks (take i q))
  mark_reached (l ∷ w) =
      ap (λ (b : Bool). b && (picks (take i q) (l ∷ w) || (is_deep (get_elem? q i) && mark q i w))) (lt-ltb i (length q) (step_some q i e))
      ∙ ap₂ (λ (o : Option Step) (b : Bool). picks (take i q) (l ∷ w) || (is_deep o && b)) e (mark_reached w)
      ∙ reached_down s.deep (picks (take i q)) l w

  picks_mark : (l : Label) (w : Way) → picks (take (suc i) q) (l ∷ w) ≡ (step_hits (get_elem? q i) l && mark q i w)
  unfolding step_hits
  picks_mark l w =
      picks_last l w
      ∙ ap₂ (λ (o : Option Step) (b : Bool). step_hits o l && b) (sym e) (sym (mark_reached w))

module _ (q : List Step) where
  -- there is no mark from the number of steps on
  pub mark_over : (i : ℕ) (w : Way) → length q ≤ i → mark q i w ≡ false
  unfolding mark
  mark_over i [] h = ap (λ (b : Bool). b && picks (take i q) []) (le-ltb i (length q) h)
  mark_over i (l ∷ w) h =
      ap (λ (b : Bool). b && (picks (take i q) (l ∷ w) || (is_deep (get_elem? q i) && mark q i w))) (le-ltb i (length q) h)

  -- the root has mark 0 where there are steps, and no other
  pub mark_root : mark q 0 [] ≡ ltb 0 (length q)
  unfolding mark picks
  mark_root = and-true (ltb 0 (length q))

  pub mark_root_suc : (i : ℕ) → mark q (suc i) [] ≡ false
  unfolding mark picks picks_back
  mark_root_suc i = go (get_elem? q i) refl
    where
      go : (o : Option Step) → get_elem? q i ≡ o → mark q (suc i) [] ≡ false
      go none e = mark_over (suc i) [] (omega (arith, step_none q i e))
      go (some s) e =
          ap (λ (z : List Step). ltb (suc i) (length q) && picks_back z []) (back_last q i s e)
          ∙ and-false (ltb (suc i) (length q))

  -- a child has mark 0 if its parent has and the first step is deep
  pub mark-zero : (l : Label) (w : Way) → mark q 0 (l ∷ w) ≡ (is_deep (get_elem? q 0) && mark q 0 w)
  unfolding mark picks picks_back
  mark-zero l w = go (get_elem? q 0) refl
    where
      go : (o : Option Step) → get_elem? q 0 ≡ o → mark q 0 (l ∷ w) ≡ (is_deep (get_elem? q 0) && mark q 0 w)
      go none e =
          ap (λ (b : Bool). b && (is_deep (get_elem? q 0) && mark q 0 w)) (le-ltb 0 (length q) (step_none q 0 e))
          ∙ sym (ap (λ (o : Option Step). is_deep o && mark q 0 w) e)
      go (some s) e = ap (λ (b : Bool). b && (is_deep (get_elem? q 0) && mark q 0 w)) (lt-ltb 0 (length q) (step_some q 0 e))

  -- it has mark i + 1 if its parent has mark i and step i + 1 hits it, or if its parent has mark i + 1 and step i + 2 is deep
  pub mark-suc : (i : ℕ) (l : Label) (w : Way)
      → mark q (suc i) (l ∷ w)
      ≡ (ltb (suc i) (length q) && ((step_hits (get_elem? q i) l && mark q i w) || (is_deep (get_elem? q (suc i)) && mark q (suc i) w)))
  unfolding mark
  mark-suc i l w = go (get_elem? q i) refl
    where
      go : (o : Option Step) → get_elem? q i ≡ o
          → mark q (suc i) (l ∷ w)
          ≡ (ltb (suc i) (length q) && ((step_hits (get_elem? q i) l && mark q i w) || (is_deep (get_elem? q (suc i)) && mark q (suc i) w)))
      go none e =
          mark_over (suc i) (l ∷ w) (omega (arith, step_none q i e))
          ∙ sym
          (ap
          (λ (b : Bool). b && ((step_hits (get_elem? q i) l && mark q i w) || (is_deep (get_elem? q (suc i)) && mark q (suc i) w)))
          (le-ltb (suc i) (length q) (omega (arith, step_none q i e))))
      go (some s) e =
          ap (λ (b : Bool). ltb (suc i) (length q) && (b || (is_deep (get_elem? q (suc i)) && mark q (suc i) w))) (picks_mark q i s e l w)

  -- a child is picked out if its parent has the last mark and the last step hits it
  pub picks_step : (k : ℕ) (l : Label) (w : Way) → length q ≡ suc k → picks q (l ∷ w) ≡ (step_hits (get_elem? q k) l && mark q k w)
  picks_step k l w h = go (get_elem? q k) refl
    where
      go : (o : Option Step) → get_elem? q k ≡ o → picks q (l ∷ w) ≡ (step_hits (get_elem? q k) l && mark q k w)
      go none e = absurd (omega (arith, step_none q k e))
      go (some s) e = ap (λ (z : List Step). picks z (l ∷ w)) (sym (ap (λ (n : ℕ). take n q) (sym h) ∙ take-length q)) ∙ picks_mark q k s e l w

  -- the root is picked out only if there are no steps
  pub picks_root : picks q [] ≡ true → q ≡ []
  unfolding picks picks_back
  picks_root e = sym (reverse-reverse q) ∙ ap reverse (go (reverse q) e)
    where
      go : (b : List Step) → picks_back b [] ≡ true → b ≡ []
      go [] e = refl
      go (s ∷ b) e = absurd (false≢true e)

-- so the root's pick is a test of the number of steps
pub picks_top : (q : List Step) → picks q [] ≡ eqb (length q) 0
unfolding picks picks_back
picks_top [] = refl
picks_top (s ∷ q) = go (picks (s ∷ q) []) refl ∙ sym (eqb-suc-zero (length q))
  where
    go : (b : Bool) → picks (s ∷ q) [] ≡ b → picks (s ∷ q) [] ≡ false
    go true e = absurd (cons≢nil (picks_root (s ∷ q) e))
    go false e = e

-- a mark is less than the number of steps
pub mark_less : (q : List Step) (i : ℕ) (w : Way) → mark q i w ≡ true → i < length q
mark_less q i w e = go (ltb i (length q)) refl
  where
    go : (b : Bool) → ltb i (length q) ≡ b → i < length q
    go true t = ltb-true i (length q) t
    go false t = absurd (false≢true (sym (mark_over q i w (ltb-false i (length q) t)) ∙ e))

-- a child's mark is its parent's, by a deep step, or one more than a mark of its parent
abbrev pub Origin : List Step → ℕ → Way → Type 0
Origin q i w = ((is_deep (get_elem? q i) ≡ true) × (mark q i w ≡ true)) ⊎ ((j : ℕ) × (i ≡ suc j) × (mark q j w ≡ true))

pub mark_origin : (q : List Step) (i : ℕ) (l : Label) (w : Way) → mark q i (l ∷ w) ≡ true → Origin q i w
mark_origin q zero l w e = inl ((and-eq-true_iff (is_deep (get_elem? q 0)) (mark q 0 w)).0 (sym (mark-zero q l w) ∙ e))
mark_origin q (suc i) l w e = go ((or_is (step_hits (get_elem? q i) l && mark q i w) (is_deep (get_elem? q (suc i)) && mark q (suc i) w)).0 alternatives)
  where
    alternatives : ((step_hits (get_elem? q i) l && mark q i w) || (is_deep (get_elem? q (suc i)) && mark q (suc i) w)) ≡ true
    alternatives =
        ((and-eq-true_iff
        (ltb (suc i) (length q))
        ((step_hits (get_elem? q i) l && mark q i w) || (is_deep (get_elem? q (suc i)) && mark q (suc i) w))
        ).0 (sym (mark-suc q i l w) ∙ e)).1

    go : ((step_hits (get_elem? q i) l && mark q i w) ≡ true) ⊎ ((is_deep (get_elem? q (suc i)) && mark q (suc i) w) ≡ true) → Origin q (suc i) w
    go (inl h) = inr (i, refl, ((and-eq-true_iff (step_hits (get_elem? q i) l) (mark q i w)).0 h).1)
    go (inr h) = inl ((and-eq-true_iff (is_deep (get_elem? q (suc i))) (mark q (suc i) w)).0 h)
