-- Where the bounds on the peak are reached. On a way whose labels are hit by the steps one by one, each node has a mark that none above it
-- has, so that each container costs a frame; below plain steps alone the last one loses its mark, which costs one more. Where a plain step
-- stands behind a deep one, a mark comes and goes, as often as the record has levels. Assumes nothing.
use Rattle.std.specs.Prelude.{◌≡◌, ◌⊎◌, Bool, ◌&&◌}
use Rattle.std.proofs.Math.Path.{refl, ap}
use Rattle.std.proofs.Common.{sym, ap₂, subst, ◌∙◌, inl, inr, add-one, arith, lt-ltb}
use mathlib.Core.List.{List, [], ◌∷◌}
use Rattle.std.proofs.Math.Bool.{true, false, false≢true, or-false, and-true}
use Prim.Native.Nat.{ℕ, zero, suc, ◌≤◌, ◌<◌}
use Rattle.std.proofs.Math.ListN.{length, get_elem?}
use Rattle.json_text.specs.Grammar.{Tree}
use Rattle.query.specs.Steps.{Step}
use Rattle.select.specs.Nodes.{Label, Node, IsContainer, root}
use Rattle.select.specs.Marks.{Frames, Peak, AllSteps}
use Rattle.select.specs.Visits.{Way}
use Rattle.select.specs.Ways.{hits, mark, same_marks, frame_if, frames, peak}
use Rattle.select.specs.Reach.{Reach}
use Rattle.select.specs.MarksStep.{step_hits, mark_root, mark_root_suc, mark-zero, mark-suc, mark_less, Origin, mark_origin}
use Rattle.select.proofs.MarksAre.{all_marks}
use Rattle.select.proofs.PeakIs.{way_frames, peak_is}
use Rattle.select.proofs.PeakBound.{step_kind}

-- a container costs a frame where some mark is not that of the container around it
frames_differ : (q : List Step) (l : Label) (w : Way) → ((i : ℕ) → mark q i w ≡ mark q i (l ∷ w)) ⊎ (frames q (l ∷ w) ≡ suc (frames q w))
unfolding frames frame_if
frames_differ q l w = go (same_marks q (length q) w (l ∷ w)) refl
  where
    go : (b : Bool) → same_marks q (length q) w (l ∷ w) ≡ b
        → ((i : ℕ) → mark q i w ≡ mark q i (l ∷ w)) ⊎ (frame_if b (frames q w) ≡ suc (frames q w))
    go true e = inl ((all_marks q w (l ∷ w)).0 e)
    go false e = inr (add-one (frames q w))

-- the steps hit the labels of the way, one by one from the root down
abbrev pub Along : List Step → Way → Type 0
Along q [] = Unit {0}
Along q (l ∷ w) = (step_hits (get_elem? q (length w)) l ≡ true) × Along q w

module _ (q : List Step) where
  -- a mark takes as many levels as it has steps before it
  mark_within : (w : Way) (i : ℕ) → mark q i w ≡ true → i ≤ length w
  mark_within [] i e = zeroth i e
    where
      zeroth : (i : ℕ) → mark q i [] ≡ true → i ≤ 0
      zeroth zero e = omega arith
      zeroth (suc i) e = absurd (false≢true (sym (mark_root_suc q i) ∙ e))
  mark_within (l ∷ w) i e = go (mark_origin q i l w e) (mark_within w)
    where
      go : Origin q i w → ((j : ℕ) → mark q j w ≡ true → j ≤ length w) → i ≤ suc (length w)
      go (inl (d, m)) up = omega (arith, up i m)
      go (inr (j, s, m)) up = omega (arith, up j m)

  mark_along : (w : Way) → Along q w → length w < length q → mark q (length w) w ≡ true
  mark_along [] a h = mark_root q ∙ lt-ltb 0 (length q) h
  mark_along (l ∷ w) (hit, a) h =
      mark-suc q (length w) l w
      ∙ rw (lt-ltb (suc (length w)) (length q) h, hit, mark_along w a (omega arith)) refl

  pub frames_along : (w : Way) → Along q w → length w < length q → frames q w ≡ length w
  unfolding frames
  frames_along [] a h = refl
  frames_along (l ∷ w) a h = go (frames_differ q l w) (frames_along w a.1 (omega arith))
    where
      go : ((i : ℕ) → mark q i w ≡ mark q i (l ∷ w)) ⊎ (frames q (l ∷ w) ≡ suc (frames q w)) → frames q w ≡ length w
          → frames q (l ∷ w) ≡ suc (length w)
      go (inl same) e = absurd (omega (arith, mark_within w (suc (length w)) (same (suc (length w)) ∙ mark_along (l ∷ w) a h)))
      go (inr more) e = more ∙ ap suc e

  module _ (h : AllSteps false q) where
    -- by plain steps alone a node has no mark but that of its level
    only_own : (w : Way) (i : ℕ) → mark q i w ≡ true → i ≡ length w
    only_own [] i e = omega (arith, mark_within [] i e)
    only_own (l ∷ w) i e = go (mark_origin q i l w e) (only_own w)
      where
        go : Origin q i w → ((j : ℕ) → mark q j w ≡ true → j ≡ length w) → i ≡ suc (length w)
        go (inl (d, m)) up = absurd (false≢true (sym (step_kind false q h i (mark_less q i w m)) ∙ d))
        go (inr (j, s, m)) up = omega (arith, up j m)

    pub frames_plain : (l : Label) (w : Way) → Along q w → length q ≡ suc (length w) → frames q (l ∷ w) ≡ length q
    frames_plain l w a e = go (frames_differ q l w)
      where
        fits : length w < length q
        fits = omega arith

        go : ((i : ℕ) → mark q i w ≡ mark q i (l ∷ w)) ⊎ (frames q (l ∷ w) ≡ suc (frames q w)) → frames q (l ∷ w) ≡ length q
        go (inl same) = absurd (omega (arith, only_own (l ∷ w) (length w) (sym (same (length w)) ∙ mark_along w a fits)))
        go (inr more) = more ∙ ap suc (frames_along w a fits) ∙ sym e

-- the labels are hit and not hit by turns; the last one is hit where this is true
pub data Turns (s : Step) : Bool → Way → Type 0 where
  none : Turns s false []
  hit : {l : Label} {w : Way} → hits s.selector l ≡ true → Turns s false w → Turns s true (l ∷ w)
  miss : {l : Label} {w : Way} → hits s.selector l ≡ false → Turns s true w → Turns s false (l ∷ w)

-- a deep step, and then a plain one
module _ (s s' : Step) (d : s.deep ≡ true) (d' : s'.deep ≡ false) where
  abbrev both : List Step
  both = s ∷ s' ∷ []

  mark_0 : (w : Way) → mark both 0 w ≡ true
  mark_0 [] = mark_root both
  mark_0 (l ∷ w) = mark-zero both l w ∙ ap₂ (λ (x y : Bool). x && y) d (mark_0 w)

  mark_1 : (l : Label) (w : Way) → mark both 1 (l ∷ w) ≡ hits s.selector l
  unfolding step_hits
  mark_1 l w =
      mark-suc both 0 l w
      ∙ rw (mark_0 w, d') (or-false (hits s.selector l && true) ∙ and-true (hits s.selector l))

  last_hit : {b : Bool} {w : Way} → Turns s b w → mark both 1 w ≡ b
  last_hit none = mark_root_suc both 0
  last_hit (hit {l} {w} e t) = mark_1 l w ∙ e
  last_hit (miss {l} {w} e t) = mark_1 l w ∙ e

  turned : (b b' : Bool) (l : Label) (w : Way) → (b ≡ b' → ⊥) → mark both 1 w ≡ b → mark both 1 (l ∷ w) ≡ b' → frames both w ≡ length w
      → frames both (l ∷ w) ≡ suc (length w)
  turned b b' l w f e e' few = go (frames_differ both l w)
    where
      go : ((i : ℕ) → mark both i w ≡ mark both i (l ∷ w)) ⊎ (frames both (l ∷ w) ≡ suc (frames both w)) → frames both (l ∷ w) ≡ suc (length w)
      go (inl same) = absurd (f (sym e ∙ same 1 ∙ e'))
      go (inr more) = more ∙ ap suc few

  -- every container costs a frame
  pub frames_turns : {b : Bool} {w : Way} → Turns s b w → frames both w ≡ length w
  unfolding frames
  frames_turns none = refl
  frames_turns (hit {l} {w} e t) = turned false true l w false≢true (last_hit t) (mark_1 l w ∙ e) (frames_turns t)
  frames_turns (miss {l} {w} e t) = turned true false l w (λ z. false≢true (sym z)) (last_hit t) (mark_1 l w ∙ e) (frames_turns t)

-- the peak, where a container has as many frames as there can be
pub reached : (t : Tree) (q : List Step) {w : Way} {n : Node} {k : ℕ} → ((m : ℕ) → Peak t q m → m ≤ k)
    → Reach (root t) w n → IsContainer n → frames q w ≡ k → Peak t q k
reached t q {w} {n} {k} most x is e = record {
  bound = λ m j f. let top = peak_is t q in omega (arith, top.bound m j f, most (peak t q) top);
  node = n;
  reached = subst (Frames (root t) q n) e (way_frames (root t) q x is);
}
