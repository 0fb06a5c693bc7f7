-- Below a node without marks nothing is picked out and no frame is added: a mark or a pick of a child comes from a mark of its parent.
-- Assumes nothing.
use Rattle.std.specs.Prelude.{◌≡◌, Bool, true, false, ◌&&◌, ℕ, ◌≤◌, length}
use Rattle.std.proofs.Math.Path.{refl, ap}
use Rattle.std.proofs.Common.{sym, subst, ◌∙◌, inl, inr, arith}
use mathlib.Core.List.{List, [], ◌∷◌, Memᴰ}
use Rattle.std.proofs.lemmas.Bool.{false≢true}
use Rattle.std.proofs.Math.Bool.{and-false}
use Rattle.std.proofs.Math.ListN.{get_elem?}
use Rattle.json_text.specs.Grammar.{Kind, Items}
use Rattle.query.specs.Steps.{Step}
use Rattle.select.specs.Nodes.{Label, Node, items_children}
use Rattle.select.specs.Visits.{Visit, Way, step, items_visits}
use Rattle.select.specs.Ways.{picks_back, picks, mark, frames, span_if, picked_spans, most_frames}
use Rattle.select.specs.Ways as W
use Rattle.select.specs.Children.{child_visits, items_visits_are}
use Rattle.select.specs.Reach.{ReachFrom, start, down, visit_reach, of_flat_map}
use Rattle.select.specs.MarksStep.{step_hits, picks_step, Origin, mark_origin}
use Rattle.select.proofs.MarksAre.{frames_same}
use Rattle.select.proofs.PeakIs.{most_bound}

-- the node at a way is dead: it has no mark
abbrev pub NoMarks : List Step → Way → Type 0
NoMarks q w = (i : ℕ) → mark q i w ≡ false

module _ (q : List Step) (l : Label) (w : Way) (none : NoMarks q w) where
  -- a child of a dead node is dead
  pub dead_child : NoMarks q (l ∷ w)
  dead_child i = go (mark q i (l ∷ w)) refl
    where
      from : Origin q i w → ⊥
      from (inl (d, e)) = false≢true (sym (none i) ∙ e)
      from (inr (j, s, e)) = false≢true (sym (none j) ∙ e)

      go : (b : Bool) → mark q i (l ∷ w) ≡ b → b ≡ false
      go true e = absurd (from (mark_origin q i l w e))
      go false e = refl

  -- and costs no frame
  pub dead_frames : frames q (l ∷ w) ≡ frames q w
  dead_frames = frames_same q l w (λ i. none i ∙ sym (dead_child i))

-- and it is not picked out
pub dead_unpicked : (q : List Step) (l : Label) (w : Way) → NoMarks q w → picks q (l ∷ w) ≡ false
unfolding picks picks_back
dead_unpicked [] l w none = refl
dead_unpicked (s ∷ q) l w none =
    let n = length q in
    picks_step (s ∷ q) n l w refl
    ∙ ap (λ (b : Bool). step_hits (get_elem? (s ∷ q) n) l && b) (none n)
    ∙ and-false (step_hits (get_elem? (s ∷ q) n) l)

-- so it is with every node below a dead one
pub record Lifeless (q : List Step) (w w' : Way) : Type 0 where
  pub marks : NoMarks q w'
  pub picked : picks q w' ≡ false
  pub frames : W.frames q w' ≡ W.frames q w

lifeless_child : (q : List Step) (l : Label) (w : Way) → NoMarks q w → Lifeless q w (l ∷ w)
lifeless_child q l w none =
    record { marks = dead_child q l w none; picked = dead_unpicked q l w none; frames = dead_frames q l w none }

lifeless_reach : (q : List Step) (l : Label) (w : Way) → NoMarks q w → {c n : Node} {w' : Way} → ReachFrom c (l ∷ w) w' n → Lifeless q w w'
lifeless_reach q l w none start = lifeless_child q l w none
lifeless_reach q l w none (down {w = u} k p c) =
    let h = lifeless_reach q l w none p in
    let x = lifeless_child q k u h.marks in
    record { marks = x.marks; picked = x.picked; frames = x.frames ∙ h.frames }

module _ (q : List Step) (w : Way) (none : NoMarks q w) {k : Kind} (is : Items k) (a : ℕ) where
  item_lifeless : (v : Visit Way) → Memᴰ v (items_visits step is w a) → Lifeless q w v.state
  item_lifeless v m =
      let (c, x, y) = of_flat_map (child_visits step w) (items_children is a) (subst (Memᴰ v) (items_visits_are step w is a) m) in
      lifeless_reach q c.label w none (visit_reach c.node (c.label ∷ w) v y)

  -- the items of a dead container add no pair
  pub dead_spans : picked_spans q (items_visits step is w a) ≡ []
  unfolding picked_spans span_if
  dead_spans = go (items_visits step is w a) (λ v m. (item_lifeless v m).picked)
    where
      go : (vs : List (Visit Way)) → ((v : Visit Way) → Memᴰ v vs → picks q v.state ≡ false) → picked_spans q vs ≡ []
      go [] h = refl
      go (v ∷ vs) h =
          ap (λ (b : Bool). span_if b v.node (picked_spans q vs)) (h v (Memᴰ.head refl))
          ∙ go vs (λ u m. h u (Memᴰ.tail m))

  -- and no frame above its own
  pub dead_peak : most_frames q (items_visits step is w a) ≤ frames q w
  dead_peak = most_bound q (frames q w) (items_visits step is w a) (λ v m. omega (arith, (item_lifeless v m).frames))
