-- The tests on ways find just the marks of nodes; and what is picked out is told by marks.
-- A node is reached by one way only, so what holds of some way to it holds of its way. Assumes nothing.
use Rattle.std.specs.Prelude.{◌≡◌, refl, ◌↔◌, ◌⊎◌, List, [], ◌∷◌, Bool, true, false, ◌&&◌, ◌||◌, ℕ, zero, suc, ◌≤◌, ◌<◌, ltb, length, take}
use Rattle.std.proofs.Common.{sym, subst, ◌∙◌, inl, inr, arith, ltb-true, ltb-false, lt-ltb}
use Rattle.std.proofs.Math.Path.{ap}
use Rattle.std.proofs.Math.Logic.{⊎_map}
use Rattle.std.specs.Bool.{beq}
use Rattle.std.proofs.lemmas.Bool.{false≢true}
use Rattle.std.proofs.Math.Bool.{and-eq-true_iff}
use Rattle.std.proofs.Math.Option.{Option, some, none}
use Rattle.std.proofs.Math.ListN.{get_elem?}
use Rattle.bits.specs.Truth.{or_is, beq_is, same_truth}
use Rattle.json_text.specs.Grammar.{Tree}
use Rattle.query.specs.Steps.{Step, is_deep}
use Rattle.select.specs.Nodes.{Label, Node, IsChild, IsNode, root}
use Rattle.select.specs.Picked.{Hits, PickedFrom, Picked}
use Rattle.select.specs.Marks.{Mark, SameMarks}
use Rattle.select.specs.Marks as M
use Rattle.select.specs.Visits.{Way}
use Rattle.select.specs.Ways.{picks_back, picks, mark, same_marks, frame_if, frames}
use Rattle.select.specs.Reach.{Reach, start, down, below_is}
use Rattle.select.specs.Order.{way_unique}
use Rattle.select.specs.HitsAre.{hits_is}
use Rattle.select.proofs.PickedIs.{picked_from}
use Rattle.select.specs.MarksStep.{step_hits, mark_over, picks_step, picks_root}

deep_is : (o : Option Step) → ((s : Step) × (o ≡ some s) × (s.deep ≡ true)) ↔ (is_deep o ≡ true)
deep_is none = (λ h. let (s, e, d) = h in let z : ◌≡◌ {A = ℕ} 0 1 = cc in absurd (omega arith), λ e. absurd (false≢true e))
deep_is (some s) = (λ h. let same : s ≡ h.0 = cc in ap (λ (x : Step). x.deep) same ∙ h.2, λ e. (s, refl, e))

module _ (q : List Step) (i : ℕ) where
  -- what a mark's test says
  mark_top : (mark q i [] ≡ true) ↔ ((i < length q) × (picks (take i q) [] ≡ true))
  unfolding mark
  mark_top =
      let both = and-eq-true_iff (ltb i (length q)) (picks (take i q) []) in
      (λ e. (ltb-true i (length q) (both.0 e).0, (both.0 e).1), λ h. both.1 (lt-ltb i (length q) h.0, h.1))

  abbrev pub ByDeepStep : Way → Type 0
  ByDeepStep w = (is_deep (get_elem? q i) ≡ true) × (mark q i w ≡ true)

  pub mark_below : (l : Label) (w : Way) → (mark q i (l ∷ w) ≡ true) ↔ ((i < length q) × ((picks (take i q) (l ∷ w) ≡ true) ⊎ ByDeepStep w))
  unfolding mark
  mark_below l w = (
    λ e.
        let h = both.0 e in
        (ltb-true i (length q) h.0, ⊎_map (λ x. x) kept.0 (either.0 h.1)),
    λ h.
        both.1 (lt-ltb i (length q) h.0, either.1 (⊎_map (λ x. x) kept.1 h.1)),
  )
    where
      kept : ((is_deep (get_elem? q i) && mark q i w) ≡ true) ↔ ByDeepStep w
      kept = and-eq-true_iff (is_deep (get_elem? q i)) (mark q i w)

      either :
          ((picks (take i q) (l ∷ w) || (is_deep (get_elem? q i) && mark q i w)) ≡ true)
          ↔ ((picks (take i q) (l ∷ w) ≡ true) ⊎ ((is_deep (get_elem? q i) && mark q i w) ≡ true))
      either = or_is (picks (take i q) (l ∷ w)) (is_deep (get_elem? q i) && mark q i w)

      both : (mark q i (l ∷ w) ≡ true) ↔ ((ltb i (length q) ≡ true) × ((picks (take i q) (l ∷ w) || (is_deep (get_elem? q i) && mark q i w)) ≡ true))
      both = and-eq-true_iff (ltb i (length q)) (picks (take i q) (l ∷ w) || (is_deep (get_elem? q i) && mark q i w))

  mark_picked : (w : Way) → i < length q → picks (take i q) w ≡ true → mark q i w ≡ true
  mark_picked [] h e = mark_top.1 (h, e)
  mark_picked (l ∷ w) h e = (mark_below l w).1 (h, inl e)

  module _ (r : Node) where
    marked_way : {n : Node} → Mark r q i n → (w : Way) × Reach r w n × (mark q i w ≡ true)
    marked_way (M.picked {n} h p) = let (w, x, e) = (picked_from r (take i q) n).0 p in (w, x, mark_picked w h e)
    marked_way (M.kept l h d m c) =
        let (w, x, e) = marked_way m in
        (l ∷ w, down l x c, (mark_below l w).1 (h, inr ((deep_is (get_elem? q i)).0 d, e)))

    way_marked : {w : Way} {n : Node} → Reach r w n → mark q i w ≡ true → Mark r q i n
    way_marked start e = let (h, p) = mark_top.0 e in M.picked h ((picked_from r (take i q) r).1 ([], start, p))
    way_marked (down {m} {n} {w} l p c) e = let (h, x) = (mark_below l w).0 e in go h x (λ e'. way_marked p e')
      where
        go : i < length q → (picks (take i q) (l ∷ w) ≡ true) ⊎ ByDeepStep w → (mark q i w ≡ true → Mark r q i m) → Mark r q i n
        go h (inl x) up = M.picked h ((picked_from r (take i q) n).1 (l ∷ w, down l p c, x))
        go h (inr x) up = M.kept l h ((deep_is (get_elem? q i)).1 x.0) (up x.1) c

    -- the test on a node's way finds its marks
    pub mark_is : {w : Way} {n : Node} → Reach r w n → Mark r q i n ↔ (mark q i w ≡ true)
    mark_is {w} {n} p = (
      λ m.
          let (u, x, e) = marked_way m in
          subst (λ (z : Way). mark q i z ≡ true) (way_unique x p refl).0 e,
      way_marked p,
    )

-- the test of n marks compares the first n
pub first_marks : (q : List Step) (n : ℕ) (w w' : Way) → (same_marks q n w w' ≡ true) ↔ ((i : ℕ) → i < n → mark q i w ≡ mark q i w')
unfolding same_marks
first_marks q zero w w' = (λ e i h. absurd (omega arith), λ h. refl)
first_marks q (suc n) w w' = go (first_marks q n w w')
  where
    last :
        ((beq (mark q n w) (mark q n w') && same_marks q n w w') ≡ true)
        ↔ ((beq (mark q n w) (mark q n w') ≡ true) × (same_marks q n w w' ≡ true))
    last = and-eq-true_iff (beq (mark q n w) (mark q n w')) (same_marks q n w w')

    pick : (i : ℕ) → i < suc n → mark q n w ≡ mark q n w' → (i < n → mark q i w ≡ mark q i w') → (b : Bool) → ltb i n ≡ b → mark q i w ≡ mark q i w'
    pick i h e rest true t = rest (ltb-true i n t)
    pick i h e rest false t =
        let same : n ≡ i = omega (arith, ltb-false i n t) in
        subst (λ (j : ℕ). mark q j w ≡ mark q j w') same e

    go : (same_marks q n w w' ≡ true) ↔ ((i : ℕ) → i < n → mark q i w ≡ mark q i w') →
        (same_marks q (suc n) w w' ≡ true) ↔ ((i : ℕ) → i < suc n → mark q i w ≡ mark q i w')
    go rest = (
      λ e i h.
          let (x, y) = last.0 e in
          pick i h ((beq_is (mark q n w) (mark q n w')).0 x) (rest.0 y i) (ltb i n) refl,
      λ h. last.1 ((beq_is (mark q n w) (mark q n w')).1 (h n (omega arith)), rest.1 (λ i k. h i (omega arith))),
    )

-- the test of all marks
pub all_marks : (q : List Step) (w w' : Way) → (same_marks q (length q) w w' ≡ true) ↔ ((i : ℕ) → mark q i w ≡ mark q i w')
all_marks q w w' = (λ e i. same e i (ltb i (length q)) refl, λ h. (first_marks q (length q) w w').1 (λ i k. h i))
  where
    same : same_marks q (length q) w w' ≡ true → (i : ℕ) (b : Bool) → ltb i (length q) ≡ b → mark q i w ≡ mark q i w'
    same e i true t = (first_marks q (length q) w w').0 e i (ltb-true i (length q) t)
    same e i false t =
        let h : length q ≤ i = ltb-false i (length q) t in
        mark_over q i w h ∙ sym (mark_over q i w' h)

-- two nodes have the same marks exactly if the test holds
pub same_marks_is : (r : Node) (q : List Step) {w w' : Way} {p n : Node} → Reach r w p → Reach r w' n
    → SameMarks r q p n ↔ (same_marks q (length q) w w' ≡ true)
unfolding SameMarks
same_marks_is r q {w} {w'} {p} {n} x y = (
  λ h.
      (all_marks q w w').1
      (λ i.
      same_truth (mark q i w) (mark q i w') (
        λ e. (mark_is q i r y).0 ((h i).0 ((mark_is q i r x).1 e)),
        λ e. (mark_is q i r x).0 ((h i).1 ((mark_is q i r y).1 e)),
      )),
  λ e i.
      let same = (all_marks q w w').0 e i in
      (λ m. (mark_is q i r y).1 (sym same ∙ (mark_is q i r x).0 m), λ m. (mark_is q i r x).1 (same ∙ (mark_is q i r y).0 m)),
)

-- a container costs no frame where all marks are those of the container around it
module _ (q : List Step) (l : Label) (w : Way) where
  pub frames_same : ((i : ℕ) → mark q i w ≡ mark q i (l ∷ w)) → frames q (l ∷ w) ≡ frames q w
  unfolding frames frame_if
  frames_same h = ap (λ (b : Bool). frame_if b (frames q w)) ((all_marks q w (l ∷ w)).1 h)

-- the root is picked out when there are no steps
pub root_picked : (t : Tree) (q : List Step) → Picked t q (root t) ↔ (q ≡ [])
unfolding Picked
root_picked t q = (
  λ h.
      let (w, x, e) = (picked_from (root t) q (root t)).0 h in
      picks_root q (subst (λ (z : Way). picks q z ≡ true) (way_unique x start refl).0 e),
  λ e. subst (λ (z : List Step). PickedFrom (root t) z (root t)) (sym e) refl,
)

-- the parent p has the last mark, and the last step hits the label l
pub record ByMark (r : Node) (q : List Step) (p : Node) (l : Label) : Type 0 where
  pub last : ℕ
  pub step : Step
  pub count : length q ≡ suc last
  pub stands : get_elem? q last ≡ some step
  pub marked : Mark r q last p
  pub hits : Hits step.selector l

has_last : (q : List Step) (l : Label) (w : Way) → picks q (l ∷ w) ≡ true → (k : ℕ) × (length q ≡ suc k)
unfolding picks picks_back
has_last [] l w e = absurd (false≢true e)
has_last (s ∷ q) l w e = (length q, refl)

step_hits_lem : (o : Option Step) (l : Label) → step_hits o l ≡ true → (s : Step) × (o ≡ some s) × Hits s.selector l
unfolding step_hits
step_hits_lem none l e = absurd (false≢true e)
step_hits_lem (some s) l e = (s, refl, (hits_is s.selector l).1 e)

hits_step : {o : Option Step} {s : Step} (l : Label) → o ≡ some s → Hits s.selector l → step_hits o l ≡ true
unfolding step_hits
hits_step {o} {s} l e h = ap (λ (x : Option Step). step_hits x l) e ∙ (hits_is s.selector l).0 h

picked_below : (r : Node) (q : List Step) {w : Way} {p : Node} (n : Node) (l : Label) → Reach r w p → IsChild p l n
    → PickedFrom r q n ↔ ByMark r q p l
picked_below r q {w} {p} n l x c = (
  λ h.
      let (u, y, e) = (picked_from r q n).0 h in
      let f : picks q (l ∷ w) ≡ true = subst (λ (z : Way). picks q z ≡ true) (way_unique y (down l x c) refl).0 e in
      let (k, count) = has_last q l w f in
      let (g, m) = (and-eq-true_iff (step_hits (get_elem? q k) l) (mark q k w)).0 (sym (picks_step q k l w count) ∙ f) in
      let (s, stands, hit) = step_hits_lem (get_elem? q k) l g in
      record { last = k; step = s; count = count; stands = stands; marked = (mark_is q k r x).1 m; hits = hit },
  λ b.
      let k = b.last in
      let f = (and-eq-true_iff (step_hits (get_elem? q k) l) (mark q k w)).1 (hits_step l b.stands b.hits, (mark_is q k r x).0 b.marked) in
      (picked_from r q n).1 (l ∷ w, down l x c, picks_step q k l w b.count ∙ f),
)

-- another node is picked out exactly when its parent has the last mark and the last step hits it
pub picked_by_mark : (t : Tree) (q : List Step) (p n : Node) (l : Label) → IsNode t p → IsChild p l n → Picked t q n ↔ ByMark (root t) q p l
unfolding Picked IsNode
picked_by_mark t q p n l h c = let (w, x) = (below_is (root t) p).0 h in picked_below (root t) q n l x c
