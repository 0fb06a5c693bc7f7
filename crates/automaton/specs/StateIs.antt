-- The state that a walk carries is that of the way: bit by bit, by the laws of marks. Assumes nothing.
use Rattle.std.specs.Prelude.{◌≡◌, Bool, ◌&&◌, ◌||◌}
use Rattle.std.proofs.Math.Path.{refl, sym, ap, ap₂}
use Rattle.std.proofs.Common.{◌∙◌, arith, lt-ltb, eq-eqb, ne_eqb}
use mathlib.Core.List.{List, [], ◌∷◌, map}
use Rattle.std.proofs.Math.Bool.{true, false, false≢true}
use Prim.Native.Nat.{ℕ, zero, suc, ◌<◌}
use Rattle.std.proofs.Math.Dec.{eqb, eqb-suc-zero}
use Rattle.std.proofs.Math.ListN.{length, get_elem?}
use Rattle.bits.specs.Bits.{bit, number}
use Rattle.bits.specs.Laws.{bit_number, number_same}
use Rattle.query.specs.Steps.{Step, is_deep}
use Rattle.json_text.specs.Grammar.{Tree}
use Rattle.select.specs.Nodes.{Label, root}
use Rattle.select.specs.MarksStep.{step_hits, mark_root, mark_root_suc, mark-zero, mark-suc, picks_step, picks_top}
use Rattle.select.proofs.MarksAre.{first_marks}
use Rattle.select.specs.Visits.{Way, step, node_visits, nodes}
use Rattle.select.specs.VisitsMap.{over, visits_map}
use Rattle.select.specs.Ways.{mark, picks_back, picks, same_marks, frames}
use Rattle.automaton.specs.State.{State, next_mark, next_marks, pick_at, next_picked, next, state_at, start}

no_steps : (q : List Step) → length q ≡ 0 → q ≡ []
no_steps [] e = refl
no_steps (s ∷ q) e = absurd (omega arith)

module _ (q : List Step) where
  marks_at : Way → ℕ
  marks_at w = number (length q) (λ i. mark q i w)

  mark_bit : (w : Way) (i : ℕ) → i < length q → mark q i w ≡ bit i (marks_at w)
  unfolding marks_at
  mark_bit w i h = sym (bit_number (length q) i (λ j. mark q j w) h)

  mark_next : (w : Way) (l : Label) (i : ℕ) → i < length q → mark q i (l ∷ w) ≡ next_mark q (marks_at w) l i
  unfolding next_mark
  mark_next w l zero h = mark-zero q l w ∙ ap (λ (b : Bool). is_deep (get_elem? q 0) && b) (mark_bit w 0 h)
  mark_next w l (suc i) h =
      mark-suc q i l w
      ∙ ap (λ (b : Bool). b && ((step_hits (get_elem? q i) l && mark q i w) || (is_deep (get_elem? q (suc i)) && mark q (suc i) w)))
      (lt-ltb (suc i) (length q) h)
      ∙ ap₂ (λ (a b : Bool). (step_hits (get_elem? q i) l && a) || (is_deep (get_elem? q (suc i)) && b))
      (mark_bit w i (omega arith)) (mark_bit w (suc i) h)

  marks_next : (w : Way) (l : Label) → marks_at (l ∷ w) ≡ next_marks q (marks_at w) l
  unfolding marks_at next_marks
  marks_next w l = number_same (length q) (λ i. mark q i (l ∷ w)) (next_mark q (marks_at w) l) (λ i h. mark_next w l i h)

  picked_next : (w : Way) (l : Label) → picks q (l ∷ w) ≡ next_picked q (marks_at w) l
  unfolding next_picked pick_at picks picks_back
  picked_next w l = go (length q) refl
    where
      go : (n : ℕ) → length q ≡ n → picks q (l ∷ w) ≡ pick_at q (marks_at w) l n
      go zero e = ap (λ (z : List Step). picks z (l ∷ w)) (no_steps q e)
      go (suc k) e = picks_step q k l w e ∙ ap (λ (b : Bool). step_hits (get_elem? q k) l && b) (mark_bit w k (omega arith))

  -- two nodes have the same marks exactly if their numbers are equal
  same_number : (w w' : Way) → same_marks q (length q) w w' ≡ eqb (marks_at w) (marks_at w')
  unfolding marks_at
  same_number w w' = go (same_marks q (length q) w w') refl
    where
      go : (b : Bool) → same_marks q (length q) w w' ≡ b → b ≡ eqb (marks_at w) (marks_at w')
      go true e =
          sym (eq-eqb (marks_at w) (marks_at w') (number_same (length q) (λ i. mark q i w) (λ i. mark q i w') ((first_marks q (length q) w w').0 e)))
      go false e =
          sym
          (ne_eqb (marks_at w) (marks_at w')
          (λ (z : marks_at w ≡ marks_at w').
          false≢true
          (sym e ∙ (first_marks q (length q) w w').1 (λ i h. mark_bit w i h ∙ ap (bit i) z ∙ sym (mark_bit w' i h)))))

  -- from a node to its child
  pub state_next : (w : Way) (l : Label) → state_at q (l ∷ w) ≡ next q (state_at q w) l
  unfolding state_at next frames marks_at
  state_next w l =
      rw (sym (marks_next w l), sym (picked_next w l), sym (same_number w (l ∷ w)))

  root_mark : (i : ℕ) → i < length q → mark q i [] ≡ eqb i 0
  root_mark zero h = mark_root q ∙ lt-ltb 0 (length q) h
  root_mark (suc i) h = mark_root_suc q i ∙ sym (eqb-suc-zero i)

  -- at the root
  pub state_root : state_at q [] ≡ start q
  unfolding state_at start frames
  state_root =
      ap₂ (λ (m : ℕ) (p : Bool). record { marks = m; picked = p; frames = 0 })
      (number_same (length q) (λ i. mark q i []) (λ i. eqb i 0) root_mark) (picks_top q)

  -- a walk that carries these states visits every node with the state of its way
  pub states_are : (t : Tree) → node_visits (next q) (root t) (start q) ≡ map (over (state_at q)) (nodes t)
  unfolding node_visits nodes
  states_are t =
      ap (λ (s : State). node_visits (next q) (root t) s) (sym state_root)
      ∙ visits_map step (next q) (state_at q) state_next t.value [] (root t).first
