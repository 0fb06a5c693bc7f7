-- A container without marks is dead: no node below it is picked out or costs a frame, so visiting its items changes nothing.
-- Without marks a child has none either, and its frames are its parent's. Assumes nothing.
use Rattle.std.specs.Prelude.{◌≡◌, List, Bool, false, ◌&&◌, ◌||◌, length}
use Rattle.std.proofs.Math.Path.{refl, ap, ap₂}
use Rattle.std.proofs.Common.{◌∙◌, arith}
use Rattle.std.proofs.Math.Bool.{and-false}
use Prim.Native.Nat.{ℕ, zero, suc, ◌+◌, ◌≤◌}
use Rattle.std.proofs.Math.Nat.{max-eq_left}
use Rattle.std.proofs.Math.ListN.{get_elem?}
use Rattle.bits.specs.Laws.{bit-zero}
use Rattle.json_text.specs.Grammar.{Kind, Value, literal, number, string, container, Items, empty, items, More, end, more}
use Rattle.query.specs.Steps.{Step, is_deep}
use Rattle.select.specs.Nodes.{Label, Node, size, key_size, label_of}
use Rattle.select.specs.MarksStep.{step_hits}
use Rattle.select.specs.Visits.{visit, visits, items_visits, more_visits}
use Rattle.select.specs.Ways.{frame_if, container_frames}
use Rattle.automaton.specs.Start.{number_none}
use Rattle.automaton.specs.State.{State, next_mark, next_marks, pick_at, next_picked, next}
use Rattle.automaton.specs.Tally.{Tally, list_if_picked, list_from, listed, raise_from, raised, put, tallied}
use Rattle.automaton.specs.Halves.{tallied-append}

-- the state at every node below a dead container
abbrev pub dead_state : ℕ → State
dead_state f = record { marks = 0; picked = false; frames = f }

module _ (q : List Step) where
  no_mark : (l : Label) (i : ℕ) → next_mark q 0 l i ≡ false
  unfolding next_mark
  no_mark l zero = ap (λ (b : Bool). is_deep (get_elem? q 0) && b) (bit-zero 0) ∙ and-false (is_deep (get_elem? q 0))
  no_mark l (suc i) =
      ap₂ (λ (a b : Bool). a || b)
      (ap (λ (b : Bool). step_hits (get_elem? q i) l && b) (bit-zero i) ∙ and-false (step_hits (get_elem? q i) l))
      (ap (λ (b : Bool). is_deep (get_elem? q (suc i)) && b) (bit-zero (suc i)) ∙ and-false (is_deep (get_elem? q (suc i))))

  no_pick : (l : Label) (n : ℕ) → pick_at q 0 l n ≡ false
  unfolding pick_at
  no_pick l zero = refl
  no_pick l (suc i) = ap (λ (b : Bool). step_hits (get_elem? q i) l && b) (bit-zero i) ∙ and-false (step_hits (get_elem? q i) l)

  -- a child of a node without marks
  pub next_dead : (s : State) (l : Label) → s.marks ≡ 0 → next q s l ≡ dead_state s.frames
  unfolding next next_marks next_picked frame_if
  next_dead s l e = rw (e, number_none (length q) (next_mark q 0 l) (no_mark l), no_pick l (length q)) refl

-- the frames of a dead container count already
abbrev pub PeakCovers : Tally → ℕ → Type 0
PeakCovers t f = t.stop ≡ 0 → f ≤ t.peak

raised_counted : (k : ℕ) (t : Tally) → PeakCovers t k → raised k t ≡ t
unfolding raised raise_from
raised_counted k t h = go t.stop refl
  where
    go : (s : ℕ) → t.stop ≡ s → raise_from s k t ≡ t
    go zero e = ap (λ (x : ℕ). record { list = t.list; used = t.used; peak = x; stop = t.stop }) (max-eq_left (h e))
    go (suc s) e = refl

listed_none : (t : Tally) (n : Node) → listed false t n ≡ t
unfolding listed list_from list_if_picked
listed_none t n = go t.stop
  where
    go : (s : ℕ) → list_from s false t n ≡ t
    go zero = refl
    go (suc s) = refl

scalar_or_container : (v : Value) (t : Tally) (f : ℕ) → PeakCovers t f → PeakCovers t (container_frames v f)
unfolding container_frames
scalar_or_container (literal l) t f h = λ e. omega arith
scalar_or_container (number g n x e) t f h = λ e. omega arith
scalar_or_container (string cs) t f h = λ e. omega arith
scalar_or_container (container k is) t f h = h

put_dead : (v : Value) (a f : ℕ) (t : Tally) → PeakCovers t f → put t (visit (dead_state f) v a) ≡ t
unfolding put
put_dead v a f t h =
    ap (raised (container_frames v f)) (listed_none t (record { value = v; first = a }))
    ∙ raised_counted (container_frames v f) t (scalar_or_container v t f h)

module _ (q : List Step) where
  mutual
    unfolding visits tallied

    pub value_dead : (v : Value) (f a : ℕ) (t : Tally) → PeakCovers t f → tallied t (visits (next q) v (dead_state f) a) ≡ t
    value_dead (literal l) f a t h = put_dead (literal l) a f t h
    value_dead (number g n x e) f a t h = put_dead (number g n x e) a f t h
    value_dead (string cs) f a t h = put_dead (string cs) a f t h
    value_dead (container k is) f a t h =
        ap (λ (x : Tally). tallied x (items_visits (next q) is (dead_state f) (a + 1))) (put_dead (container k is) a f t h)
        ∙ items_dead is (dead_state f) (a + 1) t refl h

    -- the items of a container without marks, whose own frames count already
    pub items_dead : {k : Kind} (is : Items k) (s : State) (a : ℕ) (t : Tally) → s.marks ≡ 0 → PeakCovers t s.frames
        → tallied t (items_visits (next q) is s a) ≡ t
    items_dead (empty w) s a t e h = refl
    items_dead {k} (items w key v m) s a t e h =
        let b = a + length w + key_size k key in
        let l = label_of k key 0 in
        tallied-append t (visits (next q) v (next q s l) b) (more_visits (next q) m s 1 (b + size v))
        ∙ ap (λ (x : State). tallied (tallied t (visits (next q) v x b)) (more_visits (next q) m s 1 (b + size v))) (next_dead q s l e)
        ∙ ap (λ (x : Tally). tallied x (more_visits (next q) m s 1 (b + size v))) (value_dead v s.frames b t h)
        ∙ more_dead m s 1 (b + size v) t e h

    pub more_dead : {k : Kind} (m : More k) (s : State) (j a : ℕ) (t : Tally) → s.marks ≡ 0 → PeakCovers t s.frames
        → tallied t (more_visits (next q) m s j a) ≡ t
    more_dead (end w) s j a t e h = refl
    more_dead {k} (more w w' key v m) s j a t e h =
        let b = a + length w + 1 + length w' + key_size k key in
        let l = label_of k key j in
        tallied-append t (visits (next q) v (next q s l) b) (more_visits (next q) m s (j + 1) (b + size v))
        ∙ ap (λ (x : State). tallied (tallied t (visits (next q) v x b)) (more_visits (next q) m s (j + 1) (b + size v))) (next_dead q s l e)
        ∙ ap (λ (x : Tally). tallied x (more_visits (next q) m s (j + 1) (b + size v))) (value_dead v s.frames b t h)
        ∙ more_dead m s (j + 1) (b + size v) t e h
