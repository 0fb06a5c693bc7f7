-- What a tally of all visits comes to: the picked nodes as pairs in the list, the pairs used, the peak, and the first node left over.
-- By induction over the visits; the list is written pair by pair from its start. Assumes nothing.
use Rattle.std.specs.Prelude.{◌≡◌, refl, Bool, true, false, length, set, take, drop}
use Rattle.std.proofs.Math.Path.{sym}
use Rattle.std.proofs.Common.{ap, ◌∙◌, le_antisymm, le_trans, add-one, arith, lt-ltb, le-ltb, length-set, length-take}
use mathlib.Core.List.{List, [], ◌∷◌, ◌++◌, map}
use Prim.Native.Nat.{ℕ, zero, suc, ◌+◌, ◌*◌, ◌/◌, ◌≤◌, max}
use Rattle.std.proofs.Math.Nat.{zero-max, min-le_left, le-max_left, le-max_right, max-le, max-zero}
use Rattle.std.proofs.lemmas.List.Edits.{sets, sets-eq}
use Rattle.query.specs.Steps.{Step}
use Rattle.json_text.specs.Grammar.{Tree}
use Rattle.select.specs.Nodes.{end_of, root}
use Rattle.select.specs.Visits.{Visit, Way, node_visits, nodes}
use Rattle.select.specs.VisitsMap.{over}
use Rattle.select.specs.Ways.{Span, span_of, span_if, picks, picked_spans, frames, container_frames, most_frames, spans, peak}
use Rattle.answers.specs.Lister.{pairs_of, flat}
use Rattle.automaton.specs.State.{State, next, state_at, start}
use Rattle.automaton.specs.StateIs.{states_are}
use Rattle.automaton.specs.Tally.{Tally, set_pair, list_if_room, list_if_picked, list_from, listed, raise_from, raised, put, tallied, fresh}

-- the pairs from number i on, one after the other
unfoldable pub set_pairs : List ℕ → ℕ → List Span → List ℕ
unfolding set_pair
set_pairs l i [] = l
set_pairs l i (s ∷ ss) = set_pairs (set_pair l i s.first s.end) (i + 1) ss

-- one more than the first byte of the first of these nodes, or 0
unfoldable pub stop_at : List Span → ℕ
stop_at [] = 0
stop_at (s ∷ ss) = s.first + 1

-- the tally t after visits among which these spans are picked out and the most frames are m, with k pairs left in the list
pub record AddsUp (before after : Tally) (k : ℕ) (ss : List Span) (m : ℕ) : Type 0 where
  pub list_is : after.list ≡ set_pairs before.list before.used (take k ss)
  pub used_is : after.used ≡ before.used + length (take k ss)
  pub stop_is : after.stop ≡ stop_at (drop k ss)
  pub peak_is : after.stop ≡ 0 → after.peak ≡ max before.peak m

max_assoc : (a b c : ℕ) → max (max a b) c ≡ max a (max b c)
max_assoc a b c =
    le_antisymm
    (max-le (max-le (le-max_left a (max b c)) (le_trans (le-max_left b c) (le-max_right a (max b c))))
    (le_trans (le-max_right b c) (le-max_right a (max b c))))
    (max-le (le_trans (le-max_left a b) (le-max_left (max a b) c))
    (max-le (le_trans (le-max_right a b) (le-max_left (max a b) c)) (le-max_right (max a b) c)))

pub pairs_of_set_pair : (l : List ℕ) (i a e : ℕ) → pairs_of (set_pair l i a e) ≡ pairs_of l
unfolding pairs_of set_pair
pairs_of_set_pair l i a e = ap (λ (n : ℕ). n / 2) (length-set (set l (i * 2) a) (i * 2 + 1) e ∙ length-set l (i * 2) a)

raised_stopped : (k : ℕ) (t : Tally) (p : ℕ) → t.stop ≡ suc p → raised k t ≡ t
unfolding raised raise_from
raised_stopped k t p e = ap (λ (x : ℕ). raise_from x k t) e

put_stopped : (t : Tally) (v : Visit State) (p : ℕ) → t.stop ≡ suc p → put t v ≡ t
unfolding put listed list_from raised raise_from
put_stopped t v p e =
    let k : ℕ = container_frames v.node.value v.state.frames in
    ap (λ (x : ℕ). raised k (list_from x v.state.picked t v.node)) e ∙ ap (λ (x : ℕ). raise_from x k t) e

-- nothing changes after a stop
pub tallied_stopped : (t : Tally) (vs : List (Visit State)) (p : ℕ) → t.stop ≡ suc p → tallied t vs ≡ t
unfolding tallied
tallied_stopped t [] p e = refl
tallied_stopped t (v ∷ vs) p e = ap (λ (x : Tally). tallied x vs) (put_stopped t v p e) ∙ tallied_stopped t vs p e

abbrev active : List ℕ → ℕ → ℕ → Tally
active l u h = record { list = l; used = u; peak = h; stop = 0 }

module _ (q : List Step) where
  counts : (vs : List (Visit Way)) (l : List ℕ) (u k h : ℕ) → u + k ≡ pairs_of l
      → AddsUp (active l u h) (tallied (active l u h) (map (over (state_at q)) vs)) k (picked_spans q vs) (most_frames q vs)
  unfolding tallied put listed list_from list_if_picked list_if_room raised raise_from picked_spans span_if span_of most_frames set_pairs stop_at state_at
  counts [] l u k h e = none k
    where
      none : (k : ℕ) → AddsUp (active l u h) (active l u h) k [] 0
      none zero = record { list_is = refl; used_is = omega arith; stop_is = refl; peak_is = λ z. sym (max-zero h) }
      none (suc k) = record { list_is = refl; used_is = omega arith; stop_is = refl; peak_is = λ z. sym (max-zero h) }
  counts (v ∷ vs) l u k h e = go (picks q v.state) k e (λ l u k h e. counts vs l u k h e)
    where
      f : ℕ
      f = container_frames v.node.value (frames q v.state)

      Goal : Bool → ℕ → Type 0
      Goal b k =
          AddsUp (active l u h) (tallied (raised f (list_if_picked b (active l u h) v.node)) (map (over (state_at q)) vs)) k
          (span_if b v.node (picked_spans q vs)) (max f (most_frames q vs))

      go : (b : Bool) (k : ℕ) → u + k ≡ pairs_of l
          → ((l : List ℕ) (u k h : ℕ) → u + k ≡ pairs_of l
          → AddsUp (active l u h) (tallied (active l u h) (map (over (state_at q)) vs)) k (picked_spans q vs) (most_frames q vs))
          → Goal b k
      go false k e again =
          let r = again l u k (max h f) e in
          record { list_is = r.list_is; used_is = r.used_is; stop_is = r.stop_is; peak_is = λ z. r.peak_is z ∙ max_assoc h f (most_frames q vs) }
      go true zero e again =
          let full = list_if_room false (active l u h) v.node in
          let first = v.node.first in
          let raised_is = raised_stopped f full first (add-one first) in
          let tallied_is = tallied_stopped full (map (over (state_at q)) vs) first (add-one first) in
          rw (le-ltb u (pairs_of l) (omega arith), raised_is, tallied_is)
          (record { list_is = refl; used_is = omega arith; stop_is = refl; peak_is = λ z. absurd (omega arith) })
      go true (suc k) e again =
          let first = v.node.first in
          let end = end_of v.node in
          let r = again (set_pair l u first end) (u + 1) k (max h f) (omega (arith, pairs_of_set_pair l u first end)) in
          rw (lt-ltb u (pairs_of l) (omega arith))
          (record {
            list_is = r.list_is;
            used_is = omega (arith, r.used_is);
            stop_is = r.stop_is;
            peak_is = λ z. r.peak_is z ∙ max_assoc h f (most_frames q vs);
          })

set_pairs_flat : (ss : List Span) (l : List ℕ) (i : ℕ) → set_pairs l i ss ≡ sets l (i * 2) (flat ss)
unfolding set_pairs set_pair flat
set_pairs_flat [] l i = refl
set_pairs_flat (s ∷ ss) l i =
    let one : i * 2 + 1 ≡ suc (i * 2) = omega arith in
    let two : (i + 1) * 2 ≡ suc (suc (i * 2)) = omega arith in
    set_pairs_flat ss (set (set l (i * 2) s.first) (i * 2 + 1) s.end) (i + 1) ∙ rw (two, one)

length-flat : (ss : List Span) → length (flat ss) ≡ 2 * length ss
unfolding flat
length-flat [] = refl
length-flat (s ∷ ss) = omega (arith, length-flat ss)

-- pairs that fit stand at the list's start, and what is beyond them stays
pub set_pairs_is : (ss : List Span) (l : List ℕ) → length ss ≤ pairs_of l → set_pairs l 0 ss ≡ flat ss ++ drop (2 * length ss) l
unfolding pairs_of
set_pairs_is ss l h =
    let end : 0 + length (flat ss) ≡ 2 * length ss = omega (arith, length-flat ss) in
    set_pairs_flat ss l 0 ∙ sets-eq (flat ss) l 0 (omega (arith, length-flat ss)) ∙ ap (λ (n : ℕ). flat ss ++ drop n l) end

-- a tally of all nodes of a record, in terms of what the query picks out
pub record Whole (q : List Step) (t : Tree) (list : List ℕ) (after : Tally) : Type 0 where
  pub list_is : after.list ≡ flat (take (pairs_of list) (spans t q)) ++ drop (2 * length (take (pairs_of list) (spans t q))) list
  pub used_is : after.used ≡ length (take (pairs_of list) (spans t q))
  pub stop_is : after.stop ≡ stop_at (drop (pairs_of list) (spans t q))
  pub peak_is : after.stop ≡ 0 → after.peak ≡ peak t q

take_short : (k : ℕ) (ss : List Span) → length (take k ss) ≤ k
take_short k ss = omega (arith, length-take k ss, min-le_left k (length ss))

pub tally_is : (q : List Step) (t : Tree) (l : List ℕ) → Whole q t l (tallied (fresh l) (node_visits (next q) (root t) (start q)))
unfolding fresh spans peak
tally_is q t l =
    let k : ℕ = pairs_of l in
    let all : 0 + k ≡ pairs_of l = omega arith in
    let r = counts q (nodes t) l 0 k 0 all in
    rw (states_are q t)
    (record {
      list_is = r.list_is ∙ set_pairs_is (take k (spans t q)) l (take_short k (spans t q));
      used_is = omega (arith, r.used_is);
      stop_is = r.stop_is;
      peak_is = λ z. r.peak_is z ∙ zero-max (peak t q);
    })
