-- A node's pair in two halves: a walk writes the first byte when it comes to the node and the end when it leaves it, with the nodes below in between.
-- The two halves come to one visit, because no later pair touches that place. Assumes nothing.
use Rattle.std.specs.Prelude.{◌≡◌, Bool, ltb, length, set}
use Rattle.std.proofs.Math.Path.{refl, ap}
use Rattle.std.proofs.Common.{◌∙◌, arith, length-set}
use mathlib.Core.List.{List, [], ◌∷◌, ◌++◌}
use Rattle.std.proofs.Math.Bool.{true, false}
use Prim.Native.Nat.{ℕ, zero, suc, ◌+◌, ◌*◌, ◌/◌, ◌<◌}
use Rattle.std.proofs.lemmas.List.{set_comm}
use Rattle.select.specs.Nodes.{Node, end_of}
use Rattle.select.specs.Visits.{Visit}
use Rattle.select.specs.Ways.{container_frames}
use Rattle.answers.specs.Lister.{pairs_of}
use Rattle.automaton.specs.State.{State}
use Rattle.automaton.specs.Tally.{Tally, set_pair, list_if_room, list_if_picked, list_from, listed, raise_from, raised, put, tallied}

-- the first half: a node that is picked out takes the next pair and its first byte goes there; where no pair is left the tally stops
unfoldable pub begin_if_room : Bool → Tally → ℕ → Tally
begin_if_room true t a = record { list = set t.list (t.used * 2) a; used = t.used + 1; peak = t.peak; stop = t.stop }
begin_if_room false t a = record { list = t.list; used = t.used; peak = t.peak; stop = a + 1 }

unfoldable pub begin_if_picked : Bool → Tally → ℕ → Tally
unfolding begin_if_room pairs_of
begin_if_picked true t a = begin_if_room (ltb t.used (pairs_of t.list)) t a
begin_if_picked false t a = t

unfoldable pub begin_from : ℕ → Bool → Tally → ℕ → Tally
unfolding begin_if_picked
begin_from zero p t a = begin_if_picked p t a
begin_from (suc s) p t a = t

unfoldable pub begin : Bool → Tally → ℕ → Tally
unfolding begin_from
begin p t a = begin_from t.stop p t a

-- the pair that waits for its end, plus one; 0 where none does
unfoldable pub waiting_if_room : Bool → ℕ → ℕ
waiting_if_room true u = suc u
waiting_if_room false u = 0

unfoldable pub waiting_if_picked : Bool → Tally → ℕ
unfolding waiting_if_room pairs_of
waiting_if_picked true t = waiting_if_room (ltb t.used (pairs_of t.list)) t.used
waiting_if_picked false t = 0

unfoldable pub waiting_from : ℕ → Bool → Tally → ℕ
unfolding waiting_if_picked
waiting_from zero p t = waiting_if_picked p t
waiting_from (suc s) p t = 0

unfoldable pub waiting : Bool → Tally → ℕ
unfolding waiting_from
waiting p t = waiting_from t.stop p t

-- the second half: the end goes into the pair that waits
unfoldable pub end_pair : ℕ → ℕ → List ℕ → List ℕ
end_pair zero e l = l
end_pair (suc i) e l = set l (i * 2 + 1) e

unfoldable pub finish : ℕ → ℕ → Tally → Tally
unfolding end_pair
finish w e t = record { list = end_pair w e t.list; used = t.used; peak = t.peak; stop = t.stop }

-- visits one after the other
pub tallied-append : (t : Tally) (vs us : List (Visit State)) → tallied t (vs ++ us) ≡ tallied (tallied t vs) us
unfolding tallied
tallied-append t [] us = refl
tallied-append t (v ∷ vs) us = tallied-append (put t v) vs us

-- a pair that waits is one of those used
pub data Waits : ℕ → ℕ → Type 0 where
  none : {u : ℕ} → Waits 0 u
  one : {i u : ℕ} → i < u → Waits (suc i) u

waits_more : {w u : ℕ} → Waits w u → Waits w (u + 1)
waits_more none = none
waits_more {w} {u} (one {i = i} h) = let k : i < u + 1 = omega arith in one k

length-end_pair : (w e : ℕ) (l : List ℕ) → length (end_pair w e l) ≡ length l
unfolding end_pair
length-end_pair zero e l = refl
length-end_pair (suc i) e l = length-set l (i * 2 + 1) e

pairs_of_end_pair : (w e : ℕ) (l : List ℕ) → pairs_of (end_pair w e l) ≡ pairs_of l
unfolding pairs_of
pairs_of_end_pair w e l = ap (λ (n : ℕ). n / 2) (length-end_pair w e l)

-- an end and a later pair go to different places
end_pair-set : {w u : ℕ} (e : ℕ) (l : List ℕ) (a b : ℕ) → Waits w u → set_pair (end_pair w e l) u a b ≡ end_pair w e (set_pair l u a b)
unfolding end_pair set_pair
end_pair-set {w} {u} e l a b none = refl
end_pair-set {w} {u} e l a b (one {i = i} h) =
    ap (λ (x : List ℕ). set x (u * 2 + 1) b) (set_comm l (i * 2 + 1) (u * 2) e a (λ (z : i * 2 + 1 ≡ u * 2). omega arith))
    ∙ set_comm (set l (u * 2) a) (i * 2 + 1) (u * 2 + 1) e b (λ (z : i * 2 + 1 ≡ u * 2 + 1). omega arith)

-- an end that is written before a visit might as well be written after it
module _ (w e : ℕ) where
  room_finish : (b : Bool) (t : Tally) (n : Node) → Waits w t.used → list_if_room b (finish w e t) n ≡ finish w e (list_if_room b t n)
  unfolding list_if_room finish
  room_finish true t n h =
      ap (λ (x : List ℕ). record { list = x; used = t.used + 1; peak = t.peak; stop = t.stop }) (end_pair-set e t.list n.first (end_of n) h)
  room_finish false t n h = refl

  picked_finish : (b : Bool) (t : Tally) (n : Node) → Waits w t.used → list_if_picked b (finish w e t) n ≡ finish w e (list_if_picked b t n)
  unfolding list_if_picked finish
  picked_finish true t n h =
      ap (λ (x : ℕ). list_if_room (ltb t.used x) (finish w e t) n) (pairs_of_end_pair w e t.list)
      ∙ room_finish (ltb t.used (pairs_of t.list)) t n h
  picked_finish false t n h = refl

  listed_finish : (b : Bool) (t : Tally) (n : Node) → Waits w t.used → listed b (finish w e t) n ≡ finish w e (listed b t n)
  unfolding listed list_from finish
  listed_finish b t n h = go t.stop
    where
      go : (s : ℕ) → list_from s b (finish w e t) n ≡ finish w e (list_from s b t n)
      go zero = picked_finish b t n h
      go (suc s) = refl

  pub raised_finish : (k : ℕ) (t : Tally) → raised k (finish w e t) ≡ finish w e (raised k t)
  unfolding raised raise_from finish
  raised_finish k t = go t.stop
    where
      go : (s : ℕ) → raise_from s k (finish w e t) ≡ finish w e (raise_from s k t)
      go zero = refl
      go (suc s) = refl

  put_finish : (t : Tally) (v : Visit State) → Waits w t.used → put (finish w e t) v ≡ finish w e (put t v)
  unfolding put
  put_finish t v h =
      let k : ℕ = container_frames v.node.value v.state.frames in
      ap (raised k) (listed_finish v.state.picked t v.node h) ∙ raised_finish k (listed v.state.picked t v.node)

  waits_listed : (b : Bool) (t : Tally) (n : Node) → Waits w t.used → Waits w (listed b t n).used
  unfolding listed list_from list_if_picked list_if_room
  waits_listed b t n h = go t.stop b (ltb t.used (pairs_of t.list))
    where
      room : (c : Bool) → Waits w (list_if_room c t n).used
      room true = waits_more h
      room false = h

      go : (s : ℕ) (b c : Bool) → Waits w (list_from s b t n).used
      go zero true c = room (ltb t.used (pairs_of t.list))
      go zero false c = h
      go (suc s) b c = h

  pub waits_raised : (k : ℕ) (t : Tally) → Waits w t.used → Waits w (raised k t).used
  unfolding raised raise_from
  waits_raised k t h = go t.stop
    where
      go : (s : ℕ) → Waits w (raise_from s k t).used
      go zero = h
      go (suc s) = h

  pub waits_put : (t : Tally) (v : Visit State) → Waits w t.used → Waits w (put t v).used
  unfolding put
  waits_put t v h =
      waits_raised (container_frames v.node.value v.state.frames) (listed v.state.picked t v.node)
      (waits_listed v.state.picked t v.node h)

  pub tallied_finish : (vs : List (Visit State)) (t : Tally) → Waits w t.used → tallied (finish w e t) vs ≡ finish w e (tallied t vs)
  unfolding tallied
  tallied_finish [] t h = refl
  tallied_finish (v ∷ vs) t h =
      ap (λ (x : Tally). tallied x vs) (put_finish t v h) ∙ tallied_finish vs (put t v) (waits_put t v h)

-- the pair that the first half takes is used from then on
pub waits_begun : (p : Bool) (t : Tally) (a : ℕ) → Waits (waiting p t) (begin p t a).used
unfolding waiting waiting_from waiting_if_picked waiting_if_room begin begin_from begin_if_picked begin_if_room
waits_begun p t a = go t.stop p
  where
    room : (b : Bool) → Waits (waiting_if_room b t.used) (begin_if_room b t a).used
    room true = let h : t.used < t.used + 1 = omega arith in one h
    room false = none

    go : (s : ℕ) (p : Bool) → Waits (waiting_from s p t) (begin_from s p t a).used
    go zero true = room (ltb t.used (pairs_of t.list))
    go zero false = none
    go (suc s) p = none

-- the two halves, one after the other, list the node
pub listed_halves : (p : Bool) (t : Tally) (n : Node) → listed p t n ≡ finish (waiting p t) (end_of n) (begin p t n.first)
unfolding listed list_from list_if_picked list_if_room set_pair finish end_pair waiting waiting_from waiting_if_picked waiting_if_room
    begin begin_from begin_if_picked begin_if_room
listed_halves p t n = go t.stop p
  where
    room : (b : Bool) → list_if_room b t n ≡ finish (waiting_if_room b t.used) (end_of n) (begin_if_room b t n.first)
    room true = refl
    room false = refl

    go : (s : ℕ) (p : Bool) → list_from s p t n ≡ finish (waiting_from s p t) (end_of n) (begin_from s p t n.first)
    go zero true = room (ltb t.used (pairs_of t.list))
    go zero false = refl
    go (suc s) p = refl

-- a node, and then the nodes below it: the first half, the nodes below, the second half
pub visit_halves : (t : Tally) (v : Visit State) (vs : List (Visit State))
    → tallied t (v ∷ vs)
    ≡ finish (waiting v.state.picked t) (end_of v.node)
    (tallied (raised (container_frames v.node.value v.state.frames) (begin v.state.picked t v.node.first)) vs)
unfolding tallied put
visit_halves t v vs =
    let w : ℕ = waiting v.state.picked t in
    let e : ℕ = end_of v.node in
    let k : ℕ = container_frames v.node.value v.state.frames in
    let b : Tally = begin v.state.picked t v.node.first in
    ap (λ (x : Tally). tallied (raised k x) vs) (listed_halves v.state.picked t v.node)
    ∙ ap (λ (x : Tally). tallied x vs) (raised_finish w e k b)
    ∙ tallied_finish w e vs (raised k b) (waits_raised w e k b (waits_begun v.state.picked t v.node.first))
