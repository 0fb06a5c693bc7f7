-- The first bracket that opens a level too many, against the dead byte. Up to that bracket the machine in the room is where the machine
-- without a limit is, and no byte before it is dead; so of the two places the smaller decides between grounds 5 and 6. Assumes nothing.
use Rattle.std.specs.Prelude.{◌≡◌, refl, List, [], ◌↔◌, ℕ, zero, suc, ◌≤◌, ◌<◌, take, length, get_or}
use Rattle.std.proofs.Common.{sym, ◌∙◌, le_antisymm, take_all}
use native.Mathlib.Omega.{arith, by_contra, not-le}
use Rattle.encoding.specs.Prefix.{Alive, DeadPlace}
use Rattle.encoding.specs.PrefixLaws.{alive_less}
use Rattle.json_text.specs.Grammar.{JsonText, Nested}
use Rattle.json_text.specs.Room.{Room, left, endless}
use Rattle.json_text.specs.Machine.{Ctl, value_due, Stack, State, dead, at, step, run, start}
use Rattle.json_text.specs.MachineLaws.{Freed, both_dead, alike, no_room, step_freed}
use Rattle.json_text.proofs.RunLaws.{run_more, alive_run, dead_run_alive}
use Rattle.json_text.specs.Verdict.{OpensBeyond}

-- the machine with room for n levels and the machine without a limit, over the bytes of s before place i
pub record Along (n : ℕ) (s : List ℕ) (i : ℕ) : Type 0 where
  pub control : Ctl
  pub stack : Stack
  pub room : Room
  pub roomy : run (start (left n)) (take i s) ≡ at control stack room
  pub free : run (start endless) (take i s) ≡ at control stack endless

unfoldable pub along_start : (n : ℕ) (s : List ℕ) → Along n s 0
unfolding run
along_start n s = record { control = value_due; stack = []; room = left n; roomy = refl; free = refl }

-- what can begin so far, in the room and without a limit
pub along_nested : {n : ℕ} {s : List ℕ} {i : ℕ} → Along n s i → Alive (Nested n) (take i s)
along_nested {n} {s} {i} a = alive_run (left n) (take i s) a.control a.stack a.room a.roomy

pub along_text : {n : ℕ} {s : List ℕ} {i : ℕ} → Along n s i → Alive JsonText (take i s)
along_text {n} {s} {i} a = alive_run endless (take i s) a.control a.stack endless a.free

-- what the byte at place i does to both
pub data Goes (n : ℕ) (s : List ℕ) (i : ℕ) : State → State → Type 0 where
  on : (a : Along n s (suc i)) → Goes n s i (at a.control a.stack a.room) (at a.control a.stack endless)
  opens : {c : Ctl} {k : Stack} → OpensBeyond n s i → Goes n s i dead (at c k endless)
  dies : (Alive JsonText (take (suc i) s) → ⊥) → Goes n s i dead dead

pub goes : {n : ℕ} {s : List ℕ} {i : ℕ} (a : Along n s i) → i < length s →
    Goes n s i (step (at a.control a.stack a.room) (get_or s i 0)) (step (at a.control a.stack endless) (get_or s i 0))
goes {n} {s} {i} a h = by _ _ refl refl (step_freed a.control a.stack a.room (get_or s i 0))
  where
    roomy : (st : State) → step (at a.control a.stack a.room) (get_or s i 0) ≡ st → run (start (left n)) (take (suc i) s) ≡ st
    roomy st e = run_more (start (left n)) s i h ∙ rw (a.roomy, e) refl

    free : (st : State) → step (at a.control a.stack endless) (get_or s i 0) ≡ st → run (start endless) (take (suc i) s) ≡ st
    free st e = run_more (start endless) s i h ∙ rw (a.free, e) refl

    by : (st st' : State) → step (at a.control a.stack a.room) (get_or s i 0) ≡ st →
        step (at a.control a.stack endless) (get_or s i 0) ≡ st' → Freed (get_or s i 0) st st' → Goes n s i st st'
    by _ _ e f both_dead = dies (dead_run_alive endless (take (suc i) s) (free dead f))
    by _ _ e f (alike {c} {k} {ρ}) =
        on (record { control = c; stack = k; room = ρ; roomy = roomy (at c k ρ) e; free = free (at c k endless) f })
    by _ _ e f (no_room {c} {k} x o) =
        opens
        record {
          kind = x;
          bracket = o;
          allowed = alive_run endless (take (suc i) s) c k endless (free (at c k endless) f);
          before = along_nested a;
          beyond = dead_run_alive (left n) (take (suc i) s) (roomy dead e);
        }

-- the bracket stands in the text
pub opens_inside : {n : ℕ} {s : List ℕ} {p : ℕ} → OpensBeyond n s p → p < length s
opens_inside {n} {s} {p} o =
    not-le (length s) p
    (λ l.
    let same : take p s ≡ take (suc p) s = take_all p s l ∙ sym (take_all (suc p) s (omega arith)) in
    o.beyond (rw same at o.before))

-- ground 5 has no place up to the bracket
pub opens_early : {n : ℕ} {s : List ℕ} {p q : ℕ} → OpensBeyond n s p → DeadPlace JsonText s q → p < q
opens_early {n} {s} {p} {q} o d =
    not-le q p (λ h. d.dead (omega (arith, opens_inside o)) (alive_less JsonText s (suc q) (suc p) (omega arith) o.allowed))

-- a text has one such bracket
pub opens_once : {n : ℕ} {s : List ℕ} {p q : ℕ} → OpensBeyond n s p → OpensBeyond n s q → p ≡ q
opens_once {n} {s} {p} {q} x y = le_antisymm (no_later q p y x) (no_later p q x y)
  where
    no_later : (i j : ℕ) → OpensBeyond n s i → OpensBeyond n s j → j ≤ i
    no_later i j x y = by_contra j i (λ h. x.beyond (alive_less (Nested n) s (suc i) j h y.before))

-- no bracket before the place p opens a level too many
abbrev pub NoneOpens : ℕ → List ℕ → ℕ → Type 0
NoneOpens n s p = (r : ℕ) → r < p → OpensBeyond n s r → ⊥

pub none_opens : {n : ℕ} {s : List ℕ} {p : ℕ} → Alive (Nested n) (take p s) → NoneOpens n s p
none_opens {n} {s} {p} a r h o = o.beyond (alive_less (Nested n) s (suc r) p h a)

-- before the dead byte none does exactly if a text that nests at most n deep can begin up to it
pub none_opens_alive : {n : ℕ} {s : List ℕ} {p : ℕ} → DeadPlace JsonText s p → (Alive (Nested n) (take p s)) ↔ NoneOpens n s p
none_opens_alive {n} {s} {p} d = (none_opens, λ f. along_nested (along f p (omega arith)))
  where
    next : (i : ℕ) → i < p → NoneOpens n s p → (st st' : State) → Goes n s i st st' → Along n s (suc i)
    next i h f _ _ (on a) = a
    next i h f _ _ (opens o) = absurd (f i h o)
    next i h f _ _ (dies x) = absurd (x (d.before i h))

    along : NoneOpens n s p → (i : ℕ) → i ≤ p → Along n s i
    along f zero h = along_start n s
    along f (suc i) h = next i h f _ _ (goes (along f i (omega arith)) (omega (arith, d.within)))
