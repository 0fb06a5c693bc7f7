-- Where the moves lead, and what is ahead after them. Assumes nothing.
use Rattle.std.specs.Prelude.{◌≡◌, Option, ℕ, ◌+◌, ◌<◌, ◌≤◌, false, List, refl}
use Rattle.std.proofs.lemmas.Bool.{false≢true}
use Rattle.std.proofs.Common.{true≢false, arith}
use Rattle.json_text.specs.Verdict.{max_depth}
use Rattle.query.specs.Steps.{Step}
use Rattle.automaton.specs.Tally.{Tally}
use Rattle.automaton.specs.Halves.{finish}
use Rattle.pairs.specs.Pairs.{plus_one}
use Rattle.pile.specs.declared.Pile.{Pile}
use Rattle.pile.specs.Pile.{kept, ValuePassed, ItemDue}
use Rattle.pile.specs.Moves.{Lost, PassedTo, EnteredAt}
use Rattle.pile.specs.Due.{tally_at, Due, Onward}
use Rattle.walk.specs.declared.Coming.{Coming}
use Rattle.pile.specs.declared.Standing.{Standing}

-- where the steps lead
pub onward_lost : {n i j : ℕ} {a r : Standing} → Lost j a r → i ≤ j + 1 → j ≤ n → a.frames ≤ max_depth → Onward n i r
onward_lost y h g k =
    rw y.is
    (record {
      onward = omega arith;
      farther = λ e. absurd (false≢true e);
      within = omega arith;
      inside = λ e. absurd (e refl);
      in_container = λ e. absurd (false≢true e);
      room = omega arith;
      few = k;
    })

pub onward_passed : {n i e : ℕ} {w : Option ℕ} {l l' : List ℕ} {a r : Standing} → PassedTo l l' w e a r → i ≤ e → e ≤ n → a.depth ≤ max_depth
    → a.frames ≤ max_depth → Onward n i r
onward_passed y h g k j =
    rw y.is
    (record {
      onward = h;
      farther = λ e. absurd (false≢true e);
      within = omega arith;
      inside = λ e. g;
      in_container = λ e. absurd (false≢true e);
      room = k;
      few = j;
    })

pub lost_farther : {i : ℕ} {a r : Standing} → Lost i a r → i < r.at
lost_farther y = rw y.is (omega arith)

pub passed_farther : {i e : ℕ} {w : Option ℕ} {l l' : List ℕ} {a r : Standing} → PassedTo l l' w e a r → i < e → i < r.at
passed_farther y h = rw y.is h

-- no item is ahead then
pub lost_item : {i : ℕ} {a r : Standing} → Lost i a r → r.item ≡ false
lost_item y = rw y.is

pub passed_item : {e : ℕ} {w : Option ℕ} {l l' : List ℕ} {a r : Standing} → PassedTo l l' w e a r → r.item ≡ false
passed_item y = rw y.is

pub onward_entered : {n b c f : ℕ} {w : Option ℕ} {z z' : Pile} {v : Coming} {a r : Standing} → EnteredAt z z' b c w f v a r → v.at < c → c ≤ n
    → a.depth < max_depth → f ≤ max_depth → Onward n v.at r
onward_entered y g h k e =
    rw y.is
    (record {
      onward = omega arith;
      farther = λ e. omega arith;
      within = omega arith;
      inside = λ e. omega arith;
      in_container = λ e. λ e. absurd (omega arith);
      room = omega arith;
      few = e;
    })

module _ {x : List Step} {s : List ℕ} {whole : Tally} where
  -- a value has been passed
  pub due_passed : {z : Pile} {l l' : List ℕ} {w : Option ℕ} {e : ℕ} {a r : Standing} → PassedTo l l' w e a r
      → ValuePassed x s whole z e (finish (plus_one w) e (tally_at l a)) a.depth a.frames a.marks → Due x s whole z l' r
  unfolding finish
  due_passed y p =
      rw (y.is, y.list_is) (record { root = λ e. absurd (false≢true e); item = λ e. absurd (false≢true e); passed = λ e. p })

  -- a container has been entered
  pub due_entered : {z z' : Pile} {l : List ℕ} {b c f : ℕ} {w : Option ℕ} {v : Coming} {a r : Standing} → EnteredAt z z' b c w f v a r
      → ItemDue x s whole (kept z a.frames a.depth a.marks w b) c (tally_at l a) (a.depth + 1) f v.marks → Due x s whole z' l r
  due_entered y p =
      rw (y.is, y.pile_is) (record { root = λ e g. absurd (omega arith); item = λ e g. p; passed = λ e. absurd (true≢false e) })
