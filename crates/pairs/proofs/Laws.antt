-- What each way through the functions comes to: the definitions computed at what the tests have shown. Assumes nothing.
use Rattle.std.specs.Prelude.{Option, Some, None, is_some}
use mathlib.Core.Path.{◌≡◌, refl, sym, ap, ◌∙◌}
use mathlib.Core.Bool.{Bool, true, false, true≢false, false≢true}
use mathlib.Core.List.{List}
use Prim.Native.Nat.{ℕ, suc, ◌+◌, ◌*◌, ◌/◌, ◌≤◌, ◌<◌, max}
use native.Mathlib.Numerals.{add-one}
use native.Mathlib.Omega.{arith}
use borrow.Author.Tests.{lt-ltb, le-ltb, ltb-true, ltb-false}
use lib.Dec.{ltb}
use lib.ListN.{length, set}
use lib.Seq.{set_out}
use Rattle.answers.specs.Lister.{pairs_of}
use Rattle.automaton.specs.Tally.{raise_from, raised}
use Rattle.automaton.specs.Halves.{begin_if_room, begin_if_picked, begin_from, begin, waiting_if_room, waiting_if_picked, waiting_from, waiting, end_pair}
use Rattle.pairs.specs.declared.Counts.{Counts}
use Rattle.pairs.specs.declared.Half.{Half}
use Rattle.pairs.specs.declared.Half.TheVariants.{First, End}
use Rattle.pairs.specs.Pairs.{tally, plus_one, half_at, Writes, Begins, Raises}

module _ (l : List ℕ) (p : ℕ) (h : Half) (x : ℕ) where
  pub writes_out : length l / 2 ≤ p → Writes l p h x l
  unfolding pairs_of
  writes_out o = record { inside = λ i. absurd (omega (arith, o, i)); outside = λ _. refl }

  pub writes_in : {slot : ℕ} → p < length l / 2 → slot ≡ p * 2 + half_at h → Writes l p h x (set l slot x)
  unfolding pairs_of
  writes_in i e = record { inside = λ _. ap (λ (n : ℕ). set l n x) e; outside = λ o. absurd (omega (arith, o, i)) }

-- numbers that a walk counts
abbrev counts : (used peak : ℕ) → Option ℕ → Counts
counts u k o = record { used = u; peak = k; stop = o }

module _ (p : Bool) (l : List ℕ) (u k a : ℕ) where
  pub begins_stopped : (o : Option ℕ) → is_some o ≡ true → Begins p l (counts u k o) a l (counts u k o) None
  unfolding begin begin_from waiting waiting_from
  begins_stopped None e = absurd (false≢true e)
  begins_stopped (Some s) e = record { begun = refl; waits = refl }

  pub begins_passed : (o : Option ℕ) → is_some o ≡ false → p ≡ false → Begins p l (counts u k o) a l (counts u k o) None
  unfolding begin begin_from begin_if_picked waiting waiting_from waiting_if_picked
  begins_passed None e f = rw f (record { begun = refl; waits = refl })
  begins_passed (Some s) e f = absurd (true≢false e)

  pub begins_full : (o : Option ℕ) → is_some o ≡ false → p ≡ true → length l / 2 ≤ u
      → Begins p l (counts u k o) a l (counts u k (Some a)) None
  unfolding begin begin_from begin_if_picked begin_if_room waiting waiting_from waiting_if_picked waiting_if_room pairs_of
  begins_full (Some s) e f h = absurd (true≢false e)
  begins_full None e f h =
      let b : ltb u (length l / 2) ≡ false = le-ltb u (length l / 2) h in
      rw f
      (record {
        begun = ap (λ (x : Bool). begin_if_room x (tally l u k 0) a) b ∙ ap (λ (x : ℕ). tally l u k x) (add-one a);
        waits = ap (λ (x : Bool). waiting_if_room x u) b;
      })

  pub begins_room : (o : Option ℕ) {l' : List ℕ} → is_some o ≡ false → p ≡ true → u < length l / 2 → Writes l u First a l'
      → Begins p l (counts u k o) a l' (counts (u + 1) k o) (Some u)
  unfolding begin begin_from begin_if_picked begin_if_room waiting waiting_from waiting_if_picked waiting_if_room pairs_of
  begins_room (Some s) e f h w = absurd (true≢false e)
  begins_room None e f h w =
      let b : ltb u (length l / 2) ≡ true = lt-ltb u (length l / 2) h in
      let z : u * 2 + 0 ≡ u * 2 = omega arith in
      rw (f, w.inside h, z)
      (record {
        begun = ap (λ (x : Bool). begin_if_room x (tally l u k 0) a) b;
        waits = ap (λ (x : Bool). waiting_if_room x u) b;
      })

-- where no pair waits nothing is written; and the second number of a pair that the list does not have is none of the list
pub ends_none : (e : ℕ) (l : List ℕ) → l ≡ end_pair (plus_one None) e l
unfolding end_pair
ends_none e l = refl

pub ends_pair : (w e : ℕ) (l : List ℕ) {l' : List ℕ} → Writes l w End e l' → l' ≡ end_pair (plus_one (Some w)) e l
unfolding end_pair pairs_of
ends_pair w e l {l'} y = by (ltb w (length l / 2)) refl
  where
    by : (b : Bool) → ltb w (length l / 2) ≡ b → l' ≡ end_pair (suc w) e l
    by true q = y.inside (ltb-true w (length l / 2) q)
    by false q =
        let o = ltb-false w (length l / 2) q in
        y.outside o ∙ sym (set_out l (w * 2 + 1) e (omega (arith, o)))

module _ (u k f : ℕ) where
  pub raises_stopped : (o : Option ℕ) → is_some o ≡ true → Raises (counts u k o) f (counts u k o)
  unfolding raised raise_from
  raises_stopped None e = absurd (false≢true e)
  raises_stopped (Some s) e = record { raises = λ l. refl }

  pub raises_to : (o : Option ℕ) {r : ℕ} → is_some o ≡ false → r ≡ max k f → Raises (counts u k o) f (counts u r o)
  unfolding raised raise_from
  raises_to None e g = record { raises = λ l. ap (λ (x : ℕ). tally l u x 0) (sym g) }
  raises_to (Some s) e g = absurd (true≢false e)
