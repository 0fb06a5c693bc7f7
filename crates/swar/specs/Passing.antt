-- Laws of runs: how a run goes on, and where it ends.
use Rattle.std.specs.Prelude.{◌≡◌, List, Bool, true, false, ℕ, ◌+◌, ◌-◌, ◌≤◌, ◌<◌, length, get_or}
use Rattle.std.proofs.Common.{ap, sym, ◌∙◌, ⊎_elim, arith, Fits, w8, drop, length-drop}
use Rattle.std.specs.List.{prefix_len}
use Rattle.std.proofs.lemmas.List.{get_or-drop}
use Rattle.std.proofs.lemmas.List.Sums.{prefix_len-le-length, prefix_len_passes, prefix_len_stops}
use Rattle.bits.specs.Laws.{lt_or_ge}
use Rattle.bits.specs.Word.{Loaded}
use Rattle.lanes.specs.Stops.{Stops, FirstByte, first_within, stops_none, stops_before, stops_at}
use Rattle.swar.specs.Run.{Passed, Run}

module _ {kind : ℕ → Bool} {s : List ℕ} where
  -- nothing is passed yet
  pub at_start : {from : ℕ} → from ≤ length s → Passed kind s from from
  at_start h = record { forward = omega arith; within = h; each = λ j p q. absurd (omega arith) }

  -- one stretch and then another
  pub passed_on : {from mid to : ℕ} → Passed kind s from mid → Passed kind s mid to → Passed kind s from to
  passed_on {from} {mid} {to} p q =
      record {
        forward = omega (arith, p.forward, q.forward);
        within = q.within;
        each = λ j l h. ⊎_elim (λ (a : j < mid). p.each j l a) (λ (a : mid ≤ j). q.each j a h) (lt_or_ge j mid);
      }

  -- n bytes more
  pub passed_more :
      {from i : ℕ} (n : ℕ) → Passed kind s from i → i + n ≤ length s → ((j : ℕ) → j < n → kind (get_or s (i + j) 0) ≡ true) →
      Passed kind s from (i + n)
  passed_more {from} {i} n p h each =
      passed_on p
      (record {
        forward = omega arith;
        within = h;
        each = λ j l r. let e : i + (j - i) ≡ j = omega arith in ap (λ (x : ℕ). kind (get_or s x 0)) (sym e) ∙ each (j - i) (omega arith);
      })

  pub one_more : {from i : ℕ} → Passed kind s from i → i < length s → kind (get_or s i 0) ≡ true → Passed kind s from (i + 1)
  one_more {from} {i} p h e =
      passed_more 1 p (omega arith)
      (λ j l. let z : i + j ≡ i = omega arith in ap (λ (x : ℕ). kind (get_or s x 0)) z ∙ e)

  -- the run ends
  pub ends_at : {from to : ℕ} → Passed kind s from to → kind (get_or s to 0) ≡ false → Run kind s from to
  ends_at p e = record { passed = p; stop = λ h. e }

  pub ends_all : {from to : ℕ} → Passed kind s from to → length s ≤ to → Run kind s from to
  ends_all p h = record { passed = p; stop = λ l. absurd (omega arith) }

  pub run_on : {from mid to : ℕ} → Passed kind s from mid → Run kind s mid to → Run kind s from to
  run_on p r = record { passed = passed_on p r.passed; stop = r.stop }

-- eight bytes from place i on that are told at once
module _ {kind : ℕ → Bool} {s : List ℕ} {from i x w : ℕ} (fits : (j : ℕ) → Fits w8 (get_or s j 0)) (l : Loaded 8 s i x) (m : Stops kind x w)
    (p : Passed kind s from i) (h : i + 8 ≤ length s) where
  small : (j : ℕ) → get_or s j 0 < 256
  small j = omega (arith, fits j)

  -- all of them
  pub passed_eight : w ≡ 0 → Passed kind s from (i + 8)
  passed_eight z = passed_more 8 p h (stops_none small l m z)

  module _ {n : ℕ} (first : FirstByte w n) where
    -- those before the first that is marked
    pub passed_first : Passed kind s from (i + n)
    passed_first = passed_more n p (omega (arith, first_within first)) (stops_before small l m first)

    pub ends_first : (w ≡ 0 → ⊥) → Run kind s from (i + n)
    ends_first some = ends_at passed_first (stops_at small l m first some)

-- as many bytes as are of the kind one after another
pub run_prefix : {kind : ℕ → Bool} {s : List ℕ} {at : ℕ} → at ≤ length s → Run kind s at (at + prefix_len kind (drop at s))
run_prefix {kind} {s} {at} h =
    let rest = drop at s in
    let left : length rest ≡ length s - at = length-drop at s in
    let all : prefix_len kind rest ≤ length s - at = omega (arith, prefix_len-le-length kind rest) in
    record {
      passed = passed_more (prefix_len kind rest) (at_start h) (omega arith) (λ j l. rw (← get_or-drop at s j 0) (prefix_len_passes kind rest j 0 l));
      stop = λ l. rw (← get_or-drop at s (prefix_len kind rest) 0) (prefix_len_stops kind rest 0 (omega arith));
    }

-- what is of one kind is of another
pub passed_as :
    {kind other : ℕ → Bool} {s : List ℕ} {from to : ℕ} → ((b : ℕ) → kind b ≡ true → other b ≡ true) →
    Passed kind s from to → Passed other s from to
passed_as {s} f p = record { forward = p.forward; within = p.within; each = λ j l h. f (get_or s j 0) (p.each j l h) }
