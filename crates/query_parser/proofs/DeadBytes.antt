-- The dead byte of a query, by the steps that stand in it: what is read behind a step tells of the query from that step on.
-- Assumes nothing.
use Rattle.std.specs.Prelude.{Ok, Err}
use mathlib.Core.Path.{◌≡◌, refl, ap, sym, ◌∙◌}
use mathlib.Core.List.{List, []}
use Prim.Native.Nat.{ℕ, ◌≤◌}
use native.Mathlib.Omega.{arith}
use lib.ListN.{length, get_or, drop, drop_of_length-le}
use Rattle.query_steps.specs.declared.Found.{Found}
use Rattle.encoding.specs.declared.Dead.{Dead}
use Rattle.query.specs.Machine as M
use Rattle.query.specs.Machine.{root, done, dead, pick, step, place, start}
use Rattle.query.specs.MachineLaws.{miss_only}
use Rattle.query.specs.Read.{Placed, named, Reading, good, bad, reading}
use Rattle.query.proofs.At.{end_at, stop_at, kept_at}
use Rattle.query.proofs.Place.{place_bad, place_good}
use Rattle.query_steps.specs.Reader.{placed_at, push, StepTaken, StepRefused}
use Rattle.query_parser.specs.Answer.{rest_of}

-- steps were passed over, from n up to i
pub record RestFrom (q : List ℕ) (n i : ℕ) : Type 0 where
  pub within : i ≤ length q
  pub same : rest_of (reading done n (drop n q)) ≡ rest_of (reading done i (drop i q))

rest_push : (x : Placed) (r : Reading) → rest_of (push x r) ≡ rest_of r
rest_push x (good a) = refl
rest_push x (bad p) = refl

-- nothing is left to read
pub nothing_left : (q : List ℕ) (i : ℕ) → length q ≤ i → reading done i (drop i q) ≡ good (named [] [])
unfolding reading
nothing_left q i h = ap (reading done i) (drop_of_length-le q h)

module _ {q : List ℕ} {n i : ℕ} (s : RestFrom q n i) where
  pub rest_on : {f : Found} {m : ℕ} → StepTaken q i f m → RestFrom q n m
  rest_on {f} {m} t = record {
    within = t.within;
    same = s.same ∙ ap rest_of t.reads ∙ rest_push (placed_at q f) (reading done m (drop m q));
  }

  pub rest_refused : {p : ℕ} → StepRefused q i p → Err (record { at = p }) ≡ rest_of (reading done n (drop n q))
  rest_refused t = sym (s.same ∙ ap rest_of t.reads)

  pub rest_end : length q ≤ i → Ok tt ≡ rest_of (reading done n (drop n q))
  rest_end h = sym (s.same ∙ ap rest_of (nothing_left q i h))

-- the first byte

pub empty_at : (q : List ℕ) → length q ≡ 0 → reading root 0 q ≡ bad 0
empty_at q h = end_at root q 0 (omega arith) refl

no_root : (b : ℕ) → (b ≡ 0x24 → ⊥) → step (M.at root) b ≡ dead
unfolding step pick
no_root b f = miss_only 0x24 done [] b f

pub other_at : (q : List ℕ) → (length q ≡ 0 → ⊥) → (get_or q 0 0 ≡ 0x24 → ⊥) → reading root 0 q ≡ bad 0
other_at q n g = stop_at root q 0 (omega arith) (no_root (get_or q 0 0) g)

root_leads : step (M.at root) 0x24 ≡ M.at done
unfolding step
root_leads = refl

pub root_at : (q : List ℕ) → (length q ≡ 0 → ⊥) → get_or q 0 0 ≡ 0x24 → reading root 0 q ≡ reading done 1 (drop 1 q)
root_at q n e = kept_at root q 0 (omega arith) done (ap (step (M.at root)) e ∙ root_leads) refl

-- the place of the dead byte

pub empty_place : (q : List ℕ) → length q ≡ 0 → 0 ≡ place start q
empty_place q h = sym (place_bad q (empty_at q h))

pub other_place : (q : List ℕ) → (length q ≡ 0 → ⊥) → (get_or q 0 0 ≡ 0x24 → ⊥) → 0 ≡ place start q
other_place q n g = sym (place_bad q (other_at q n g))

module _ (q : List ℕ) (n : length q ≡ 0 → ⊥) (e : get_or q 0 0 ≡ 0x24) where
  by_rest : rest_of (reading done 1 (drop 1 q)) ≡ rest_of (reading root 0 q)
  by_rest = ap rest_of (sym (root_at q n e))

  pub whole_place : Ok tt ≡ rest_of (reading done 1 (drop 1 q)) → length q ≡ place start q
  whole_place f = go (reading root 0 q) refl (f ∙ by_rest)
    where
      go : (x : Reading) → reading root 0 q ≡ x → Ok tt ≡ rest_of x → length q ≡ place start q
      go (good a) g h = sym (place_good q g)
      go (bad p) g h = cc

  pub dead_place_is : {d : Dead} → Err d ≡ rest_of (reading done 1 (drop 1 q)) → d.at ≡ place start q
  dead_place_is {d} f = go (reading root 0 q) refl (f ∙ by_rest)
    where
      go : (x : Reading) → reading root 0 q ≡ x → Err d ≡ rest_of x → d.at ≡ place start q
      go (good a) g h = cc
      go (bad p) g h = let z : d.at ≡ p = cc in z ∙ sym (place_bad q g)
