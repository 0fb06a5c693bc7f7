-- The answer to a query: what was read so far stands before what is still to be read, and the verdict is that of the whole.
-- Assumes nothing.
use Rattle.std.specs.Prelude.{Ok, Err}
use mathlib.Core.Path.{◌≡◌, refl, ap, sym, subst, ◌∙◌}
use mathlib.Core.Bool.{true, false≢true}
use mathlib.Core.List.{List, [], ◌∷◌, ◌++◌, map, append_assoc, append-nil}
use mathlib.Core.Logic.{◌⊎◌, inl, inr}
use Prim.Native.Nat.{ℕ, suc, ◌≤◌, ◌<◌}
use native.Mathlib.Omega.{arith}
use lib.ListN.{length, get_or, take, drop, length-append}
use Rattle.query_steps.specs.declared.Found.{Found}
use Rattle.query_parser.specs.declared.compiled.Compiled.{Compiled}
use Rattle.bits.specs.Bits.{bit}
use Rattle.bits.specs.Laws.{bit-zero, lt_or_ge}
use Rattle.encoding.specs.Verdict
use Rattle.encoding.specs.Verdict.{Verdict}
use Rattle.encoding.specs.Refusals.{refused}
use Rattle.encoding.specs.declared.refusals.Refusal.{Refusal}
use Rattle.query.specs.Steps.{Step}
use Rattle.query.specs.Machine.{root, done, place, start}
use Rattle.query.specs.Read.{Placed, named, Reading, good, bad, reading, steps_read}
use Rattle.query.proofs.Ended.{Ended, clean, cut, ended}
use Rattle.query.proofs.Place.{place_bad}
use Rattle.query_steps.specs.Reader.{placed_at, push, StepTaken, StepRefused}
use Rattle.query.specs.Verdict.{max_query_bytes, max_steps, decoded_step, steps_in, place_of, judged, overlong, query_verdict}
use Rattle.query.proofs.Says.{short_enough, too_long, early, few, too_many}
use Rattle.query.proofs.LongLaws.{overlong-take}
use Rattle.query_parser.specs.Compiles.{HeldTo, Decodes, Adds}
use Rattle.query_parser.specs.Holds.{Holds, no_steps_of}
use Rattle.query_parser.specs.Answer.{wrong_at, rest_of, overflow, QueryRead}
use Rattle.query_parser.proofs.Masks.{held_on}
use Rattle.query_parser.proofs.DeadBytes.{nothing_left, empty_at, other_at, root_at}

-- steps, and then what is still to be read
abbrev prepend : List Placed → Reading → Reading
prepend l (good a) = good (named [] (l ++ a.later))
prepend l (bad p) = bad p

prepend_none : {r : Reading} → Ended r → r ≡ prepend [] r
prepend_none (clean l) = refl
prepend_none (cut p) = refl

prepend_push : (l : List Placed) (x : Placed) (r : Reading) → prepend l (push x r) ≡ prepend (l ++ x ∷ []) r
prepend_push l x (good a) = ap (λ (k : List Placed). good (named [] k)) (sym (append_assoc l (x ∷ []) a.later))
prepend_push l x (bad p) = refl

abbrev steps_of : List Placed → List Step
steps_of l = map (λ (x : Placed). decoded_step x.step) l

steps_of_more : (l : List Placed) (x : Placed) → steps_of (l ++ x ∷ []) ≡ steps_of l ++ decoded_step x.step ∷ []
steps_of_more [] x = refl
steps_of_more (y ∷ l) x = ap (λ (k : List Step). decoded_step y.step ∷ k) (steps_of_more l x)

place_of_here : (l : List Placed) (x : Placed) (k : List Placed) → place_of (length l) (l ++ x ∷ k) ≡ x.place
place_of_here [] x k = refl
place_of_here (y ∷ l) x k = place_of_here l x k

length-steps : (l : List Placed) → length (steps_of l) ≡ length l
length-steps [] = refl
length-steps (x ∷ l) = ap suc (length-steps l)

-- refusals

refused_answer : {q names : List ℕ} {r : Refusal} → query_verdict q ≡ refused r → QueryRead q names (Err r)
refused_answer e = record { verdict = sym e; steps = tt }

-- more than 1,024 bytes: the first 1,024 decide
pub long_answer : {q names : List ℕ} {r : Refusal} → max_query_bytes < length q → refused r ≡ overlong (place start (take max_query_bytes q))
    → QueryRead q names (Err r)
long_answer {q} h f = refused_answer (too_long q h ∙ sym (overlong-take q) ∙ sym f)

bad_answer : {q names : List ℕ} {p : ℕ} {r : Refusal} → length q ≤ max_query_bytes → reading root 0 q ≡ bad p → r ≡ wrong_at p → QueryRead q names (Err r)
unfolding judged
bad_answer {q} l e f = refused_answer (short_enough q l ∙ ap judged e ∙ ap refused (sym f))

-- the first byte: dead, it decides, however long the query is

first_answer : {q names : List ℕ} {r : Refusal} → reading root 0 q ≡ bad 0 → r ≡ wrong_at 0 → QueryRead q names (Err r)
unfolding judged
first_answer {q} e f = refused_answer (go (lt_or_ge max_query_bytes (length q)) ∙ ap refused (sym f))
  where
    go : (max_query_bytes < length q) ⊎ (length q ≤ max_query_bytes) → query_verdict q ≡ Verdict.refused 2 0
    go (inl h) = too_long q h ∙ ap overlong (place_bad q e) ∙ early 0 (omega arith)
    go (inr l) = short_enough q l ∙ ap judged e

pub empty_answer : {q names : List ℕ} {r : Refusal} → length q ≡ 0 → r ≡ wrong_at 0 → QueryRead q names (Err r)
empty_answer {q} h f = first_answer (empty_at q h) f

pub other_answer : {q names : List ℕ} {r : Refusal} → (length q ≡ 0 → ⊥) → (get_or q 0 0 ≡ 0x24 → ⊥) → r ≡ wrong_at 0 → QueryRead q names (Err r)
other_answer {q} n g f = first_answer (other_at q n g) f

-- the steps read so far, with their names among the names, and the place where reading goes on
pub record SoFar (q names : List ℕ) (c : Compiled) (i : ℕ) : Type 0 where
  pub short : length q ≤ max_query_bytes
  pub within : i ≤ length q
  pub before : List Placed
  pub held : HeldTo names i (steps_of before) c
  pub reads : reading root 0 q ≡ prepend before (reading done i (drop i q))

-- no bit is set
none_on : {X : Type 0} (i : ℕ) → bit i 0 ≡ true → X
none_on i h = absurd (false≢true (sym (bit-zero i) ∙ h))

held_none : (names : List ℕ) (n : ℕ) → HeldTo names n [] no_steps_of
held_none names n = record {
  holds = record {
    fits = record { few = omega arith; operands_length = refl; order = λ i h. none_on i h; within = λ i h. none_on i h };
    count = refl;
    deep = bit-zero;
    every = bit-zero;
    named = bit-zero;
    positioned = bit-zero;
    name = λ i h. none_on i h;
    position = λ i h. none_on i h;
  };
  ends = λ i h. none_on i h;
}

pub begin_so_far : {q names : List ℕ} {c : Compiled} → length q ≤ max_query_bytes → (length q ≡ 0 → ⊥) → get_or q 0 0 ≡ 0x24 → c ≡ no_steps_of
    → SoFar q names c 1
begin_so_far {q} {names} {c} l n e f = record {
  short = l;
  within = omega arith;
  before = [];
  held = subst (HeldTo names 1 []) (sym f) (held_none names 1);
  reads = root_at q n e ∙ prepend_none (ended 1 (drop 1 q));
}

module _ {q names : List ℕ} {c : Compiled} {i : ℕ} (s : SoFar q names c i) where
  pub so_far_more : {f : Found} {m : ℕ} {after : List ℕ} {a : ℕ} {d : Compiled} → StepTaken q i f m → Decodes q f names after a → Adds c f a d →
      SoFar q after d m
  so_far_more {f} {m} {after} {a} {d} t w more = record {
    short = s.short;
    within = t.within;
    before = s.before ++ placed_at q f ∷ [];
    held =
        subst (λ (x : List Step). HeldTo after m x d) (sym (steps_of_more s.before (placed_at q f)))
        (more.held (omega (arith, s.short, t.within)) (held_on (omega (arith, t.on)) (w.stays t) s.held) (w.compiles t));
    reads = s.reads ∙ ap (prepend s.before) t.reads ∙ prepend_push s.before (placed_at q f) (reading done m (drop m q));
  }

  pub so_far_refused : {p : ℕ} {r : Refusal} → StepRefused q i p → r ≡ wrong_at p → QueryRead q names (Err r)
  so_far_refused t f = bad_answer s.short (s.reads ∙ ap (prepend s.before) t.reads) f

  -- the query ends
  pub so_far_end : length q ≤ i → QueryRead q names (Ok c)
  unfolding judged steps_in
  so_far_end h =
      let l = s.before in
      let e : reading root 0 q ≡ good (named [] l) = s.reads ∙ ap (prepend l) (nothing_left q i h) ∙
      ap (λ (k : List Placed). good (named [] k)) (append-nil l) in
      let v : query_verdict q ≡ Verdict.taken =
      short_enough q s.short ∙ ap judged e ∙ few l (omega (arith, s.held.holds.fits.few, s.held.holds.count, length-steps l)) in
      let x : steps_in q ≡ steps_of l = ap (λ (r : Reading). steps_of (steps_read r)) e in
      record { verdict = sym v; steps = subst (λ (k : List Step). Holds names k c.kinds c.operands) (sym x) s.held.holds }

  -- a 17th step stands there
  pub so_far_many : {f : Found} {m : ℕ} {a : Refusal} → StepTaken q i f m → c.kinds.count ≡ max_steps →
      a ≡ overflow f.place (rest_of (reading done m (drop m q))) → QueryRead q names (Err a)
  unfolding judged
  so_far_many {f} {m} {a} t n g = go (reading done m (drop m q)) (s.reads ∙ ap (prepend s.before) t.reads) g
    where
      go : (r : Reading) → reading root 0 q ≡ prepend s.before (push (placed_at q f) r) → a ≡ overflow f.place (rest_of r) → QueryRead q names (Err a)
      go (good b) e g =
          let l = s.before in
          let k : List Placed = l ++ placed_at q f ∷ b.later in
          let z : length l ≡ max_steps = sym (length-steps l) ∙ sym s.held.holds.count ∙ n in
          refused_answer
          (short_enough q s.short ∙ ap judged e ∙ too_many k (omega (arith, length-append l (placed_at q f ∷ b.later))) ∙
          ap (Verdict.refused 3) (ap (λ (j : ℕ). place_of j k) (sym z) ∙ place_of_here l (placed_at q f) b.later) ∙ ap refused (sym g))
      go (bad p) e g = bad_answer s.short e g
