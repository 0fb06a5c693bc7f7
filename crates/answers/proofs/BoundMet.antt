-- The bounds of change request S-6 are reached: by objects of one member, one in the other. Where all are named `a`, steps that ask for `a`
-- hit them one by one; where they are named `a` and `b` by turns, `$..a.b` looks for `b` in every second one. Assumes nothing.
use Rattle.std.specs.Prelude.{◌≡◌, ◌⊎◌, Bool, false, not}
use Rattle.std.proofs.Math.Path.{refl, ap, subst}
use Rattle.std.proofs.Common.{sym, ◌∙◌, inl, inr, length-append}
use mathlib.Core.List.Memᴰ
use mathlib.Core.List.{List, [], ◌∷◌, ◌++◌, Memᴰ}
use Rattle.std.proofs.Math.Bool.{true}
use Prim.Native.Nat.{ℕ, zero, suc, ◌+◌, ◌-◌, ◌*◌, ◌≤◌, ◌<◌}
use native.Mathlib.Omega.{arith}
use Rattle.std.proofs.Math.ListN.{length, get_elem?}
use Rattle.json_text.specs.Grammar.{Char, put_chars, put_value, nesting}
use Rattle.json_text.specs.Grammar as J
use Rattle.json_text.specs.Points.{points_of}
use Rattle.query.specs.Grammar.{Depth, Query, put_query, segment_step, steps_of}
use Rattle.query.specs.Grammar as Q
use Rattle.query.specs.Steps.{Step}
use Rattle.query.specs.Steps as S
use Rattle.query.specs.Verdict.{max_steps}
use Rattle.json_text.specs.Verdict.{max_depth}
use Rattle.select.specs.Nodes.{Label, Node, key_size, children, IsChild, holds, root}
use Rattle.select.specs.Marks.{Peak, AllSteps}
use Rattle.select.specs.Visits.{Way}
use Rattle.select.specs.Ways.{hits, frames}
use Rattle.select.specs.Reach.{Reach, start, down}
use Rattle.select.specs.MarksStep.{step_hits}
use Rattle.select.proofs.PeakBound.{plain_then_deep, plain_only}
use Rattle.select.proofs.PeakIs.{peak_unique}
use Rattle.select.proofs.PeakLevels.{peak_levels}
use Rattle.select.proofs.PeakReached.{Along, frames_along, frames_plain, Turns, none, hit, miss, frames_turns, reached}
use Rattle.select.specs.PileBound.{PlainBeforeDeep}
use Rattle.answers.specs.Bound.{max_frames}
use Rattle.answers.proofs.BoundIs.{length-steps}
use Rattle.answers.specs.BoundReached.{Reaches, BoundsReached}
use Rattle.answers.specs.Demand3.{Given}
use Rattle.answers.proofs.Demand3Holds.{demand3}
use Rattle.answers.specs.Enumerates.{Enumerates}
use Rattle.answers.specs.Lister.{Lists}
use Rattle.answers.specs.Small.{query_append}
use Rattle.answers.specs.Trees.{byte, step, tight, alone, a, named, steps, nest, levels}
use Rattle.answers.specs.Within.{QueryIs, RecordIs}

-- ---- records

module _ (name : ℕ → List Char) where
  abbrev label : ℕ → Label
  label i = Label.member (points_of (name i))

  -- the way to the object number k
  unfoldable way : ℕ → Way
  way zero = []
  way (suc k) = label k ∷ way k

  length_way : (k : ℕ) → length (way k) ≡ k
  unfolding way
  length_way zero = refl
  length_way (suc k) = ap suc (length_way k)

  -- where the value in an object begins
  abbrev inside : (i at : ℕ) → ℕ
  inside i at = at + 1 + 0 + key_size J.object (tight (name i))

  hangs : (i n at : ℕ)
      → IsChild (record { value = nest name i (suc n); first = at }) (label i) (record { value = nest name (suc i) n; first = inside i at })
  unfolding IsChild children
  hangs i n at = Memᴰ.head refl

  -- behind k objects there are n more
  reach : (m k n : ℕ) → m ≡ k + n → (at : ℕ) × Reach (root (alone (nest name 0 m))) (way k) (record { value = nest name k n; first = at })
  unfolding root way
  reach m zero n e =
      let same : m ≡ n = omega arith in
      (0, subst (λ (j : ℕ). Reach (root (alone (nest name 0 m))) [] (record { value = nest name 0 j; first = 0 })) same start)
  reach m (suc k) n e = let (at, x) = reach m k (suc n) (omega arith) in (inside k at, down (label k) x (hangs k n at))

  nest_levels : (i n : ℕ) → nesting (nest name i n) ≡ n
  unfolding nesting
  nest_levels i zero = refl
  nest_levels i (suc n) = omega (arith, nest_levels (suc i) n)

  module _ (letter : (i : ℕ) (s : List ℕ) → length (put_chars (name i) s) ≡ suc (length s)) where
    nest_bytes : (i n : ℕ) (s : List ℕ) → length (put_value (nest name i n) s) ≡ 6 * n + 4 + length s
    unfolding put_value
    nest_bytes i zero s = omega arith
    nest_bytes i (suc n) s =
        let rest = put_value (nest name (suc i) n) (0x7D ∷ s) in
        omega (arith, letter i (0x22 ∷ 0x3A ∷ rest), nest_bytes (suc i) n (0x7D ∷ s))

    record_taken : (n : ℕ) → n ≤ max_depth → RecordIs (J.text (alone (nest name 0 n))) (alone (nest name 0 n))
    unfolding J.text
    record_taken n h = record {
      written = refl;
      bytes = omega (arith, nest_bytes 0 n []);
      levels = omega (arith, nest_levels 0 n);
    }

-- ---- queries

-- the steps of `a`
abbrev asks : Bool → Step
asks d = record { deep = d; selector = S.name (0x61 ∷ []) }

all_ask : (d : Depth) (n : ℕ) {s : Step} → Memᴰ s (steps_of (steps d n)) → s ≡ asks (Q.is_deep d)
unfolding steps_of
all_ask d zero m = absurd (Memᴰ.not-nil m)
all_ask d (suc n) {s} m = go (Memᴰ.cases_cons m) (λ m'. all_ask d n m')
  where
    go : (s ≡ asks (Q.is_deep d)) ⊎ Memᴰ s (steps_of (steps d n)) → (Memᴰ s (steps_of (steps d n)) → s ≡ asks (Q.is_deep d)) → s ≡ asks (Q.is_deep d)
    go (inl e) rest = e
    go (inr m) rest = rest m

kind : (d : Depth) (n : ℕ) → AllSteps (Q.is_deep d) (steps_of (steps d n))
kind d n s m = ap (λ (x : Step). x.deep) (all_ask d n m)

length_asked : (d : Depth) (n : ℕ) → length (steps d n) ≡ n
length_asked d zero = refl
length_asked d (suc n) = ap suc (length_asked d n)

steps-append : (x y : Query) → steps_of (x ++ y) ≡ steps_of x ++ steps_of y
unfolding steps_of
steps-append [] y = refl
steps-append (s ∷ x) y = ap (λ (z : List Step). segment_step s.segment ∷ z) (steps-append x y)

asked_bytes : (d : Depth) (n : ℕ) (s : List ℕ) → length (put_query (steps d n) s) ≤ 3 * n + length s
unfolding put_query
asked_bytes d zero s = omega arith
asked_bytes Q.plain (suc n) s = omega (arith, asked_bytes Q.plain n s)
asked_bytes Q.deep (suc n) s = omega (arith, asked_bytes Q.deep n s)

-- p plain steps and d deep ones
module _ (p d : ℕ) where
  abbrev asked : Query
  asked = steps Q.plain p ++ steps Q.deep d

  length_both : length asked ≡ p + d
  length_both = omega (arith, length-append (steps Q.plain p) (steps Q.deep d), length_asked Q.plain p, length_asked Q.deep d)

  query_taken : p + d ≤ max_steps → QueryIs (Q.text asked) asked
  unfolding Q.text
  query_taken h = record {
    written = refl;
    bytes =
        omega (
          arith,
          ap length (query_append (steps Q.plain p) (steps Q.deep d) []),
          asked_bytes Q.plain p (put_query (steps Q.deep d) []),
          asked_bytes Q.deep d [],
        );
    steps = omega (arith, length_both);
  }

  -- a name `a` is hit by each of them

  abbrev there : Label
  there = Label.member (0x61 ∷ [])

  all_hit : (s : Step) → Memᴰ s (steps_of asked) → hits s.selector there ≡ true
  unfolding hits
  all_hit s m = go (Memᴰ.append_cases (steps_of (steps Q.plain p)) (subst (Memᴰ s) (steps-append (steps Q.plain p) (steps Q.deep d)) m))
    where
      go : Memᴰ s (steps_of (steps Q.plain p)) ⊎ Memᴰ s (steps_of (steps Q.deep d)) → hits s.selector there ≡ true
      go (inl x) = ap (λ (y : Step). hits y.selector there) (all_ask Q.plain p x)
      go (inr x) = ap (λ (y : Step). hits y.selector there) (all_ask Q.deep d x)

  steps_number : length (steps_of asked) ≡ p + d
  steps_number = length-steps asked ∙ length_both

-- a label that all steps hit
hit_at : (q : List Step) (l : Label) → ((s : Step) → Memᴰ s q → hits s.selector l ≡ true) → (i : ℕ) → i < length q
    → step_hits (get_elem? q i) l ≡ true
unfolding step_hits
hit_at [] l h i n = absurd (omega arith)
hit_at (s ∷ q) l h zero n = h s (Memᴰ.head refl)
hit_at (s ∷ q) l h (suc i) n = hit_at q l (λ x m. h x (Memᴰ.tail m)) i (omega arith)

abbrev only_a : ℕ → List Char
only_a i = a ∷ []

along : (q : List Step) → ((s : Step) → Memᴰ s q → hits s.selector (Label.member (0x61 ∷ [])) ≡ true) → (k : ℕ) → k ≤ length q
    → Along q (way only_a k)
unfolding way points_of
along q h zero n = tt
along q h (suc k) n = (hit_at q (Label.member (0x61 ∷ [])) h (length (way only_a k)) (omega (arith, length_way only_a k)), along q h k (omega arith))

a_taken : (n : ℕ) → n ≤ max_depth → RecordIs (J.text (alone (levels n))) (alone (levels n))
unfolding put_chars
a_taken n h = record_taken only_a (λ i s. refl) n h

-- ---- plain steps and then deep ones

deep_last_lem : (p d : ℕ) → 0 < d → p + d ≤ max_steps → (q : Query) × (h : PlainBeforeDeep (steps_of q)) × (length h.plain ≡ p) × (length h.deep ≡ d)
    × (k : ℕ) × (k + 1 ≡ p + d) × Reaches q k
deep_last_lem p d some few = (
  asked p d,
  parts,
  length-steps (steps Q.plain p) ∙ length_asked Q.plain p,
  length-steps (steps Q.deep d) ∙ length_asked Q.deep d,
  k,
  one_more,
  record {
    tree = alone (levels (p + d));
    query_taken = query_taken p d few;
    record_taken = a_taken (p + d) (omega arith);
    peak = reached (alone (levels (p + d))) (steps_of (asked p d)) most (reach only_a (p + d) k 1 (sym one_more)).1 (holds J.object _) all_framed;
  },
)
  where
    k : ℕ
    k = p + d - 1

    one_more : k + 1 ≡ p + d
    one_more = omega arith

    parts : PlainBeforeDeep (steps_of (asked p d))
    parts = record {
      plain = steps_of (steps Q.plain p);
      deep = steps_of (steps Q.deep d);
      parts = steps-append (steps Q.plain p) (steps Q.deep d);
      all_plain = kind Q.plain p;
      all_deep = kind Q.deep d;
      some_deep = omega (arith, length-steps (steps Q.deep d), length_asked Q.deep d);
    }

    most : (m : ℕ) → Peak (alone (levels (p + d))) (steps_of (asked p d)) m → m ≤ k
    most m x = omega (arith, plain_then_deep (alone (levels (p + d))) (steps_of (asked p d)) m parts x, steps_number p d)

    all_framed : frames (steps_of (asked p d)) (way only_a k) ≡ k
    all_framed =
        frames_along (steps_of (asked p d)) (way only_a k)
        (along (steps_of (asked p d)) (all_hit p d) k (omega (arith, steps_number p d)))
        (omega (arith, length_way only_a k, steps_number p d))
        ∙ length_way only_a k

-- ---- plain steps alone

plain_framed : (n : ℕ) → AllSteps false (steps_of (asked n 0)) → frames (steps_of (asked n 0)) (way only_a n) ≡ n
unfolding way frames
plain_framed zero h = refl
plain_framed (suc k) h =
    let q = steps_of (asked (suc k) 0) in
    let number : length q ≡ suc k = steps_number (suc k) 0 ∙ omega arith in
    frames_plain q h _ (way only_a k) (along q (all_hit (suc k) 0) k (omega arith)) (number ∙ ap suc (sym (length_way only_a k))) ∙ number

plain_alone_lem : (n : ℕ) → n ≤ max_steps → (q : Query) × AllSteps false (steps_of q) × (length q ≡ n) × Reaches q n
unfolding steps_of
plain_alone_lem n few = (
  asked n 0,
  all_plain,
  number,
  record {
    tree = alone (levels (n + 1));
    query_taken = query_taken n 0 (omega arith);
    record_taken = a_taken (n + 1) (omega arith);
    peak =
        reached (alone (levels (n + 1))) (steps_of (asked n 0)) most (reach only_a (n + 1) n 1 refl).1 (holds J.object _)
        (plain_framed n all_plain);
  },
)
  where
    number : length (asked n 0) ≡ n
    number = length_both n 0 ∙ omega arith

    all_plain : AllSteps false (steps_of (asked n 0))
    all_plain s m = go (Memᴰ.append_cases (steps_of (steps Q.plain n)) (subst (Memᴰ s) (steps-append (steps Q.plain n) []) m))
      where
        go : Memᴰ s (steps_of (steps Q.plain n)) ⊎ Memᴰ s [] → s.deep ≡ false
        go (inl x) = kind Q.plain n s x
        go (inr x) = absurd (Memᴰ.not-nil x)

    most : (m : ℕ) → Peak (alone (levels (n + 1))) (steps_of (asked n 0)) m → m ≤ n
    most m x = omega (arith, plain_only (alone (levels (n + 1))) (steps_of (asked n 0)) m all_plain x, length-steps (asked n 0), number)

-- ---- a plain step behind a deep one

-- $..a.b
abbrev a_then_b : Query
a_then_b = step Q.deep (named 0x61 tt) ∷ step Q.plain (named 0x62 tt) ∷ []

abbrev asks_b : Step
asks_b = record { deep = false; selector = S.name (0x62 ∷ []) }

-- `a` at the levels where this is true, which the first one is, and `b` at the others
unfoldable even : ℕ → Bool
even zero = true
even (suc i) = not (even i)

abbrev letter_of : Bool → Char
letter_of true = a
letter_of false = J.high (byte 0x62 tt)

abbrev by_turns : ℕ → List Char
by_turns i = letter_of (even i) ∷ []

turns : (k : ℕ) → Turns (asks true) (not (even k)) (way by_turns k)
unfolding way even hits points_of
turns zero = none
turns (suc k) = go (even k) (turns k)
  where
    go : (b : Bool) → Turns (asks true) (not b) (way by_turns k)
        → Turns (asks true) (not (not b)) (Label.member (points_of (letter_of b ∷ [])) ∷ way by_turns k)
    go true t = hit refl t
    go false t = miss refl t

turns_taken : (n : ℕ) → n ≤ max_depth → RecordIs (J.text (alone (nest by_turns 0 n))) (alone (nest by_turns 0 n))
unfolding put_chars
turns_taken n h = record_taken by_turns (λ i s. one (even i) s) n h
  where
    one : (b : Bool) (s : List ℕ) → length (put_chars (letter_of b ∷ []) s) ≡ suc (length s)
    one true s = refl
    one false s = refl

no_bound : (k : ℕ) → k ≤ max_frames → Reaches a_then_b k
unfolding Q.text steps_of
no_bound k room = record {
  tree = alone (nest by_turns 0 (k + 1));
  query_taken = record { written = refl; bytes = omega arith; steps = omega arith };
  record_taken = turns_taken (k + 1) (omega arith);
  peak =
      reached (alone (nest by_turns 0 (k + 1))) (asks true ∷ asks_b ∷ []) most (reach by_turns (k + 1) k 1 refl).1 (holds J.object _)
      (frames_turns (asks true) asks_b refl refl (turns k) ∙ length_way by_turns k);
}
  where
    most : (m : ℕ) → Peak (alone (nest by_turns 0 (k + 1))) (asks true ∷ asks_b ∷ []) m → m ≤ k
    most m x = omega (arith, peak_levels (alone (nest by_turns 0 (k + 1))) (asks true ∷ asks_b ∷ []) m x, nest_levels by_turns 0 (k + 1))

pub bounds_reached : BoundsReached
unfolding steps_of
bounds_reached = record {
  deep_last_lem = deep_last_lem;
  plain_alone_lem = plain_alone_lem;
  no_bound = (
    a_then_b,
    record {
      before = [];
      earlier = asks true;
      between = [];
      later = asks_b;
      after = [];
      parts = refl;
      earlier_deep = refl;
      later_plain = refl;
    },
    refl,
    no_bound,
  );
}

-- and each walk answers that peak, where its list has a pair for each node
pub walks_reach : {q : Query} {k : ℕ} (x : Reaches q k) {list after : List ℕ} {g p n k' : ℕ}
    → ((ns : List Node) → Enumerates x.tree (steps_of q) ns → 2 * length ns ≤ length list)
    → Lists (Q.text q) (J.text x.tree) list after g p n k' → k' ≡ k
walks_reach {q} x {list} room y = peak_unique (demand3 q x.tree list given y).peak x.peak
  where
    given : Given q x.tree list
    given = record {
      query_bytes = x.query_taken.bytes;
      query_steps = x.query_taken.steps;
      record_bytes = x.record_taken.bytes;
      record_levels = x.record_taken.levels;
      pair_for_each = room;
    }
