-- What is answered by computing of how large the pile gets is what change request S-6 says of the query, and nothing else is said of it;
-- and no listing has a higher peak. The peak answered is that of the record, or 0 on a refusal. Assumes nothing.
use Rattle.std.specs.Prelude.{◌≡◌, List, [], ◌∷◌, Bool, length}
use Rattle.std.proofs.Math.Path.{refl, sym}
use Rattle.std.proofs.Common.{ap, subst, ◌∙◌, arith, length-append}
use Rattle.std.proofs.Math.Bool.{false}
use Rattle.std.proofs.Math.Option.{Option, some, none}
use Prim.Native.Nat.{ℕ, zero, suc, ◌≤◌, ◌<◌}
use Rattle.encoding.specs.Verdict.{Verdict, taken}
use Rattle.json_text.specs.Grammar.{Tree}
use Rattle.query.specs.Grammar.{Query, steps_of}
use Rattle.query.specs.Grammar as Q
use Rattle.query.proofs.Says.{query_says, query_says_only, unambiguous}
use Rattle.query.specs.Steps.{Step}
use Rattle.query.specs.Verdict.{QuerySays, query_verdict, steps_in}
use Rattle.query.specs.Verdict as query
use Rattle.select.specs.Marks.{Peak}
use Rattle.select.proofs.PeakBound.{plain_then_deep, plain_only, deep_only, bound_holds}
use Rattle.select.proofs.PeakLevels.{peak_levels}
use Rattle.select.specs.PileBound.{PileBound, deep, plain, mixed}
use Rattle.select.proofs.PileBoundIs.{pile_bound_is, pile_bound_only}
use Rattle.select.specs.PileBoundOf.{pile_bound}
use Rattle.answers.specs.Bound.{is_bound, at_most, bounded_if, frames_if, bounded, frames_bound, BoundsPile}
use Rattle.answers.specs.BoundSays.{BoundSays, query_refused, deep_last, plain_alone, no_bound, PileStays}
use Rattle.answers.specs.Lister.{Lists}
use Rattle.answers.proofs.ListerIs.{lists_say}
use Rattle.answers.specs.ListerSays.{ListerSays}
use Rattle.answers.specs.ListerSays as lister
use Rattle.answers.specs.Outcome.{Outcome}
use Rattle.answers.specs.Within.{QueryIs, RecordIs}
use Rattle.answers.specs.WithinLaws.{query_is_taken, query_steps}

pub length-steps : (q : Query) → length (steps_of q) ≡ length q
unfolding steps_of
length-steps [] = refl
length-steps (x ∷ q) = ap suc (length-steps q)

module _ (s : List ℕ) where
  -- the answer by the verdict on the query and the bound by its steps
  answer_by : {v : Verdict} {o : Option ℕ} → query_verdict s ≡ v → pile_bound (steps_in s) ≡ o
      → BoundsPile s v.ground v.place (bounded_if v.ground o) (frames_if v.ground o)
  unfolding bounded frames_bound
  answer_by e f = rw (← e, ← f) (record { ground_is = refl; place_is = refl; bounded_is = refl; frames_are = refl })

  answer_refused : (v : Verdict) → query_verdict s ≡ v → 0 < v.ground → BoundsPile s v.ground v.place false 0
  unfolding bounded_if frames_if
  answer_refused v e h = go v.ground v.place h (answer_by e refl)
    where
      go : (g p : ℕ) → 0 < g → BoundsPile s g p (bounded_if g (pile_bound (steps_in s))) (frames_if g (pile_bound (steps_in s))) → BoundsPile s g p false 0
      go zero p h x = absurd (omega arith)
      go (suc g) p h x = x

  answer_taken : {q : Query} {o : Option ℕ} → QueryIs s q → PileBound (steps_of q) o → BoundsPile s 0 0 (is_bound o) (at_most o)
  unfolding bounded_if frames_if
  answer_taken hq b = answer_by (query_is_taken hq) (ap pile_bound (query_steps hq) ∙ sym (pile_bound_only b))

  -- what is said of the query is what is answered by computing
  pub bound_says_only : {g p k : ℕ} {b : Bool} → BoundSays s g p b k → BoundsPile s g p b k
  unfolding is_bound at_most
  bound_says_only (query_refused v x h) = answer_refused v (sym (query_says_only s v x)) h
  bound_says_only (deep_last q hq d k e) = answer_taken hq (deep d (e ∙ sym (length-steps q)))
  bound_says_only (plain_alone q hq p) = rw (← length-steps q) (answer_taken hq (plain p))
  bound_says_only (no_bound q hq m) = answer_taken hq (mixed m)

  -- what is answered by computing is said of the query
  pub bound_says : BoundSays s (query_verdict s).ground (query_verdict s).place (bounded s) (frames_bound s)
  bound_says = go (query_says s)
    where
      Answered : Type 0
      Answered = BoundSays s (query_verdict s).ground (query_verdict s).place (bounded s) (frames_bound s)

      computed : {g p k : ℕ} {b : Bool} → BoundSays s g p b k → Answered
      computed x = let h = bound_says_only x in rw (← h.ground_is, ← h.place_is, ← h.bounded_is, ← h.frames_are) x

      by_steps : {q : Query} {o : Option ℕ} → QueryIs s q → PileBound (steps_of q) o → Answered
      by_steps {q} hq (deep {k} d e) = computed (deep_last q hq d k (e ∙ length-steps q))
      by_steps {q} hq (plain p) = computed (plain_alone q hq p)
      by_steps {q} hq (mixed m) = computed (no_bound q hq m)

      go : {v : Verdict} → QuerySays s v → Answered
      go (query.taken l q w n) = by_steps (record { written = w; bytes = l; steps = n }) (pile_bound_is (steps_of q))
      go (query.long h p d l) = computed (query_refused _ (query.long h p d l) (omega arith))
      go (query.wrong f p d l) = computed (query_refused _ (query.wrong f p d l) (omega arith))
      go (query.many l q x u w n) = computed (query_refused _ (query.many l q x u w n) (omega arith))

  -- so it is said of what any call answers that keeps the promise
  pub bounds_say : {g p k : ℕ} {b : Bool} → BoundsPile s g p b k → BoundSays s g p b k
  bounds_say h = rw (h.ground_is, h.place_is, h.bounded_is, h.frames_are) bound_says

-- change request S-6 holds of the peak of every record
pub pile_stays : (q : Query) (t : Tree) (k : ℕ) → Peak t (steps_of q) k → PileStays q k
pile_stays q t k x =
    let same = length-steps q in
    record {
      deep_last_lem = λ h. omega (arith, plain_then_deep t (steps_of q) k h x);
      plain_alone_lem = λ h. omega (arith, plain_only t (steps_of q) k h x);
      deep_alone = λ h. deep_only t (steps_of q) k h x;
    }

-- and of the peak 0
stays_none : (q : Query) → PileStays q 0
stays_none q = record {
  deep_last_lem = λ h. omega (arith, length-steps q, ap length h.parts, length-append h.plain h.deep, h.some_deep);
  plain_alone_lem = λ h. omega arith;
  deep_alone = λ h. record { steps = λ l. omega arith; bare = λ l. refl };
}

-- "Both hold in every taken record, whichever walk is used": of every call that meets a lister's promise, whatever is lent
pub pile_stays_listed : (q : Query) {text list after : List ℕ} {g p n k : ℕ} → Lists (Q.text q) text list after g p n k → PileStays q k
pile_stays_listed q {text} {list} x = go (lists_say (Q.text q) text list x)
  where
    go : {o : Outcome} → ListerSays (Q.text q) text list o → PileStays q o.peak
    go (lister.query_refused v y h) = stays_none q
    go (lister.record_refused y v z h) = stays_none q
    go (lister.left_over u t hu ht before m after y e) = stays_none q
    go (lister.all u t hu ht ns y l k p) = pile_stays q t k (subst (λ (z : List Step). Peak t z k) (unambiguous u q hu.written) p)

-- a bound, or as much as a record has room for, is enough for its peak
within : {q : List Step} {text : List ℕ} {t : Tree} {k : ℕ} (o : Option ℕ) → RecordIs text t → Peak t q k → PileBound q o → k ≤ at_most o
unfolding at_most
within {q} {text} {t} {k} (some b) ht x z = bound_holds t q k b z x
within {q} {text} {t} {k} none ht x z = omega (arith, peak_levels t q k x, ht.levels)

-- the peak that either walk answers is at most the frames that are answered of the query, for all bytes
pub frames_enough : {query text list after : List ℕ} {g p n k g' p' m : ℕ} {b : Bool} → Lists query text list after g p n k
    → BoundsPile query g' p' b m → k ≤ m
frames_enough {query} {text} {list} {m = m} x y = go (lists_say query text list x)
  where
    go : {o : Outcome} → ListerSays query text list o → o.peak ≤ m
    go (lister.query_refused v u h) = omega arith
    go (lister.record_refused u v w h) = omega arith
    go (lister.left_over q t hq ht before n after u e) = omega arith
    go (lister.all q t hq ht ns u l k top) =
        let b = pile_bound_is (steps_of q) in
        let same : m ≡ at_most (pile_bound (steps_of q)) = y.frames_are ∙ sym (answer_taken query hq b).frames_are in
        omega (arith, within (pile_bound (steps_of q)) ht top b)
