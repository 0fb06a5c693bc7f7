-- What a lister answers by computing is what document 01 says of its arguments, ground by ground, and nothing else is said of them.
-- The verdicts are those that the grammars give, a text has one tree, and the nodes picked out make one list. Assumes nothing.
use Rattle.std.specs.Prelude.{◌≡◌, Bool, true, false, ℕ, zero, suc, ◌*◌, ◌≤◌, ◌<◌, leb, take, drop}
use Rattle.std.proofs.Math.Path.{refl, sym, ap}
use Rattle.std.proofs.Common.{subst, ◌∙◌, arith, leb-true, leb-false, length-drop, take-append-drop, drop_of_length-le, take_at, drop_at, take_all, length-take-le}
use mathlib.Core.List.{List, [], ◌∷◌, ◌++◌, map, map-append}
use Rattle.std.proofs.Math.ListN.{length, length-map}
use Rattle.encoding.specs.Verdict.{Verdict}
use Rattle.encoding.specs.Verdict as verdict
use Rattle.json_text.specs.Grammar.{Tree}
use Rattle.json_text.specs.Verdict.{RecordSays, record_verdict}
use Rattle.json_text.proofs.Says.{record_says, record_says_only}
use Rattle.json_text.specs.Verdict as J
use Rattle.query.specs.Grammar.{Query, steps_of}
use Rattle.query.specs.Verdict.{QuerySays}
use Rattle.query.specs.Verdict as Q
use Rattle.query.proofs.Says.{query_says, query_says_only}
use Rattle.select.specs.Nodes.{Node, end_of}
use Rattle.select.specs.Marks.{Peak}
use Rattle.select.specs.Ways.{Span, span_of, peak}
use Rattle.select.proofs.PeakIs.{peak_is, peak_unique}
use Rattle.answers.specs.Lister.{or_else, input_verdict, spans_of, spans_in, peak_of, peak_in, pairs_of, list_verdict, written_if, peak_if, flat, Lists}
use Rattle.answers.specs.Lister as lister
use Rattle.answers.specs.Outcome.{Outcome, outcome, done, refused, answered, ending, outcome_by}
use Rattle.answers.specs.Enumerates.{Enumerates}
use Rattle.answers.specs.EnumeratesLaws.{enumeration, enumerates_spans}
use Rattle.answers.specs.Within.{QueryIs, RecordIs}
use Rattle.answers.specs.WithinLaws.{query_is_taken, query_steps, record_is_taken, record_tree}
use Rattle.answers.specs.ListerSays.{numbers, holding, ListerSays, query_refused, record_refused, left_over, all}

-- what meets a lister's promise is the outcome by computing
pub lists_outcome : {query text list after : List ℕ} {g p n k : ℕ} → Lists query text list after g p n k
    → answered g p n k after ≡ outcome query text list
unfolding outcome
lists_outcome x =
    λ i. record { ground = x.ground_is i; place = x.place_is i; pairs = x.pairs_are i; peak = x.peak_is i; after = x.list_is i }

pub outcome_by_lem : (query text list : List ℕ) → outcome query text list ≡ outcome_by (input_verdict query text) (spans_in query text) (peak_in query text) list
unfolding outcome
outcome_by_lem q r l = refl

-- a verdict that refuses comes first
pub refuses_first : (v u : Verdict) → 0 < v.ground → or_else v u ≡ v
unfolding or_else
refuses_first v u h = go v.ground v.place h
  where
    go : (g p : ℕ) → 0 < g → or_else (verdict.refused g p) u ≡ verdict.refused g p
    go zero p h = absurd (omega arith)
    go (suc g) p h = refl

-- and nothing is written
pub refusal : (v : Verdict) (ss : List Span) (k : ℕ) (l : List ℕ) → 0 < v.ground → outcome_by v ss k l ≡ refused v.ground v.place 0 l
unfolding or_else written_if peak_if flat
refusal v ss k l h = go v.ground v.place h
  where
    go : (g p : ℕ) → 0 < g → outcome_by (verdict.refused g p) ss k l ≡ refused g p 0 l
    go zero p h = absurd (omega arith)
    go (suc g) p h = refl

outcome_refused : (query text list : List ℕ) (v : Verdict) → input_verdict query text ≡ v → 0 < v.ground →
    outcome query text list ≡ refused v.ground v.place 0 list
outcome_refused query text list v e h =
    outcome_by_lem query text list
    ∙ ap (λ (u : Verdict). outcome_by u (spans_in query text) (peak_in query text) list) e
    ∙ refusal v (spans_in query text) (peak_in query text) list h

-- the pairs that are written, and those that are left over
ended_by : (written over ss : List Span) (k : ℕ) (l : List ℕ) → take (pairs_of l) ss ≡ written → drop (pairs_of l) ss ≡ over →
    outcome_by verdict.taken ss k l ≡ ending (lister.left_over over) written k l
unfolding or_else written_if list_verdict
ended_by written over ss k l e f =
    ap (λ (w : List Span). ending (lister.left_over (drop (pairs_of l) ss)) w k l) e
    ∙ ap (λ (r : List Span). ending (lister.left_over r) written k l) f

-- the numbers written are those of the nodes
flat_numbers : (ns : List Node) → flat (map span_of ns) ≡ numbers ns
unfolding flat numbers span_of
flat_numbers [] = refl
flat_numbers (n ∷ ns) = ap (λ (l : List ℕ). n.first ∷ end_of n ∷ l) (flat_numbers ns)

written_nodes : (ns : List Node) (l : List ℕ) → flat (map span_of ns) ++ drop (2 * length (map span_of ns)) l ≡ holding ns l
unfolding holding
written_nodes ns l = rw (flat_numbers ns, length-map ns span_of) refl

-- query and record are taken
module _ {query text : List ℕ} {q : Query} {t : Tree} (hq : QueryIs query q) (ht : RecordIs text t) (list : List ℕ) where
  both_taken : input_verdict query text ≡ verdict.taken
  unfolding input_verdict or_else
  both_taken = rw (query_is_taken hq, record_is_taken ht) refl

  -- the nodes picked out, those that are written and those that are left over
  outcome_of : (ns before over : List Node) → Enumerates t (steps_of q) ns → take (pairs_of list) (map span_of ns) ≡ map span_of before →
      drop (pairs_of list) (map span_of ns) ≡ map span_of over →
      outcome query text list ≡ ending (lister.left_over (map span_of over)) (map span_of before) (peak t (steps_of q)) list
  unfolding spans_in spans_of peak_in peak_of
  outcome_of ns before over x e f =
      outcome_by_lem query text list
      ∙ rw
      (both_taken, record_tree ht, query_steps hq, ← enumerates_spans x)
      (ended_by (map span_of before) (map span_of over) (map span_of ns) (peak t (steps_of q)) list e f)

  outcome_over : (before : List Node) (n : Node) (after : List Node) → Enumerates t (steps_of q) (before ++ n ∷ after) → length before ≡ pairs_of list →
      outcome query text list ≡ refused 7 n.first (length before) (holding before list)
  unfolding lister.left_over peak_if span_of
  outcome_over before n after x h =
      let e = map-append span_of before (n ∷ after) in
      let k : length (map span_of before) ≡ pairs_of list = length-map before span_of ∙ h in
      outcome_of (before ++ n ∷ after) before (n ∷ after) x
      (rw e (take_at (map span_of before) (map span_of (n ∷ after)) (pairs_of list) k))
      (rw e (drop_at (map span_of before) (map span_of (n ∷ after)) (pairs_of list) k))
      ∙ rw (written_nodes before list, length-map before span_of) refl

  outcome_all : (ns : List Node) → Enumerates t (steps_of q) ns → length ns ≤ pairs_of list → (k : ℕ) → Peak t (steps_of q) k →
      outcome query text list ≡ done (length ns) k (holding ns list)
  unfolding lister.left_over peak_if
  outcome_all ns x h k p =
      let l : length (map span_of ns) ≤ pairs_of list = omega (arith, length-map ns span_of) in
      outcome_of ns ns [] x (take_all (pairs_of list) (map span_of ns) l) (drop_of_length-le (map span_of ns) l)
      ∙ rw (written_nodes ns list, length-map ns span_of, peak_unique (peak_is t (steps_of q)) p) refl

module _ (query text list : List ℕ) where
  -- what is said of a lister's arguments is what it answers by computing
  pub lister_says_only : {o : Outcome} → ListerSays query text list o → o ≡ outcome query text list
  unfolding input_verdict or_else
  lister_says_only (query_refused v x h) =
      let e : input_verdict query text ≡ v =
      ap (λ (u : Verdict). or_else u (record_verdict text)) (sym (query_says_only query v x)) ∙ refuses_first v (record_verdict text) h in
      sym (outcome_refused query text list v e h)
  lister_says_only (record_refused x v y h) =
      let e : input_verdict query text ≡ v =
      ap (λ (u : Verdict). or_else u (record_verdict text)) (sym (query_says_only query verdict.taken x)) ∙ sym (record_says_only text v y) in
      sym (outcome_refused query text list v e h)
  lister_says_only (left_over q t hq ht before n after x h) = sym (outcome_over hq ht list before n after x h)
  lister_says_only (all q t hq ht ns x h k p) = sym (outcome_all hq ht list ns x h k p)

  -- some outcome that is said of the arguments is enough: it is the one computed
  abbrev Answered : Type 0
  Answered = ListerSays query text list (outcome query text list)

  computed : {o : Outcome} → ListerSays query text list o → Answered
  computed x = subst (ListerSays query text list) (lister_says_only x) x

  nodes_answered : (q : Query) (t : Tree) → QueryIs query q → RecordIs text t → (ns : List Node) → Enumerates t (steps_of q) ns → Answered
  nodes_answered q t hq ht ns x = go (leb (length ns) (pairs_of list)) refl
    where
      split : (over : List Node) → drop (pairs_of list) ns ≡ over → pairs_of list < length ns → Answered
      split [] e h = absurd (omega (arith, length-drop (pairs_of list) ns, ap length e))
      split (n ∷ after) e h =
          let before = take (pairs_of list) ns in
          let whole : ns ≡ before ++ n ∷ after = sym (take-append-drop (pairs_of list) ns) ∙ ap (λ (ms : List Node). before ++ ms) e in
          let y = subst (Enumerates t (steps_of q)) whole x in
          computed (left_over q t hq ht before n after y (length-take-le (pairs_of list) ns (omega arith)))

      go : (b : Bool) → leb (length ns) (pairs_of list) ≡ b → Answered
      go true e = computed (all q t hq ht ns x (leb-true (length ns) (pairs_of list) e) (peak t (steps_of q)) (peak_is t (steps_of q)))
      go false e = split (drop (pairs_of list) ns) refl (leb-false (length ns) (pairs_of list) e)

  record_answered : (q : Query) → QueryIs query q → Answered
  record_answered q hq = go (record_says text)
    where
      asked : QuerySays query verdict.taken
      asked = Q.taken hq.bytes q hq.written hq.steps

      go : {v : Verdict} → RecordSays text v → Answered
      go (J.taken l j) =
          let ht : RecordIs text j.tree = record { written = j.written; bytes = l; levels = j.shallow } in
          let (ns, y) = enumeration j.tree (steps_of q) in
          nodes_answered q j.tree hq ht ns y
      go (J.long l) = computed (record_refused asked _ (J.long l) (omega arith))
      go (J.wrong p l f d a) = computed (record_refused asked _ (J.wrong p l f d a) (omega arith))
      go (J.deep p l o) = computed (record_refused asked _ (J.deep p l o) (omega arith))

  -- what a lister answers by computing is said of its arguments
  pub lister_says : ListerSays query text list (outcome query text list)
  lister_says = go (query_says query)
    where
      go : {v : Verdict} → QuerySays query v → Answered
      go (Q.taken l q e h) = record_answered q (record { written = e; bytes = l; steps = h })
      go (Q.long l p d h) = computed (query_refused _ (Q.long l p d h) (omega arith))
      go (Q.wrong f p d l) = computed (query_refused _ (Q.wrong f p d l) (omega arith))
      go (Q.many l t x u e h) = computed (query_refused _ (Q.many l t x u e h) (omega arith))

  -- so it is said of what any call answers that meets a lister's promise
  pub lists_say : {after : List ℕ} {g p n k : ℕ} → Lists query text list after g p n k → ListerSays query text list (answered g p n k after)
  lists_say x = subst (ListerSays query text list) (sym (lists_outcome x)) lister_says
