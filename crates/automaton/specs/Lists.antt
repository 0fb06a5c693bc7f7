-- From verdicts and a tally to what a lister promises. Assumes nothing.
use Rattle.std.specs.Prelude.{◌≡◌, take}
use Rattle.std.proofs.Math.Path.{refl, ap, ap₂}
use Rattle.std.proofs.Common.{sym, ◌∙◌, arith}
use mathlib.Core.List.{List, [], ◌∷◌, ◌++◌}
use Rattle.std.proofs.Math.Option.{Option}
use Prim.Native.Nat.{ℕ, zero, suc, ◌+◌, ◌*◌}
use Rattle.std.proofs.Math.ListN.{length, drop}
use Rattle.encoding.specs.Verdict.{Verdict}
use Rattle.encoding.specs.Verdict as verdict
use Rattle.json_text.specs.Grammar.{Tree}
use Rattle.json_text.specs.Verdict.{record_verdict}
use Rattle.query.specs.Verdict.{query_verdict, steps_in}
use Rattle.select.specs.Ways.{Span, spans, peak}
use Rattle.answers.specs.Lister.{or_else, input_verdict, spans_of, spans_in, peak_of, peak_in, pairs_of, left_over, list_verdict}
use Rattle.answers.specs.Lister.{written_if, written, peak_if, flat, ground, place, pairs, peak_answer, list_after, Lists}
use Rattle.answers.specs.Lister as lister
use Rattle.answers.specs.Within.{RecordIs}
use Rattle.answers.specs.WithinLaws.{record_tree}
use Rattle.automaton.specs.Tally.{Tally}
use Rattle.automaton.specs.TallyIs.{stop_at, Whole}

-- a lister's numbers, by the verdict on query and record
module _ (q r l : List ℕ) where
  refused_by : (g p : ℕ) → (g ≡ 0 → ⊥) → input_verdict q r ≡ verdict.refused g p → Lists q r l l g p 0 0
  unfolding ground place pairs peak_answer list_after lister.verdict written
  refused_by g p h e = go g h e
    where
      go : (g : ℕ) → (g ≡ 0 → ⊥) → input_verdict q r ≡ verdict.refused g p → Lists q r l l g p 0 0
      go zero h e = absurd (h refl)
      go (suc g) h e =
          record {
            ground_is = ap (λ (v : Verdict). (or_else v (list_verdict (spans_in q r) l)).ground) (sym e);
            place_is = ap (λ (v : Verdict). (or_else v (list_verdict (spans_in q r) l)).place) (sym e);
            pairs_are = ap (λ (v : Verdict). length (written_if v.ground (spans_in q r) l)) (sym e);
            peak_is = ap (λ (v : Verdict). peak_if (or_else v (list_verdict (spans_in q r) l)).ground (peak_in q r)) (sym e);
            list_is =
                ap (λ (v : Verdict). let ss = written_if v.ground (spans_in q r) l in flat ss ++ drop (2 * length ss) l) (sym e);
          }

  -- refused by the query
  pub lists_query : (g p : ℕ) → g ≡ (query_verdict q).ground → p ≡ (query_verdict q).place → (g ≡ 0 → ⊥) → Lists q r l l g p 0 0
  unfolding input_verdict
  lists_query g p e f h = refused_by g p h (ap₂ (λ (x y : ℕ). or_else (verdict.refused x y) (record_verdict r)) (sym e) (sym f) ∙ go g h)
    where
      go : (g : ℕ) → (g ≡ 0 → ⊥) → or_else (verdict.refused g p) (record_verdict r) ≡ verdict.refused g p
      go zero h = absurd (h refl)
      go (suc g) h = refl

  pub query_taken_by : (query_verdict q).ground ≡ 0 → input_verdict q r ≡ record_verdict r
  unfolding input_verdict or_else
  query_taken_by e = go (query_verdict q).ground e
    where
      go : (g : ℕ) → g ≡ 0 → or_else (verdict.refused g (query_verdict q).place) (record_verdict r) ≡ record_verdict r
      go zero e = refl
      go (suc g) e = absurd (omega arith)

  -- refused by the record
  pub lists_record : (g p : ℕ) → (query_verdict q).ground ≡ 0 → g ≡ (record_verdict r).ground → p ≡ (record_verdict r).place → (g ≡ 0 → ⊥)
      → Lists q r l l g p 0 0
  lists_record g p z e f h = refused_by g p h (query_taken_by z ∙ ap₂ (λ (x y : ℕ). verdict.refused x y) (sym e) (sym f))

  -- neither is refused, and the tally of all nodes is this one
  module _ (z : (query_verdict q).ground ≡ 0) (y : (record_verdict r).ground ≡ 0) (t : Tree) (is : RecordIs r t) (after : Tally)
      (whole : Whole (steps_in q) t l after) where
    ss : List Span
    ss = spans t (steps_in q)

    spans_in_lem : spans_in q r ≡ ss
    unfolding spans_in spans_of ss
    spans_in_lem = ap (λ (o : Option Tree). spans_of o (steps_in q)) (record_tree is)

    peak_in_lem : peak_in q r ≡ peak t (steps_in q)
    unfolding peak_in peak_of
    peak_in_lem = ap (λ (o : Option Tree). peak_of o (steps_in q)) (record_tree is)

    ground_none : (input_verdict q r).ground ≡ 0
    ground_none = ap (λ (v : Verdict). v.ground) (query_taken_by z) ∙ y

    written_is : written q r l ≡ take (pairs_of l) ss
    unfolding written written_if
    written_is = ap₂ (λ (g : ℕ) (x : List Span). written_if g x l) ground_none spans_in_lem

    verdict_is : lister.verdict q r l ≡ left_over (drop (pairs_of l) ss)
    unfolding lister.verdict or_else list_verdict
    verdict_is = go (input_verdict q r) ground_none ∙ ap (λ (x : List Span). left_over (drop (pairs_of l) x)) spans_in_lem
      where
        go : (v : Verdict) → v.ground ≡ 0 → or_else v (list_verdict (spans_in q r) l) ≡ list_verdict (spans_in q r) l
        go v e = ap (λ (g : ℕ). or_else (verdict.refused g v.place) (list_verdict (spans_in q r) l)) e

    -- the numbers, by what is left over
    numbers : (over : List Span) (g p k : ℕ) → drop (pairs_of l) ss ≡ over → g ≡ (left_over over).ground → p ≡ (left_over over).place
        → k ≡ peak_if g (peak t (steps_in q))
        → Lists q r l after.list g p after.used k
    unfolding ground place pairs peak_answer list_after ss
    numbers over g p k e f h i =
        let v : lister.verdict q r l ≡ left_over over = verdict_is ∙ ap left_over e in
        record {
          ground_is = f ∙ ap (λ (x : Verdict). x.ground) (sym v);
          place_is = h ∙ ap (λ (x : Verdict). x.place) (sym v);
          pairs_are = whole.used_is ∙ ap length (sym written_is);
          peak_is = i ∙ ap₂ peak_if (f ∙ ap (λ (x : Verdict). x.ground) (sym v)) (sym peak_in_lem);
          list_is = whole.list_is ∙ ap (λ (x : List Span). flat x ++ drop (2 * length x) l) (sym written_is);
        }

    -- a pair for each node
    pub lists_all : after.stop ≡ 0 → Lists q r l after.list 0 0 after.used after.peak
    unfolding left_over stop_at peak_if ss
    lists_all e = go (drop (pairs_of l) ss) refl
      where
        go : (over : List Span) → drop (pairs_of l) ss ≡ over → Lists q r l after.list 0 0 after.used after.peak
        go [] f = numbers [] 0 0 after.peak f refl refl (whole.peak_is e)
        go (s ∷ over) f = let n : after.stop ≡ s.first + 1 = whole.stop_is ∙ ap stop_at f in absurd (omega arith)

    -- a node is left over
    pub lists_left : (p : ℕ) → after.stop ≡ p + 1 → Lists q r l after.list 7 p after.used 0
    unfolding left_over stop_at peak_if ss
    lists_left p e = go (drop (pairs_of l) ss) refl
      where
        go : (over : List Span) → drop (pairs_of l) ss ≡ over → Lists q r l after.list 7 p after.used 0
        go [] f = let n : after.stop ≡ 0 = whole.stop_is ∙ ap stop_at f in absurd (omega arith)
        go (s ∷ over) f =
            let n : after.stop ≡ s.first + 1 = whole.stop_is ∙ ap stop_at f in
            numbers (s ∷ over) 7 p 0 f refl (omega arith) refl
