-- Change request S-5 holds: a lister's answer depends on the order of grounds 1 and 2 by the query's verdict alone, and that is another
-- exactly for an early fault. Assumes nothing.
use Rattle.std.specs.Prelude.{◌≡◌, refl, List, ◌⊎◌, ℕ, suc}
use Rattle.std.proofs.Common.{sym, ap, ◌∙◌, inl, inr, arith}
use Rattle.encoding.specs.Verdict.{Verdict}
use Rattle.encoding.specs.Verdict as verdict
use Rattle.json_text.specs.Verdict.{record_verdict}
use Rattle.query.specs.ByNumber.{EarlyFault, by_number}
use Rattle.query.proofs.ByNumberLaws.{early_fault, only_early_faults}
use Rattle.query.specs.Verdict.{query_verdict}
use Rattle.answers.specs.Lister.{or_else, input_verdict, spans_in, peak_in}
use Rattle.answers.specs.Outcome.{Outcome, outcome, outcome_by, refused}
use Rattle.answers.proofs.ListerIs.{outcome_by_lem, refuses_first, refusal}
use Rattle.answers.specs.LongQueries.{outcome_by_number, LongQueries}

-- the outcome by what is judged of the query
abbrev by_verdict : Verdict → (query text list : List ℕ) → Outcome
by_verdict v q t l = outcome_by (or_else v (record_verdict t)) (spans_in q t) (peak_in q t) l

refused_outcome : (q t l : List ℕ) {v : Verdict} {g p : ℕ} → v ≡ verdict.refused (suc g) p → by_verdict v q t l ≡ refused (suc g) p 0 l
refused_outcome q t l {v} {g} {p} e =
    ap (λ (u : Verdict). by_verdict u q t l) e
    ∙ ap (λ (u : Verdict). outcome_by u (spans_in q t) (peak_in q t) l) (refuses_first (verdict.refused (suc g) p) (record_verdict t) (omega arith))
    ∙ refusal (verdict.refused (suc g) p) (spans_in q t) (peak_in q t) l (omega arith)

by_number_lem : (q t l : List ℕ) → outcome_by_number q t l ≡ by_verdict (by_number q) q t l
unfolding outcome_by_number
by_number_lem q t l = refl

by_verdict_lem : (q t l : List ℕ) → outcome q t l ≡ by_verdict (query_verdict q) q t l
unfolding input_verdict
by_verdict_lem q t l = outcome_by_lem q t l

pub long_queries : LongQueries
long_queries = record {
  change = λ {q} x t l. let (was, is) = early_fault x in (
    by_number_lem q t l ∙ refused_outcome q t l was,
    by_verdict_lem q t l ∙ refused_outcome q t l is,
  );
  only = λ q t l differ. go q t l differ (only_early_faults q);
}
  where
    go : (q t l : List ℕ) → (outcome q t l ≡ outcome_by_number q t l → ⊥) → (query_verdict q ≡ by_number q) ⊎ ((p : ℕ) × EarlyFault q p) →
        (p : ℕ) × EarlyFault q p
    go q t l differ (inl e) = absurd (differ (by_verdict_lem q t l ∙ ap (λ (v : Verdict). by_verdict v q t l) e ∙ sym (by_number_lem q t l)))
    go q t l differ (inr x) = x
