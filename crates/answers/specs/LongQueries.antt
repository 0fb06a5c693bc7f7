-- Change request S-5 as a statement: which answers of a lister it changes, and to what.
use Rattle.std.specs.Prelude.{◌≡◌, List, ℕ}
use Rattle.json_text.specs.Verdict.{record_verdict}
use Rattle.query.specs.ByNumber.{EarlyFault, by_number}
use Rattle.query.specs.Verdict.{max_query_bytes}
use Rattle.answers.specs.Lister.{or_else, spans_in, peak_in}
use Rattle.answers.specs.Outcome.{Outcome, outcome, outcome_by, refused}

-- the answer and the list where "Grounds are tried by number" (document 01), ground 1 before ground 2 too
unfoldable pub outcome_by_number : (query text list : List ℕ) → Outcome
unfolding or_else by_number record_verdict spans_in peak_in
outcome_by_number q t l = outcome_by (or_else (by_number q) (record_verdict t)) (spans_in q t) (peak_in q t) l

pub record LongQueries : Type 0 where
  -- "queries over 1,024 bytes with a dead byte before 1,024 gave ground 1 and now give ground 2 with that place"
  pub change : {q : List ℕ} {p : ℕ} → EarlyFault q p → (t l : List ℕ) →
      (outcome_by_number q t l ≡ refused 1 max_query_bytes 0 l) × (outcome q t l ≡ refused 2 p 0 l)
  -- "The old answers that change are these only"
  pub only : (q t l : List ℕ) → (outcome q t l ≡ outcome_by_number q t l → ⊥) → (p : ℕ) × EarlyFault q p
