-- A lister's answer as one value: its four numbers and its list afterwards.
use Rattle.std.specs.Prelude.{List, ◌++◌, ℕ, ◌*◌, length, drop}
use Rattle.encoding.specs.Verdict.{Verdict}
use Rattle.select.specs.Ways.{Span}
use Rattle.answers.specs.Lister.{or_else, list_verdict, written_if, peak_if, flat, ground, place, pairs, peak_answer, list_after}

-- the four numbers of an answer, and the list afterwards
pub record Outcome : Type 0 where
  pub ground : ℕ
  pub place : ℕ
  pub pairs : ℕ
  pub peak : ℕ
  pub after : List ℕ

unfoldable pub outcome : (query text list : List ℕ) → Outcome
unfolding ground place pairs peak_answer list_after
outcome q t l = record { ground = ground q t l; place = place q t l; pairs = pairs q t l; peak = peak_answer q t l; after = list_after q t l }

abbrev pub answered : (ground place pairs peak : ℕ) → (after : List ℕ) → Outcome
answered g p n k a = record { ground = g; place = p; pairs = n; peak = k; after = a }

-- no refusal, with the pairs written and the peak
abbrev pub done : (pairs peak : ℕ) → (after : List ℕ) → Outcome
done n k a = answered 0 0 n k a

-- a refusal, with the pairs written before it; its peak is 0
abbrev pub refused : (ground place pairs : ℕ) → (after : List ℕ) → Outcome
refused g p n a = answered g p n 0 a

-- an outcome by the verdict, the pairs that are written and the peak
abbrev pub ending : Verdict → (written : List Span) → (peak : ℕ) → (list : List ℕ) → Outcome
ending v written k l =
    answered v.ground v.place (length written) (peak_if v.ground k) (flat written ++ drop (2 * length written) l)

-- by the verdict on query and record, and the pairs to list
abbrev pub outcome_by : Verdict → List Span → (peak : ℕ) → (list : List ℕ) → Outcome
outcome_by v ss k l = ending (or_else v (list_verdict ss l)) (written_if v.ground ss l) k l
