-- The place of a refusal lies in the text or at its limit. Assumes nothing.
use Rattle.std.specs.Prelude.{◌≡◌, refl, List, [], ◌∷◌, ◌++◌, ℕ, ◌+◌, ◌≤◌, length}
use Rattle.std.proofs.Common.{ap, inl, inr, arith}
use Rattle.encoding.specs.BytesLaws.{size, length_blanks}
use Rattle.encoding.specs.Verdict.{Verdict}
use Rattle.json_text.proofs.Beyond.{opens_inside}
use Rattle.json_text.specs.Verdict as J
use Rattle.json_text.specs.Verdict.{max_bytes, record_verdict, RecordSays}
use Rattle.json_text.proofs.Says.{record_says}
use Rattle.query.specs.Append.{append_query}
use Rattle.query.specs.Grammar.{Query, Spaced, put_query, put_spaced, put_segment, text}
use Rattle.query.proofs.Says.{query_says}
use Rattle.query.specs.Verdict as Q
use Rattle.query.specs.Verdict.{max_query_bytes, query_verdict, QuerySays}

pub query_append : (t u : Query) (s : List ℕ) → put_query (t ++ u) s ≡ put_query t (put_query u s)
unfolding put_query
query_append [] u s = refl
query_append (x ∷ t) u s = ap (put_spaced x) (query_append t u s)

-- the place of a step lies before its end
step_before_end : (t : Query) (x : Spaced) (u : Query) → length (text t) + length x.before ≤ length (text (t ++ x ∷ u))
unfolding text put_query put_spaced
step_before_end t x u =
    omega (
      arith,
      ap length (query_append t (x ∷ u) []),
      size (put_query t) (append_query t) (put_spaced x (put_query u [])),
      length_blanks x.before (put_segment x.segment (put_query u [])),
    )

pub query_place : (s : List ℕ) → (query_verdict s).place ≤ max_query_bytes
query_place s = go (query_verdict s) (query_says s)
  where
    go : (v : Verdict) → QuerySays s v → v.place ≤ max_query_bytes
    go v (Q.taken l t e f) = omega arith
    go v (Q.long l p d h) = omega arith
    go v (Q.wrong n p d (inl l)) = omega (arith, d.within)
    go v (Q.wrong n p d (inr h)) = omega arith
    go v (Q.many l t x u e f) = omega (arith, step_before_end t x u, ap length e)

pub record_place : (s : List ℕ) → (record_verdict s).place ≤ max_bytes
record_place s = go (record_verdict s) (record_says s)
  where
    go : (v : Verdict) → RecordSays s v → v.place ≤ max_bytes
    go v (J.taken l x) = omega arith
    go v (J.long l) = omega arith
    go v (J.wrong p l n d h) = omega (arith, d.within)
    go v (J.deep p l h) = omega (arith, opens_inside h)
