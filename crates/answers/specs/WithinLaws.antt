-- A text has one tree, so the verdicts, the steps and the tree that are computed are those of the tree. Assumes nothing.
use Rattle.std.specs.Prelude.{◌≡◌, List, ℕ}
use Rattle.std.proofs.Common.{sym, ap, ◌∙◌, arith}
use Rattle.std.proofs.Math.Option.{some}
use Rattle.encoding.specs.Verdict.{Verdict, taken}
use Rattle.json_text.specs.Grammar.{Tree}
use Rattle.json_text.specs.TreeOf.{tree_of}
use Rattle.json_text.proofs.TreeOfLaws.{tree_of_text}
use Rattle.json_text.specs.Verdict.{RecordSays, record_verdict}
use Rattle.json_text.specs.Verdict as json
use Rattle.json_text.proofs.Says.{record_says, record_taken}
use Rattle.query.specs.Grammar.{Query, steps_of}
use Rattle.query.specs.Verdict.{QuerySays, steps_in, query_verdict}
use Rattle.query.specs.Verdict as query
use Rattle.query.proofs.Says.{steps_in_text, query_says, query_taken}
use Rattle.answers.specs.Within.{QueryIs, RecordIs}

module _ {s : List ℕ} {q : Query} (h : QueryIs s q) where
  pub query_is_taken : query_verdict s ≡ taken
  query_is_taken = (query_taken s).1 (h.bytes, q, h.written, h.steps)

  pub query_steps : steps_in s ≡ steps_of q
  query_steps = ap steps_in (sym h.written) ∙ steps_in_text q

module _ {s : List ℕ} {t : Tree} (h : RecordIs s t) where
  pub record_is_taken : record_verdict s ≡ taken
  record_is_taken = (record_taken s).1 (h.bytes, record { tree = t; written = h.written; shallow = h.levels })

  pub record_tree : tree_of s ≡ some t
  record_tree = ap tree_of (sym h.written) ∙ tree_of_text t

-- a record without a ground has a tree within the limits
pub taken_record : (s : List ℕ) → (record_verdict s).ground ≡ 0 → (t : Tree) × RecordIs s t
taken_record s e = go (record_says s) e
  where
    go : {v : Verdict} → RecordSays s v → v.ground ≡ 0 → (t : Tree) × RecordIs s t
    go (json.taken l j) z = (j.tree, record { written = j.written; bytes = l; levels = j.shallow })
    go (json.long l) z = absurd (omega arith)
    go (json.wrong p l f d a) z = absurd (omega arith)
    go (json.deep p l q) z = absurd (omega arith)

-- and so has a query
pub taken_query : (s : List ℕ) → (query_verdict s).ground ≡ 0 → (q : Query) × QueryIs s q
taken_query s e = go (query_says s) e
  where
    go : {v : Verdict} → QuerySays s v → v.ground ≡ 0 → (q : Query) × QueryIs s q
    go (query.taken l q w n) z = (q, record { written = w; bytes = l; steps = n })
    go (query.long h p d l) z = absurd (omega arith)
    go (query.wrong f p d l) z = absurd (omega arith)
    go (query.many l q x u w n) z = absurd (omega arith)
