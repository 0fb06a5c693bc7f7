-- What a lister answers, and what its list holds afterwards (document 01, "Grounds for refusing"), as functions of its three arguments.
use Rattle.std.specs.Prelude.{◌≡◌, List, [], ◌∷◌, ◌++◌, ℕ, zero, suc, ◌*◌, ◌/◌, length, take, drop}
use Rattle.std.proofs.Math.Option.{Option, some, none}
use Rattle.encoding.specs.Verdict.{Verdict, taken, refused}
use Rattle.json_text.specs.Grammar.{Tree}
use Rattle.json_text.specs.TreeOf.{tree_of}
use Rattle.json_text.specs.Verdict.{record_verdict}
use Rattle.query.specs.Steps.{Step}
use Rattle.query.specs.Verdict.{query_verdict, steps_in}
use Rattle.select.specs.Ways.{Span, spans, peak}

-- the first of two verdicts that refuses
unfoldable pub or_else : Verdict → Verdict → Verdict
or_else v u = elim v.ground [ zero ↦ u | suc g ↦ v ]

-- grounds 1 to 6, in their order
unfoldable pub input_verdict : (query «record» : List ℕ) → Verdict
unfolding or_else query_verdict record_verdict
input_verdict q r = or_else (query_verdict q) (record_verdict r)

-- the nodes that the query picks out of the record, as pairs, in the order of their first bytes
unfoldable pub spans_of : Option Tree → List Step → List Span
unfolding spans
spans_of none q = []
spans_of (some t) q = spans t q

unfoldable pub spans_in : (query «record» : List ℕ) → List Span
unfolding spans_of tree_of steps_in
spans_in q r = spans_of (tree_of r) (steps_in q)

unfoldable pub peak_of : Option Tree → List Step → ℕ
unfolding peak
peak_of none q = 0
peak_of (some t) q = peak t q

unfoldable pub peak_in : (query «record» : List ℕ) → ℕ
unfolding peak_of tree_of steps_in
peak_in q r = peak_of (tree_of r) (steps_in q)

-- the pairs that a list of numbers has
unfoldable pub pairs_of : List ℕ → ℕ
pairs_of l = length l / 2

-- ground 7: more nodes than pairs; the place is the first byte of the first node left over
unfoldable pub left_over : List Span → Verdict
left_over [] = taken
left_over (s ∷ ss) = refused 7 s.first

unfoldable pub list_verdict : List Span → List ℕ → Verdict
unfolding left_over pairs_of
list_verdict ss l = left_over (drop (pairs_of l) ss)

-- all grounds of a lister
unfoldable pub verdict : (query «record» list : List ℕ) → Verdict
unfolding or_else input_verdict list_verdict spans_in
verdict q r l = or_else (input_verdict q r) (list_verdict (spans_in q r) l)

-- the nodes that are written: as many as the list has pairs for; none on grounds 1 to 6
unfoldable pub written_if : ℕ → List Span → List ℕ → List Span
unfolding pairs_of
written_if zero ss l = take (pairs_of l) ss
written_if (suc g) ss l = []

unfoldable pub written : (query «record» list : List ℕ) → List Span
unfolding written_if input_verdict spans_in
written q r l = written_if (input_verdict q r).ground (spans_in q r) l

-- a refusal's peak is 0
unfoldable pub peak_if : ℕ → ℕ → ℕ
peak_if zero k = k
peak_if (suc g) k = 0

-- the numbers of pairs, one after the other
unfoldable pub flat : List Span → List ℕ
flat [] = []
flat (s ∷ ss) = s.first ∷ s.end ∷ flat ss

-- the four numbers of the answer
unfoldable pub ground : (query «record» list : List ℕ) → ℕ
unfolding verdict
ground q r l = (verdict q r l).ground

unfoldable pub place : (query «record» list : List ℕ) → ℕ
unfolding verdict
place q r l = (verdict q r l).place

unfoldable pub pairs : (query «record» list : List ℕ) → ℕ
unfolding written
pairs q r l = length (written q r l)

unfoldable pub peak_answer : (query «record» list : List ℕ) → ℕ
unfolding peak_if verdict peak_in
peak_answer q r l = peak_if (verdict q r l).ground (peak_in q r)

-- and the list afterwards: what is written stands at its start, and every number beyond keeps what it held
unfoldable pub list_after : (query «record» list : List ℕ) → List ℕ
unfolding flat written
list_after q r l = flat (written q r l) ++ drop (2 * length (written q r l)) l

-- a lister's promise
pub record Lists (query «record» list after : List ℕ) (g p n k : ℕ) : Type 0 where
  pub ground_is : g ≡ ground query «record» list
  pub place_is : p ≡ place query «record» list
  pub pairs_are : n ≡ pairs query «record» list
  pub peak_is : k ≡ peak_answer query «record» list
  pub list_is : after ≡ list_after query «record» list
