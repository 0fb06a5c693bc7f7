-- What a lister answers, ground by ground, in the words of document 01, "Grounds for refusing".
use Rattle.std.specs.Prelude.{◌≡◌, List, [], ◌∷◌, ◌++◌, ℕ, ◌*◌, ◌≤◌, ◌<◌, length, drop}
use Rattle.encoding.specs.Verdict.{Verdict}
use Rattle.encoding.specs.Verdict as verdict
use Rattle.json_text.specs.Grammar.{Tree}
use Rattle.json_text.specs.Verdict.{RecordSays}
use Rattle.query.specs.Grammar.{Query, steps_of}
use Rattle.query.specs.Verdict.{QuerySays}
use Rattle.select.specs.Nodes.{Node, end_of}
use Rattle.select.specs.Marks.{Peak}
use Rattle.answers.specs.Lister.{pairs_of}
use Rattle.answers.specs.Outcome.{Outcome, done, refused}
use Rattle.answers.specs.Enumerates.{Enumerates}
use Rattle.answers.specs.Within.{QueryIs, RecordIs}

-- nodes as the numbers of a list: "two to a node: first byte, and the byte after the last"
unfoldable pub numbers : List Node → List ℕ
unfolding end_of
numbers [] = []
numbers (n ∷ ns) = n.first ∷ end_of n ∷ numbers ns

-- nodes at a list's start; every number beyond keeps what it held
unfoldable pub holding : List Node → List ℕ → List ℕ
unfolding numbers
holding ns list = numbers ns ++ drop (2 * length ns) list

pub data ListerSays (query text list : List ℕ) : Outcome → Type 0 where
  -- 1 to 3: what the verdict says of the query; nothing is written
  query_refused : (v : Verdict) → QuerySays query v → 0 < v.ground → ListerSays query text list (refused v.ground v.place 0 list)
  -- 4 to 6: the query is taken; what the verdict says of the record; nothing is written
  record_refused : QuerySays query verdict.taken → (v : Verdict) → RecordSays text v → 0 < v.ground →
      ListerSays query text list (refused v.ground v.place 0 list)
  -- 7: query and record are taken, and more nodes are picked out than the list has pairs; n is the first one left over,
  -- and the list holds all nodes before it
  left_over : (q : Query) (t : Tree) → QueryIs query q → RecordIs text t →
      (before : List Node) (n : Node) (after : List Node) → Enumerates t (steps_of q) (before ++ n ∷ after) → length before ≡ pairs_of list →
      ListerSays query text list (refused 7 n.first (length before) (holding before list))
  -- 0: query and record are taken, and the list has a pair for each node; k is the peak
  all : (q : Query) (t : Tree) → QueryIs query q → RecordIs text t →
      (ns : List Node) → Enumerates t (steps_of q) ns → length ns ≤ pairs_of list → (k : ℕ) → Peak t (steps_of q) k →
      ListerSays query text list (done (length ns) k (holding ns list))
