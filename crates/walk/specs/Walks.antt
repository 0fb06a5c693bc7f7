-- What both walks promise: the tally of all nodes of the record, each with the state of its way.
use Rattle.std.specs.Prelude.{◌≡◌, List, ℕ, ◌≤◌}
use Rattle.json_text.specs.Grammar.{Tree, text, nesting}
use Rattle.json_text.specs.Verdict.{max_depth}
use Rattle.query_parser.specs.Holds.{Holds}
use Rattle.query.specs.Steps.{Step}
use Rattle.query_parser.specs.declared.compiled.Kinds.{Kinds}
use Rattle.select.specs.Nodes.{root}
use Rattle.select.specs.Visits.{node_visits}
use Rattle.automaton.specs.State.{next, start}
use Rattle.automaton.specs.Tally.{tallied, fresh}
use Rattle.pairs.specs.Pairs.{tally_of}
use Rattle.pairs.specs.declared.Counts.{Counts}

-- of a query's names, kinds and operands, a record s and a lent list: what the list holds afterwards, and what has been counted
pub record Walks (names : List ℕ) (kinds : Kinds) (operands s list after : List ℕ) (c : Counts) : Type 0 where
  pub counts : (x : List Step) → Holds names x kinds operands → (t : Tree) → text t ≡ s → nesting t.value ≤ max_depth
      → tallied (fresh list) (node_visits (next x) (root t) (start x)) ≡ tally_of after c
