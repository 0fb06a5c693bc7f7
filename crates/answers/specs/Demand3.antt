-- The third demand, clause by clause: what is given, and what a walk then answers and leaves in the list.
use Rattle.std.specs.Prelude.{◌≡◌, ◌↔◌, true, ℕ, ◌*◌, ◌≤◌, length, take, drop}
use mathlib.Core.List.{List, Memᴰ}
use Rattle.std.proofs.Math.Option.{some}
use Rattle.std.proofs.Math.ListN.{get_elem?}
use Rattle.json_text.specs.Grammar.{Tree, nesting}
use Rattle.json_text.specs.Grammar as J
use Rattle.json_text.specs.Verdict.{max_bytes, max_depth}
use Rattle.query.specs.Grammar.{Query, steps_of}
use Rattle.query.specs.Grammar as Q
use Rattle.query.specs.Verdict.{max_query_bytes, max_steps}
use Rattle.select.specs.Nodes.{Node}
use Rattle.select.specs.Picked.{Picked}
use Rattle.select.specs.Marks.{Peak, AllSteps, DeepPeak}
use Rattle.answers.specs.Outcome.{Outcome}
use Rattle.answers.specs.Enumerates.{FirstsRise, Enumerates}
use Rattle.answers.specs.ListerSays.{numbers}

-- "every query Q and every record R that are taken, and every list with a pair for each node that Q picks out"
pub record Given (q : Query) (t : Tree) (list : List ℕ) : Type 0 where
  pub query_bytes : length (Q.text q) ≤ max_query_bytes
  pub query_steps : length q ≤ max_steps
  pub record_bytes : length (J.text t) ≤ max_bytes
  pub record_levels : nesting t.value ≤ max_depth
  pub pair_for_each : (ns : List Node) → Enumerates t (steps_of q) ns → 2 * length ns ≤ length list

-- what a walk answers then, and leaves in the list
pub record Demand3 (q : Query) (t : Tree) (list : List ℕ) (o : Outcome) : Type 0 where
  -- "exactly these nodes"
  pub nodes : List Node
  pub exactly : (n : Node) → Memᴰ n nodes ↔ Picked t (steps_of q) n
  -- "each once, in the order of their first bytes"
  pub once : (i j : ℕ) (n : Node) → get_elem? nodes i ≡ some n → get_elem? nodes j ≡ some n → i ≡ j
  pub ordered : FirstsRise nodes
  -- "write from its start .., as the pairs of document 01"
  pub written : take (2 * length nodes) o.after ≡ numbers nodes
  -- "leave every number beyond them as it was"
  pub beyond : drop (2 * length nodes) o.after ≡ drop (2 * length nodes) list
  -- "answers ground 0, place 0, the number of these nodes as pairs written, and the peak of document 01"
  pub ground : o.ground ≡ 0
  pub place : o.place ≡ 0
  pub pairs : o.pairs ≡ length nodes
  pub peak : Peak t (steps_of q) o.peak
  -- "where Q has only deep steps the peak answered .. is at most one fewer than Q has steps, or none for no step"
  pub deep : AllSteps true (steps_of q) → DeepPeak (steps_of q) o.peak
