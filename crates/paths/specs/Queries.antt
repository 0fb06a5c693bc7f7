-- What the path of a node is as a query, and which paths are equal (change request S-4).
use Rattle.std.specs.Prelude.{◌≡◌, ◌↔◌, List, ℕ, ◌≤◌, length}
use Rattle.encoding.specs.Verdict.{taken}
use Rattle.json_text.specs.Grammar.{Tree}
use Rattle.query.specs.Grammar.{Query}
use Rattle.query.specs.Verdict.{max_query_bytes, max_steps, query_verdict, steps_in}
use Rattle.select.specs.Nodes.{Node}
use Rattle.select.specs.Picked.{Picked}
use Rattle.answers.specs.Within.{QueryIs}
use Rattle.paths.specs.Normalized.{labels_on, PathOf}

-- "as a query it picks out exactly the nodes whose path is equal, the given one among them"
pub record PicksEqual (t : Tree) (n : Node) (s : List ℕ) : Type 0 where
  pub tree : Query
  pub query : QueryIs s tree
  pub verdict : query_verdict s ≡ taken
  pub exactly : (m : Node) → Picked t (steps_in s) m ↔ PathOf t m s
  pub itself : Picked t (steps_in s) n

-- what is said of the paths of a record that is taken
pub record Queries (t : Tree) : Type 0 where
  -- "If that path has at most 16 steps and 1,024 bytes": each label is a step
  pub picks : {n : Node} {s : List ℕ} (p : PathOf t n s) → length (labels_on p.node) ≤ max_steps → length s ≤ max_query_bytes → PicksEqual t n s
  -- two paths are equal exactly if their labels are
  pub equal : {n m : Node} {s u : List ℕ} (p : PathOf t n s) (q : PathOf t m u) → (s ≡ u) ↔ (labels_on p.node ≡ labels_on q.node)
  -- and a node has no two paths
  pub one : {n : Node} {s u : List ℕ} → PathOf t n s → PathOf t n u → s ≡ u
