-- Query trees and record trees within the limits of document 01: what is taken, in the words of the grammars.
use Rattle.std.specs.Prelude.{◌≡◌, List, ℕ, ◌≤◌, length}
use Rattle.json_text.specs.Grammar.{Tree, nesting}
use Rattle.json_text.specs.Grammar as J
use Rattle.json_text.specs.Verdict.{max_bytes, max_depth}
use Rattle.query.specs.Grammar.{Query}
use Rattle.query.specs.Grammar as Q
use Rattle.query.specs.Verdict.{max_query_bytes, max_steps}

-- s is a query: the text of a tree, with at most 1,024 bytes and at most 16 steps
pub record QueryIs (s : List ℕ) (tree : Query) : Type 0 where
  pub written : Q.text tree ≡ s
  pub bytes : length s ≤ max_query_bytes
  pub steps : length tree ≤ max_steps

-- s is a record: the text of a tree, with at most 16,777,216 bytes and at most 512 levels
pub record RecordIs (s : List ℕ) (tree : Tree) : Type 0 where
  pub written : J.text tree ≡ s
  pub bytes : length s ≤ max_bytes
  pub levels : nesting tree.value ≤ max_depth
