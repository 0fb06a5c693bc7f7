-- The nodes that a query picks out of a record, as a list: each once, in the order of their first bytes.
use Rattle.std.specs.Prelude.{◌≡◌, ℕ, ◌<◌}
use mathlib.Core.List.{List, Memᴰ}
use Rattle.std.proofs.Math.Option.{some}
use Rattle.std.proofs.Math.ListN.{get_elem?}
use Rattle.json_text.specs.Grammar.{Tree}
use Rattle.query.specs.Steps.{Step}
use Rattle.select.specs.Nodes.{Node}
use Rattle.select.specs.Picked.{Picked}

-- a node that stands earlier in the list has the smaller first byte; so none stands in it twice
abbrev pub FirstsRise : List Node → Type 0
FirstsRise ns = (i j : ℕ) (m n : Node) → i < j → get_elem? ns i ≡ some m → get_elem? ns j ≡ some n → m.first < n.first

-- document 01, "The part of RFC 9535" and its departures: ns are the nodes that the query picks out, each once, in the order of their first bytes
pub record Enumerates (t : Tree) (q : List Step) (ns : List Node) : Type 0 where
  -- every node that is picked out
  pub each : (n : Node) → Picked t q n → Memᴰ n ns
  -- and no other
  pub only : (n : Node) → Memᴰ n ns → Picked t q n
  pub rising : FirstsRise ns
