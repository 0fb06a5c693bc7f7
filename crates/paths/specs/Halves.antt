-- Names with half of a surrogate pair on the way to a node (change request S-4, ground 9).
use mathlib.Core.List.{List, Memᴰ}
use Rattle.std.specs.Prelude.{ℕ, ◌≤◌}
use Rattle.encoding.specs.Points.{HasHalf}
use Rattle.json_text.specs.Grammar.{Tree}
use Rattle.select.specs.Nodes.{Node, Below, root}
use Rattle.paths.specs.Trails.{Link, named, Item, items_of}

-- a member on the way from the root down to n, which may be n itself, has a name with half of a pair; the name's opening quote stands at q
pub record HalfOn (t : Tree) (n : Node) (q : ℕ) : Type 0 where
  pub parent : Node
  pub above : Below (root t) parent
  pub child : Node
  pub name : List ℕ
  pub member : Memᴰ (record { link = named name q; node = child }) (items_of parent)
  pub half : HasHalf name
  pub below : Below child n

-- and it is the first such name
pub record FirstHalf (t : Tree) (n : Node) (q : ℕ) : Type 0 where
  pub half : HalfOn t n q
  pub first : (p : ℕ) → HalfOn t n p → q ≤ p
