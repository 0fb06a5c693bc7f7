-- Marks, frames and the peak (document 01, "Marks, frames, the pile").
use Rattle.std.specs.Prelude.{◌≡◌, ◌↔◌, Bool, true, ℕ, suc, ◌+◌, ◌≤◌, ◌<◌, length, take}
use mathlib.Core.List.{List, Memᴰ}
use Rattle.std.proofs.Math.Option.{some}
use Rattle.std.proofs.Math.ListN.{get_elem?}
use Rattle.json_text.specs.Grammar.{Tree}
use Rattle.query.specs.Steps.{Step}
use Rattle.select.specs.Nodes.{Label, Node, IsChild, IsContainer, root}
use Rattle.select.specs.Picked.{PickedFrom}

-- step i + 1 of the query is deep
abbrev pub IsDeepStep : List Step → ℕ → Type 0
IsDeepStep q i = (s : Step) × (get_elem? q i ≡ some s) × (s.deep ≡ true)

-- a node has mark i if the first i steps, as a query, pick it out, or if step i + 1 is deep and its parent has mark i
pub data Mark (r : Node) (q : List Step) (i : ℕ) : Node → Type 0 where
  picked : {n : Node} → i < length q → PickedFrom r (take i q) n → Mark r q i n
  kept : {p n : Node} (l : Label) → i < length q → IsDeepStep q i → Mark r q i p → IsChild p l n → Mark r q i n

-- two nodes have the same marks
unfoldable pub SameMarks : Node → List Step → Node → Node → Type 0
SameMarks r q p n = (i : ℕ) → Mark r q i p ↔ Mark r q i n

-- on the path from the root down to the container n there are k containers, below the root, whose marks differ from those of the container
-- around them
pub data Frames (r : Node) (q : List Step) : Node → ℕ → Type 0 where
  start : Frames r q r 0
  same : {p n : Node} {k : ℕ} (l : Label) → Frames r q p k → IsChild p l n → IsContainer n → SameMarks r q p n → Frames r q n k
  frame : {p n : Node} {k : ℕ} (l : Label) → Frames r q p k → IsChild p l n → IsContainer n → (SameMarks r q p n → ⊥) → Frames r q n (suc k)

-- the peak: the greatest number of such containers on one path down from the root
pub record Peak (t : Tree) (q : List Step) (k : ℕ) : Type 0 where
  pub bound : (n : Node) (j : ℕ) → Frames (root t) q n j → j ≤ k
  pub node : Node
  pub reached : Frames (root t) q node k

-- every step is of this kind
abbrev pub AllSteps : (deep : Bool) → List Step → Type 0
AllSteps d q = (s : Step) → Memᴰ s q → s.deep ≡ d

-- the peak of a query of deep steps only: at most the steps less one, or 0 for no step
pub record DeepPeak (q : List Step) (k : ℕ) : Type 0 where
  pub steps : 0 < length q → k + 1 ≤ length q
  pub bare : length q ≡ 0 → k ≡ 0
