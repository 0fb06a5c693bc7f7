-- Labels that a normalized path can be made of: names of code points alone, and positions.
use Rattle.std.specs.Prelude.{List, [], ◌∷◌, ℕ}
use Rattle.encoding.specs.PointsLaws.{Scalar}
use Rattle.select.specs.Nodes.{Label, member, element}

-- code points alone, and no half of a surrogate pair
pub data Whole : List ℕ → Type 0 where
  none : Whole []
  more : {n : ℕ} {ns : List ℕ} → Scalar n → Whole ns → Whole (n ∷ ns)

pub data WholeLabel : Label → Type 0 where
  name : {k : List ℕ} → Whole k → WholeLabel (member k)
  position : (j : ℕ) → WholeLabel (element j)

pub data WholeLabels : List Label → Type 0 where
  none : WholeLabels []
  more : {l : Label} {ls : List Label} → WholeLabel l → WholeLabels ls → WholeLabels (l ∷ ls)
