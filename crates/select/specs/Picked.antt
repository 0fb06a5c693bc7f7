-- What a query picks out (document 01, "The part of RFC 9535").
use Rattle.std.specs.Prelude.{◌≡◌, List, [], ◌∷◌, reverse, Bool, true, false}
use Rattle.query.specs.Steps.{Selector, name, every, position, Step}
use Rattle.json_text.specs.Grammar.{Tree}
use Rattle.select.specs.Nodes.{Label, member, element, Node, IsChild, Below, root}

-- `*` takes every member of an object and every element of an array; a name takes members only, those whose name has the same code points
-- (RFC 9535 §2.3.1.2, change request S-2); a position takes the element of an array that has it, and nothing of an object (change request S-1)
abbrev pub Hits : Selector → Label → Type 0
Hits every l = Unit {0}
Hits (name k) (member k') = k ≡ k'
Hits (name k) (element j) = ⊥
Hits (position j) (member k) = ⊥
Hits (position j) (element j') = j ≡ j'

-- what the plain form of a step takes from p
pub record TakesChild (sel : Selector) (p c : Node) : Type 0 where
  pub label : Label
  pub child : IsChild p label c
  pub hits : Hits sel label

-- what a deep step takes from p: what its plain form takes from p or from any node below it
pub record TakesBelow (sel : Selector) (p c : Node) : Type 0 where
  pub from : Node
  pub below : Below p from
  pub takes : TakesChild sel from c

abbrev pub TakesAs : Bool → Selector → Node → Node → Type 0
TakesAs false sel p c = TakesChild sel p c
TakesAs true sel p c = TakesBelow sel p c

abbrev pub Takes : Step → Node → Node → Type 0
Takes s p c = TakesAs s.deep s.selector p c

-- the steps are given with the last one first: without steps the root alone; with one step more every node that this step takes
-- from some node that the steps before it pick out
abbrev pub PickedBack : Node → List Step → Node → Type 0
PickedBack r [] n = n ≡ r
PickedBack r (s ∷ before) n = (m : Node) × PickedBack r before m × Takes s m n

-- n is picked out of a record with the root r by a query with these steps
abbrev pub PickedFrom : Node → List Step → Node → Type 0
PickedFrom r q n = PickedBack r (reverse q) n

unfoldable pub Picked : Tree → List Step → Node → Type 0
Picked t q n = PickedFrom (root t) q n
