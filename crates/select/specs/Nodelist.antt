-- RFC 9535's own account of a query: nodelists, segment by segment, with repetitions (§2.1.2 and §2.5).
use mathlib.Core.List.{List, [], ◌∷◌, map, flat_map}
use Rattle.std.specs.Prelude.{Bool, true, false}
use Rattle.json_text.specs.Grammar.{Tree}
use Rattle.query.specs.Steps.{Selector, Step}
use Rattle.select.specs.Nodes.{Node, root, Child, children}
use Rattle.select.specs.Visits.{Visit, Way, step, node_visits}
use Rattle.select.specs.Ways.{hits}

unfoldable pub node_if : Bool → Node → List Node → List Node
node_if true n ns = n ∷ ns
node_if false n ns = ns

-- §2.3: the children that a selector takes, in order
unfoldable pub selected : Selector → List Child → List Node
unfolding hits node_if
selected sel [] = []
selected sel (c ∷ cs) = node_if (hits sel c.label) c.node (selected sel cs)

-- §2.5.2.2: the input value and its descendants, each before its children, children in order
unfoldable pub descendants : Node → List Node
unfolding node_visits
descendants n = map (λ (v : Visit Way). v.node) (node_visits step n [])

-- §2.5.1.2 and §2.5.2.2: a child segment, and a descendant segment, applied to one node
unfoldable pub segment : (deep : Bool) → Selector → Node → List Node
unfolding selected descendants flat_map children
segment false sel n = selected sel (children n)
segment true sel n = flat_map (λ m. selected sel (children m)) (descendants n)

-- §2.1.2: each segment is applied to each node of the nodelist that the segments before it gave, and the results stand one after the other
unfoldable pub applied : List Step → List Node → List Node
unfolding segment flat_map
applied [] ns = ns
applied (s ∷ q) ns = applied q (flat_map (segment s.deep s.selector) ns)

unfoldable pub nodelist : Tree → List Step → List Node
unfolding applied root
nodelist t q = applied q (root t ∷ [])
