-- Picked out, marks and frames as tests on the way to a node, so that they compute. Each is proved to be what Picked.antt and Marks.antt say.
use Rattle.std.specs.Prelude.{List, [], ◌∷◌, reverse, Bool, true, false, ◌&&◌, ◌||◌, ℕ, zero, suc, ◌+◌, max, ltb, eqb, length, take}
use Rattle.std.specs.Bool.{beq}
use Rattle.std.proofs.Math.ListN.{get_elem?}
use Rattle.encoding.specs.Bytes.{same_numbers}
use Rattle.json_text.specs.Grammar.{Value, literal, number, string, container, Tree}
use Rattle.query.specs.Steps.{Selector, name, every, position, Step, is_deep}
use Rattle.select.specs.Nodes.{Label, member, element, Node, end_of}
use Rattle.select.specs.Visits.{Visit, Way, nodes}

-- a selector takes the child with this label; names are compared by their code points
unfoldable pub hits : Selector → Label → Bool
unfolding same_numbers
hits every l = true
hits (name k) (member k') = same_numbers k k'
hits (name k) (element j) = false
hits (position j) (member k) = false
hits (position j) (element j') = eqb j j'

-- f holds of the node at the way w, or, where the step is deep, of it or of some node above it
unfoldable pub reached : (deep : Bool) → (Way → Bool) → Way → Bool
reached false f w = f w
reached true f [] = f []
reached true f (l ∷ w) = f (l ∷ w) || reached true f w

-- the steps, given with the last one first, pick out the node at this way
unfoldable pub picks_back : List Step → Way → Bool
unfolding hits reached
picks_back [] [] = true
picks_back [] (l ∷ w) = false
picks_back (s ∷ q) [] = false
picks_back (s ∷ q) (l ∷ w) = hits s.selector l && reached s.deep (picks_back q) w

unfoldable pub picks : List Step → Way → Bool
unfolding picks_back
picks q w = picks_back (reverse q) w

-- mark i of the node at this way, of a query's n marks
unfoldable pub mark : List Step → ℕ → Way → Bool
unfolding picks
mark q i [] = ltb i (length q) && picks (take i q) []
mark q i (l ∷ w) = ltb i (length q) && (picks (take i q) (l ∷ w) || (is_deep (get_elem? q i) && mark q i w))

-- the first n marks of two nodes are the same
unfoldable pub same_marks : List Step → ℕ → Way → Way → Bool
unfolding mark
same_marks q zero w w' = true
same_marks q (suc i) w w' = beq (mark q i w) (mark q i w') && same_marks q i w w'

unfoldable pub frame_if : Bool → ℕ → ℕ
frame_if true k = k
frame_if false k = k + 1

-- the frames on the path to the container at this way
unfoldable pub frames : List Step → Way → ℕ
unfolding same_marks frame_if
frames q [] = 0
frames q (l ∷ w) = frame_if (same_marks q (length q) w (l ∷ w)) (frames q w)

-- first byte, and the byte after the last
pub record Span : Type 0 where
  pub first : ℕ
  pub end : ℕ

unfoldable pub span_of : Node → Span
unfolding end_of
span_of n = record { first = n.first; end = end_of n }

unfoldable pub span_if : Bool → Node → List Span → List Span
unfolding span_of
span_if true n xs = span_of n ∷ xs
span_if false n xs = xs

-- the spans of the nodes that are picked out, in the order of the visits
unfoldable pub picked_spans : List Step → List (Visit Way) → List Span
unfolding picks span_if
picked_spans q [] = []
picked_spans q (v ∷ vs) = span_if (picks q v.state) v.node (picked_spans q vs)

unfoldable pub container_frames : Value → ℕ → ℕ
container_frames (literal l) k = 0
container_frames (number g n f e) k = 0
container_frames (string cs) k = 0
container_frames (container c is) k = k

-- the most frames of a container among the visits
unfoldable pub most_frames : List Step → List (Visit Way) → ℕ
unfolding frames container_frames
most_frames q [] = 0
most_frames q (v ∷ vs) = max (container_frames v.node.value (frames q v.state)) (most_frames q vs)

-- the nodes that a query picks out of a record, as pairs, and the peak
unfoldable pub spans : Tree → List Step → List Span
unfolding picked_spans nodes
spans t q = picked_spans q (nodes t)

unfoldable pub peak : Tree → List Step → ℕ
unfolding most_frames nodes
peak t q = most_frames q (nodes t)
