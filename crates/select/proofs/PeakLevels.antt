-- No pile has more frames than the record has levels below its root: each frame is that of a container one level further down.
-- Assumes nothing.
use Rattle.std.specs.Prelude.{◌≡◌, ◌⊎◌, ℕ, ◌+◌, ◌-◌, ◌≤◌, ◌<◌, max, length}
use mathlib.Core.List.Memᴰ
use mathlib.Core.List.{List, Memᴰ}
use Rattle.std.proofs.Common.{inl, inr, arith}
use Rattle.json_text.specs.Grammar.{Kind, Value, literal, number, string, container, Items, empty, items, More, end, more, Tree}
use Rattle.json_text.specs.Grammar.{nesting, items_nesting, more_nesting}
use Rattle.query.specs.Steps.{Step}
use Rattle.select.specs.Nodes.{Label, Node, Child, child, size, key_size, label_of, more_children, items_children, value_children, children}
use Rattle.select.specs.Nodes.{IsChild, IsContainer, holds, root}
use Rattle.select.specs.Children.{first_or_rest}
use Rattle.select.specs.Marks.{Frames, Peak}
use Rattle.select.specs.Marks as M
use Rattle.select.proofs.PeakIs.{frames_container}

-- a node has at most so many levels
abbrev AtMost : ℕ → Node → Type 0
AtMost n c = nesting c.value ≤ n

more_levels : {k : Kind} {c : Child} (xs : More k) (j a : ℕ) → Memᴰ c (more_children xs j a) → AtMost (more_nesting xs) c.node
unfolding more_children nesting
more_levels (end w) j a m = absurd (Memᴰ.not-nil m)
more_levels {k} (more w w' key v xs) j a m =
    let b = a + length w + 1 + length w' + key_size k key in
    first_or_rest (AtMost (max (nesting v) (more_nesting xs))) {x = child (label_of k key j) v b} (omega arith)
    (λ m'. omega (arith, more_levels xs (j + 1) (b + size v) m')) m

items_levels : {k : Kind} {c : Child} (is : Items k) (a : ℕ) → Memᴰ c (items_children is a) → AtMost (items_nesting is) c.node
unfolding items_children nesting
items_levels (empty w) a m = absurd (Memᴰ.not-nil m)
items_levels {k} (items w key v xs) a m =
    let b = a + length w + key_size k key in
    first_or_rest (AtMost (max (nesting v) (more_nesting xs))) {x = child (label_of k key 0) v b} (omega arith)
    (λ m'. omega (arith, more_levels xs 1 (b + size v) m')) m

value_levels : {c : Child} (v : Value) (a : ℕ) → Memᴰ c (value_children v a) → nesting c.node.value < nesting v
unfolding value_children nesting
value_levels (literal l) a m = absurd (Memᴰ.not-nil m)
value_levels (number g n f e) a m = absurd (Memᴰ.not-nil m)
value_levels (string cs) a m = absurd (Memᴰ.not-nil m)
value_levels (container k is) a m = omega (arith, items_levels is (a + 1) m)

child_levels : (p : Node) (l : Label) (n : Node) → IsChild p l n → nesting n.value < nesting p.value
unfolding IsChild children
child_levels p l n m = value_levels p.value p.first m

container_levels : {n : Node} → IsContainer n → 0 < nesting n.value
unfolding nesting
container_levels (holds k is) = omega arith

module _ (r : Node) (q : List Step) where
  frames_levels : {n : Node} {j : ℕ} → Frames r q n j → j + nesting n.value ≤ nesting r.value
  frames_levels M.start = omega arith
  frames_levels (M.same {p} {n} l f c is s) = omega (arith, frames_levels f, child_levels p l n c)
  frames_levels (M.frame {p} {n} l f c is s) = omega (arith, frames_levels f, child_levels p l n c)

pub peak_levels : (t : Tree) (q : List Step) (k : ℕ) → Peak t q k → k ≤ nesting t.value - 1
unfolding root
peak_levels t q k x = go (frames_container (root t) q x.reached)
  where
    go : (k ≡ 0) ⊎ IsContainer x.node → k ≤ nesting t.value - 1
    go (inl e) = omega arith
    go (inr is) = omega (arith, frames_levels (root t) q x.reached, container_levels is)
