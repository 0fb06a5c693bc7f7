-- The positions on the way to a node of a record are those that a query may have: an element's position is at most its place, since the items
-- before it take a byte each, and a record has at most 16,777,216 bytes. Assumes nothing.
use Rattle.std.proofs.Common.{sym, ap, subst, arith}
use mathlib.Core.List.Memᴰ
use mathlib.Core.List.{List, [], ◌∷◌, ◌++◌, Memᴰ}
use Rattle.std.specs.Prelude.{ℕ, ◌+◌, ◌≤◌, length}
use Rattle.json_text.specs.Append.{length-text, value_positive}
use Rattle.json_text.specs.Grammar.{Kind, array, object, Key, Value, literal, number, string, container, Items, empty, items, More, end, more, Tree}
use Rattle.query.specs.Grammar.{max_position}
use Rattle.select.specs.Nodes.{Label, member, element, Node, Child, size, key_size, label_of, end_of, root, children}
use Rattle.select.specs.Nodes.{value_children, items_children, more_children, IsChild, Below, same, down}
use Rattle.select.specs.Order.{first_before_end, child_within, below_within}
use Rattle.answers.specs.Within.{RecordIs}
use Rattle.paths.specs.Normalized.{labels_on}

-- a position, if it is one, is at most a
abbrev UpTo : ℕ → Label → Type 0
UpTo a (member k) = Unit {0}
UpTo a (element j) = j ≤ a

abbrev pub Fits : Label → Type 0
Fits l = UpTo max_position l

abbrev pub AllFit : List Label → Type 0
AllFit [] = Unit {0}
AllFit (l ∷ ls) = Fits l × AllFit ls

-- the label of a child

label_up : (k : Kind) (key : Key k) (j a : ℕ) → j ≤ a → UpTo a (label_of k key j)
unfolding label_of
label_up array key j a h = h
label_up object key j a h = tt

abbrev Hangs : Child → Type 0
Hangs c = UpTo c.node.first c.label

first_or_rest : {c d : Child} {cs : List Child} → Hangs d → (Memᴰ c cs → Hangs c) → Memᴰ c (d ∷ cs) → Hangs c
first_or_rest h f (Memᴰ.head e) = subst Hangs (sym e) h
first_or_rest h f (Memᴰ.tail m) = f m

more_hang : {k : Kind} {c : Child} (m : More k) (j a : ℕ) → j ≤ a → Memᴰ c (more_children m j a) → Hangs c
unfolding more_children size
more_hang (end w) j a h i = absurd (Memᴰ.not-nil i)
more_hang {k} (more w w' key v m) j a h i =
    let b = a + length w + 1 + length w' + key_size k key in
    first_or_rest (label_up k key j b (omega arith)) (λ i'. more_hang m (j + 1) (b + size v) (omega (arith, value_positive v)) i') i

items_hang : {k : Kind} {c : Child} (is : Items k) (a : ℕ) → Memᴰ c (items_children is a) → Hangs c
unfolding items_children size
items_hang (empty w) a i = absurd (Memᴰ.not-nil i)
items_hang {k} (items w key v m) a i =
    let b = a + length w + key_size k key in
    first_or_rest (label_up k key 0 b (omega arith)) (λ i'. more_hang m 1 (b + size v) (omega (arith, value_positive v)) i') i

value_hang : {c : Child} (v : Value) (a : ℕ) → Memᴰ c (value_children v a) → Hangs c
unfolding value_children
value_hang (literal l) a i = absurd (Memᴰ.not-nil i)
value_hang (number g n f e) a i = absurd (Memᴰ.not-nil i)
value_hang (string cs) a i = absurd (Memᴰ.not-nil i)
value_hang (container k is) a i = items_hang is (a + 1) i

child_up : (p : Node) (l : Label) (c : Node) → IsChild p l c → UpTo c.first l
unfolding IsChild children
child_up p l c i = value_hang p.value p.first i

-- the labels on a way

fits_from : {a : ℕ} (l : Label) → a ≤ max_position → UpTo a l → Fits l
fits_from (member k) h u = tt
fits_from (element j) h u = omega arith

one_more : (ls : List Label) (l : Label) → AllFit ls → Fits l → AllFit (ls ++ (l ∷ []))
one_more [] l hs h = (h, tt)
one_more (x ∷ ls) l (y, hs) h = (y, one_more ls l hs h)

below_fit : {p n : Node} (h : Below p n) → n.first ≤ max_position → AllFit (labels_on h)
unfolding labels_on
below_fit same b = tt
below_fit (down {m} {n} l h c) b =
    one_more (labels_on h) l (below_fit h (omega (arith, (child_within m l n c).0))) (fits_from l b (child_up m l n c))

pub labels_fit : {r : List ℕ} {t : Tree} → RecordIs r t → {n : Node} (h : Below (root t) n) → AllFit (labels_on h)
unfolding end_of root size
labels_fit {r} {t} x {n} h =
    below_fit h (omega (arith, first_before_end n, (below_within h).1, length-text t, ap length x.written, x.bytes))
