-- The nodes of a record stand where they are said to: from its first byte to its last one, a node's bytes are those of its value.
-- What stands before a child in its parent's text has the length by which its place is counted. Assumes nothing.
use Rattle.std.specs.Prelude.{◌≡◌, refl, ℕ, ◌+◌, ◌-◌, take, drop}
use Rattle.std.proofs.Common.{sym, ap, subst, ◌∙◌, arith, length-append, take_at, drop_at}
use mathlib.Core.List.Memᴰ
use mathlib.Core.List.{List, [], ◌∷◌, ◌++◌, append_assoc, Memᴰ}
use Rattle.std.proofs.Math.ListN.{length}
use Rattle.encoding.specs.BytesLaws.{blanks_split, length_blanks}
use Rattle.json_text.specs.Grammar.{Kind, Value, literal, number, string, container, Items, empty, items}
use Rattle.json_text.specs.Grammar.{More, end, more, opening, put_value, put_items, put_more, Tree, text}
use Rattle.json_text.specs.Append.{key_split, value_split}
use Rattle.select.specs.Nodes.{Label, Node, Child, size, key_size, end_of, root, children}
use Rattle.select.specs.Nodes.{value_children, items_children, more_children, IsChild, Below, IsNode}
use Rattle.select.specs.Nodes as N

-- from place a on, s goes on with x
pub record At (s : List ℕ) (a : ℕ) (x : List ℕ) : Type 0 where
  pub before : List ℕ
  pub split : s ≡ before ++ x
  pub place : length before ≡ a

-- behind what is written there
behind : {W : Type 0} {put : W → List ℕ → List ℕ} {s x : List ℕ} {a : ℕ} (b : ℕ)
    → ((w : W) (u : List ℕ) → put w u ≡ put w [] ++ u) → (w : W) → At s a (put w x) → b ≡ a + length (put w []) → At s b x
behind {W} {put} {s} {x} {a} b law w h e = record {
  before = h.before ++ put w [];
  split = h.split ∙ ap (λ (z : List ℕ). h.before ++ z) (law w x) ∙ sym (append_assoc h.before (put w []) x);
  place = omega (arith, length-append h.before (put w []), h.place);
}

byte_split : (c : ℕ) (u : List ℕ) → c ∷ u ≡ (c ∷ []) ++ u
byte_split c u = refl

-- a node's value is written from its first byte on
pub record Stands (s : List ℕ) (n : Node) : Type 0 where
  pub rest : List ℕ
  pub written : At s n.first (put_value n.value rest)

module _ (s : List ℕ) where
  first_or_rest : {c d : Child} {cs : List Child} → Stands s d.node → (Memᴰ c cs → Stands s c.node) → Memᴰ c (d ∷ cs)
      → Stands s c.node
  first_or_rest h f (Memᴰ.head e) = subst (λ (c : Child). Stands s c.node) (sym e) h
  first_or_rest h f (Memᴰ.tail m) = f m

  more_stands : {k : Kind} {c : Child} (m : More k) (j a : ℕ) (rest : List ℕ) → At s a (put_more m rest) → Memᴰ c (more_children m j a)
      → Stands s c.node
  unfolding put_more more_children key_size size
  more_stands (end w) j a rest h i = absurd (Memᴰ.not-nil i)
  more_stands {k} (more w w' key v m) j a rest h i =
      let b = a + length w + 1 + length w' + key_size k key in
      let x = behind (a + length w) blanks_split w h (omega (arith, length_blanks w [])) in
      let y = behind (a + length w + 1) byte_split 0x2C x (omega arith) in
      let z = behind (a + length w + 1 + length w') blanks_split w' y (omega (arith, length_blanks w' [])) in
      let here = behind b (key_split k) key z (omega arith) in
      first_or_rest
      (record { rest = put_more m rest; written = here })
      (λ i'. more_stands m (j + 1) (b + size v) rest (behind (b + size v) value_split v here (omega arith)) i')
      i

  items_stands : {k : Kind} {c : Child} (is : Items k) (a : ℕ) (rest : List ℕ) → At s a (put_items is rest)
      → Memᴰ c (items_children is a) → Stands s c.node
  unfolding put_items items_children key_size size
  items_stands (empty w) a rest h i = absurd (Memᴰ.not-nil i)
  items_stands {k} (items w key v m) a rest h i =
      let b = a + length w + key_size k key in
      let x = behind (a + length w) blanks_split w h (omega (arith, length_blanks w [])) in
      let here = behind b (key_split k) key x (omega arith) in
      first_or_rest
      (record { rest = put_more m rest; written = here })
      (λ i'. more_stands m 1 (b + size v) rest (behind (b + size v) value_split v here (omega arith)) i')
      i

  value_stands : {c : Child} (v : Value) (a : ℕ) (rest : List ℕ) → At s a (put_value v rest) → Memᴰ c (value_children v a) → Stands s c.node
  unfolding put_value value_children
  value_stands (literal l) a rest h i = absurd (Memᴰ.not-nil i)
  value_stands (number g n f e) a rest h i = absurd (Memᴰ.not-nil i)
  value_stands (string cs) a rest h i = absurd (Memᴰ.not-nil i)
  value_stands (container k is) a rest h i = items_stands is (a + 1) rest (behind (a + 1) byte_split (opening k) h (omega arith)) i

  -- where a node stands, so do its children
  pub child_stands : (p : Node) (l : Label) (c : Node) → Stands s p → IsChild p l c → Stands s c
  unfolding IsChild children
  child_stands p l c h i = value_stands p.value p.first h.rest h.written i

  below_stands : {p n : Node} → Stands s p → Below p n → Stands s n
  below_stands h N.same = h
  below_stands h (N.down {m} {n} l b c) = child_stands m l n (below_stands h b) c

-- every node of a record stands in its text
pub node_stands : (t : Tree) (n : Node) → IsNode t n → Stands (text t) n
unfolding IsNode text root
node_stands t n b = below_stands (text t) top b
  where
    top : Stands (text t) (root t)
    top = record {
      rest = _;
      written =
          behind (length t.before) blanks_split t.before (record { before = []; split = refl; place = refl })
          (omega (arith, length_blanks t.before []));
    }

-- so its bytes there are those of its value
pub node_bytes : (t : Tree) (n : Node) → IsNode t n → take (end_of n - n.first) (drop n.first (text t)) ≡ put_value n.value []
unfolding end_of size
node_bytes t n b =
    let h = node_stands t n b in
    let at = h.written in
    let v = put_value n.value [] in
    let from : drop n.first (text t) ≡ v ++ h.rest =
    ap (drop n.first) at.split
    ∙ drop_at at.before (put_value n.value h.rest) n.first at.place
    ∙ value_split n.value h.rest in
    ap (take (end_of n - n.first)) from ∙ take_at v h.rest (end_of n - n.first) (omega arith)
