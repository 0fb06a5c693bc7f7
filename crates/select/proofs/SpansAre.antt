-- The pairs listed are those of the nodes picked out, each once, by rising first bytes.
-- They are chosen from the visits, which are the nodes, in their order. Assumes nothing.
use Rattle.std.specs.Prelude.{◌≡◌, ◌↔◌, ◌⊎◌, Bool, ℕ, suc, ◌<◌}
use Rattle.std.proofs.Math.Path.{refl}
use Rattle.std.proofs.Common.{sym, ap, ◌∙◌, inl, inr, arith}
use mathlib.Core.List.Memᴰ
use mathlib.Core.List.{List, [], ◌∷◌, map, Memᴰ}
use Rattle.std.proofs.Math.Bool.{true, false}
use Rattle.std.proofs.lemmas.Bool.{false≢true}
use Rattle.std.proofs.Math.Option.{some}
use Rattle.std.proofs.Math.ListN.{get_elem?}
use Rattle.json_text.specs.Grammar.{Tree}
use Rattle.query.specs.Steps.{Step}
use Rattle.select.specs.Nodes.{Node, end_of, root}
use Rattle.select.specs.Picked.{Picked}
use Rattle.select.specs.Visits.{Visit, Way, nodes}
use Rattle.select.specs.Ways.{picks, Span, span_of, span_if, picked_spans, spans}
use Rattle.select.specs.Reach.{nodes_are}
use Rattle.select.specs.Order.{Rises, rises_lower, rises_earlier, firsts, nodes_rise, way_unique}
use Rattle.select.proofs.PickedIs.{picked_is}

-- the first bytes of pairs
abbrev pub first_bytes : List Span → List ℕ
first_bytes xs = map (λ x. x.first) xs

module _ (q : List Step) where
  -- each picked node has one pair, so first bytes rise as they do among the visits
  spans_rising : (a e : ℕ) (vs : List (Visit Way)) → Rises a (firsts vs) e → Rises a (first_bytes (picked_spans q vs)) e
  unfolding picked_spans span_if
  spans_rising a e [] r = r
  spans_rising a e (v ∷ vs) r = go (picks q v.state) (spans_rising (suc v.node.first) e vs r.1)
    where
      go : (b : Bool) → Rises (suc v.node.first) (first_bytes (picked_spans q vs)) e
          → Rises a (first_bytes (span_if b v.node (picked_spans q vs))) e
      go true rest = (r.0, rest)
      go false rest = rises_lower a (suc v.node.first) e (first_bytes (picked_spans q vs)) (omega (arith, r.0)) rest

  -- a visited node with this pair is picked out
  abbrev Chosen : Span → List (Visit Way) → Type 0
  Chosen x vs = (v : Visit Way) × Memᴰ v vs × (picks q v.state ≡ true) × (span_of v.node ≡ x)

  span_chosen : (x : Span) (vs : List (Visit Way)) → Memᴰ x (picked_spans q vs) → Chosen x vs
  unfolding picked_spans span_if
  span_chosen x [] m = absurd (Memᴰ.not-nil m)
  span_chosen x (v ∷ vs) m = go (picks q v.state) refl m (λ h. span_chosen x vs h)
    where
      later : Chosen x vs → Chosen x (v ∷ vs)
      later (u, h, e, p) = (u, Memᴰ.tail h, e, p)

      first : picks q v.state ≡ true → (x ≡ span_of v.node) ⊎ Memᴰ x (picked_spans q vs)
          → (Memᴰ x (picked_spans q vs) → Chosen x vs) → Chosen x (v ∷ vs)
      first e (inl p) rest = (v, Memᴰ.head refl, e, sym p)
      first e (inr h) rest = later (rest h)

      go : (b : Bool) → picks q v.state ≡ b → Memᴰ x (span_if b v.node (picked_spans q vs))
          → (Memᴰ x (picked_spans q vs) → Chosen x vs) → Chosen x (v ∷ vs)
      go true e m rest = first e (Memᴰ.cases_cons m) rest
      go false e m rest = later (rest m)

  chosen_span : (x : Span) (vs : List (Visit Way)) → Chosen x vs → Memᴰ x (picked_spans q vs)
  unfolding picked_spans span_if
  chosen_span x [] (v, m, e, p) = absurd (Memᴰ.not-nil m)
  chosen_span x (u ∷ vs) (v, m, e, p) = go (Memᴰ.cases_cons m) (λ h. chosen_span x vs (v, h, e, p))
    where
      taken : (b : Bool) → b ≡ true → x ≡ span_of u.node → Memᴰ x (span_if b u.node (picked_spans q vs))
      taken true h k = Memᴰ.head k
      taken false h k = absurd (false≢true h)

      later : (b : Bool) → Memᴰ x (picked_spans q vs) → Memᴰ x (span_if b u.node (picked_spans q vs))
      later true h = Memᴰ.tail h
      later false h = h

      go : (v ≡ u) ⊎ Memᴰ v vs → (Memᴰ v vs → Memᴰ x (picked_spans q vs))
          → Memᴰ x (span_if (picks q u.state) u.node (picked_spans q vs))
      go (inl h) rest =
          taken (picks q u.state) (ap (λ (z : Visit Way). picks q z.state) (sym h) ∙ e) (sym p ∙ ap (λ (z : Visit Way). span_of z.node) h)
      go (inr h) rest = later (picks q u.state) (rest h)

-- document 01, "The part of RFC 9535" and its departures: the pairs listed for a record and a query
pub record EachPickedOnce (t : Tree) (q : List Step) : Type 0 where
  -- every node that is picked out has its pair in the list
  pub each : (n : Node) → Picked t q n → Memᴰ (span_of n) (spans t q)
  -- and no other
  pub only : (x : Span) → Memᴰ x (spans t q) → (n : Node) × Picked t q n × (span_of n ≡ x)
  -- a pair is of one node
  pub one : (n n' : Node) → Picked t q n → Picked t q n' → span_of n ≡ span_of n' → n ≡ n'
  -- the first bytes strictly rise, so each node is listed once
  pub rising : (i j : ℕ) (x y : Span) → i < j → get_elem? (spans t q) i ≡ some x → get_elem? (spans t q) j ≡ some y → x.first < y.first

-- the same as a chain of first bytes, from the root's on and below its end
pub spans_rise : (t : Tree) (q : List Step) → Rises (root t).first (first_bytes (spans t q)) (end_of (root t))
unfolding spans
spans_rise t q = spans_rising q (root t).first (end_of (root t)) (nodes t) (nodes_rise t)

pub spans_are : (t : Tree) (q : List Step) (x : Span) → Memᴰ x (spans t q) ↔ ((n : Node) × Picked t q n × (span_of n ≡ x))
unfolding spans
spans_are t q x = (
  λ m.
      let (v, h, e, p) = span_chosen q x (nodes t) m in
      (v.node, (picked_is t q v.node).1 (v.state, (nodes_are t v.state v.node).0 h, e), p),
  λ k.
      let (n, h, p) = k in
      let (w, r, e) = (picked_is t q n).0 h in
      chosen_span q x (nodes t) (record { state = w; node = n }, (nodes_are t w n).1 r, e, p),
)

pub each_picked_once : (t : Tree) (q : List Step) → EachPickedOnce t q
unfolding span_of
each_picked_once t q = record {
  each = λ n h. (spans_are t q (span_of n)).1 (n, h, refl);
  only = λ x. (spans_are t q x).0;
  one = λ n n' h h' e. (way_unique ((picked_is t q n).0 h).1 ((picked_is t q n').0 h').1 (ap (λ x. x.first) e)).1;
  rising = rises_earlier (λ x. x.first) (root t).first (end_of (root t)) (spans t q) (spans_rise t q);
}
