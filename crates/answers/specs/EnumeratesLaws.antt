-- There is one list of the nodes that a query picks out, each once, in the order of their first bytes.
-- The pairs listed are of picked nodes, and lists with the same members and rising first bytes are equal. Assumes nothing.
use Rattle.std.specs.Prelude.{◌≡◌, refl, ◌⊎◌, ℕ, zero, suc, ◌<◌}
use Rattle.std.proofs.Common.{sym, ap, subst, ◌∙◌, inl, inr, arith}
use mathlib.Core.List.Memᴰ
use mathlib.Core.List.{List, [], ◌∷◌, map, Memᴰ}
use Rattle.std.proofs.Math.Option.{some}
use Rattle.std.proofs.Math.ListN.{get_elem?}
use Rattle.json_text.specs.Grammar.{Tree}
use Rattle.query.specs.Steps.{Step}
use Rattle.select.specs.Nodes.{Node}
use Rattle.select.specs.Picked.{Picked}
use Rattle.select.specs.Ways.{Span, span_of, spans}
use Rattle.select.proofs.SpansAre.{each_picked_once}
use Rattle.answers.specs.Enumerates.{FirstsRise, Enumerates}

-- the pairs listed are of picked nodes
module _ (t : Tree) (q : List Step) where
  -- nodes that are picked out, with these pairs
  record NodesOf (xs : List Span) : Type 0 where
    nodes : List Node
    pairs : map span_of nodes ≡ xs
    picked : (n : Node) → Memᴰ n nodes → Picked t q n

  nodes_of : (xs : List Span) → ((x : Span) → Memᴰ x xs → (n : Node) × Picked t q n × (span_of n ≡ x)) → NodesOf xs
  nodes_of [] f = record { nodes = []; pairs = refl; picked = λ n m. absurd (Memᴰ.not-nil m) }
  nodes_of (x ∷ xs) f = go (f x (Memᴰ.head refl)) (nodes_of xs (λ y m. f y (Memᴰ.tail m)))
    where
      go : (n : Node) × Picked t q n × (span_of n ≡ x) → NodesOf xs → NodesOf (x ∷ xs)
      go (n, h, e) rest = record { nodes = n ∷ rest.nodes; pairs = pairs; picked = λ m k. picked m (Memᴰ.cases_cons k) }
        where
          pairs : span_of n ∷ map span_of rest.nodes ≡ x ∷ xs
          pairs = cc rest.pairs

          picked : (m : Node) → (m ≡ n) ⊎ Memᴰ m rest.nodes → Picked t q m
          picked m (inl p) = subst (Picked t q) (sym p) h
          picked m (inr k) = rest.picked m k

  -- a node of a list of pairs
  pair_at : (ns : List Node) (i : ℕ) (n : Node) → get_elem? ns i ≡ some n → get_elem? (map span_of ns) i ≡ some (span_of n)
  pair_at [] i n e = let z : ◌≡◌ {A = ℕ} 0 1 = cc in absurd (omega arith)
  pair_at (m ∷ ns) zero n e = let same : m ≡ n = cc in ap (λ (x : Node). some (span_of x)) same
  pair_at (m ∷ ns) (suc i) n e = pair_at ns i n e

  of_pairs : (x : NodesOf (spans t q)) → Enumerates t q x.nodes
  unfolding span_of
  of_pairs x = record { each = each; only = x.picked; rising = rising }
    where
      each : (n : Node) → Picked t q n → Memᴰ n x.nodes
      each n h =
          let (m, k, e) = Memᴰ.of_map span_of {b = span_of n} x.nodes (rw x.pairs ((each_picked_once t q).each n h)) in
          Memᴰ.cast ((each_picked_once t q).one n m h (x.picked m k) (sym e)) k

      rising : FirstsRise x.nodes
      rising i j m n h p p' =
          (each_picked_once t q).rising i j (span_of m) (span_of n) h
          (rw x.pairs at (pair_at x.nodes i m p))
          (rw x.pairs at (pair_at x.nodes j n p'))

  -- the nodes that a query picks out of a record can be listed so
  pub enumeration : (ns : List Node) × Enumerates t q ns
  enumeration = let x = nodes_of (spans t q) (each_picked_once t q).only in (x.nodes, of_pairs x)

-- what stands first has a smaller first byte than all others
index_of : {n : Node} {ns : List Node} → Memᴰ n ns → (i : ℕ) × (get_elem? ns i ≡ some n)
index_of (Memᴰ.head e) = (0, ap some (sym e))
index_of (Memᴰ.tail m) = let (i, e) = index_of m in (suc i, e)

head_least : (m : Node) (ns : List Node) {n : Node} → FirstsRise (m ∷ ns) → Memᴰ n ns → m.first < n.first
head_least m ns {n} r h = let (i, e) = index_of h in r 0 (suc i) m n (omega arith) refl e

tail_rises : (m : Node) (ns : List Node) → FirstsRise (m ∷ ns) → FirstsRise ns
tail_rises m ns r i j x y h = r (suc i) (suc j) x y (omega arith)

-- two lists of the same nodes by rising first bytes are one
same_lists : (ns ms : List Node) → FirstsRise ns → FirstsRise ms → ((n : Node) → Memᴰ n ns → Memᴰ n ms) →
    ((n : Node) → Memᴰ n ms → Memᴰ n ns) → ns ≡ ms
same_lists [] [] r r' f g = refl
same_lists [] (m ∷ ms) r r' f g = absurd (Memᴰ.not-nil (g m (Memᴰ.head refl)))
same_lists (n ∷ ns) [] r r' f g = absurd (Memᴰ.not-nil (f n (Memᴰ.head refl)))
same_lists (n ∷ ns) (m ∷ ms) r r' f g =
    let e = heads (Memᴰ.cases_cons (f n (Memᴰ.head refl))) (Memᴰ.cases_cons (g m (Memᴰ.head refl))) in
    let z =
    same_lists ns ms (tail_rises n ns r) (tail_rises m ms r')
    (λ x h. later n ns ms r e h (Memᴰ.cases_cons (f x (Memᴰ.tail h))))
    (λ x h. later m ms ns r' (sym e) h (Memᴰ.cases_cons (g x (Memᴰ.tail h)))) in
    cc
  where
    heads : (n ≡ m) ⊎ Memᴰ n ms → (m ≡ n) ⊎ Memᴰ m ns → n ≡ m
    heads (inl p) k = p
    heads (inr h) (inl p) = sym p
    heads (inr h) (inr k) = absurd (omega (arith, head_least n ns r k, head_least m ms r' h))

    -- what stands behind the one head does not equal the other
    later : (a : Node) (xs ys : List Node) {b x : Node} → FirstsRise (a ∷ xs) → a ≡ b → Memᴰ x xs → (x ≡ b) ⊎ Memᴰ x ys →
        Memᴰ x ys
    later a xs ys s e h (inl p) = absurd (omega (arith, head_least a xs s h, ap (λ (y : Node). y.first) (p ∙ sym e)))
    later a xs ys s e h (inr k) = k

-- and there is only one such list
pub enumerates_unique : {t : Tree} {q : List Step} {ns ms : List Node} → Enumerates t q ns → Enumerates t q ms → ns ≡ ms
enumerates_unique {ns = ns} {ms = ms} x y =
    same_lists ns ms x.rising y.rising (λ n h. y.each n (x.only n h)) (λ n h. x.each n (y.only n h))

-- its pairs are those that are computed
pub enumerates_spans : {t : Tree} {q : List Step} {ns : List Node} → Enumerates t q ns → map span_of ns ≡ spans t q
enumerates_spans {t} {q} {ns} x =
    let y = nodes_of t q (spans t q) (each_picked_once t q).only in
    ap (map span_of) (enumerates_unique x (of_pairs t q y)) ∙ y.pairs
