-- The path of a node is the query that picks out the nodes with the same path: its steps are the plain steps of its labels, and a path tells its
-- labels. Assumes nothing.
use Rattle.std.specs.Prelude.{◌≡◌, refl, ◌↔◌, List, ℕ, ◌≤◌, length}
use Rattle.std.proofs.Common.{sym, subst, arith}
use Rattle.json_text.specs.Grammar.{Tree}
use Rattle.query.specs.Steps.{Step}
use Rattle.query.specs.Verdict.{max_query_bytes, max_steps, steps_in}
use Rattle.select.specs.Nodes.{Label, Node, root}
use Rattle.select.specs.Picked.{Picked}
use Rattle.answers.specs.Within.{RecordIs, QueryIs}
use Rattle.answers.specs.WithinLaws.{query_is_taken}
use Rattle.paths.proofs.AsQuery.{path_tree, path_steps, same_path}
use Rattle.paths.specs.Fits.{AllFit, labels_fit}
use Rattle.paths.specs.Normalized.{NormalizedPath, labels_on, PathOf}
use Rattle.paths.proofs.PlainSteps.{labels_unique, Led, plain_picked}
use Rattle.paths.specs.Queries.{PicksEqual, Queries}

module _ {r : List ℕ} {t : Tree} (x : RecordIs r t) where
  fit : {n : Node} {s : List ℕ} (p : PathOf t n s) → AllFit (labels_on p.node)
  fit p = labels_fit x p.node

  equal : {n m : Node} {s u : List ℕ} (p : PathOf t n s) (q : PathOf t m u) → (s ≡ u) ↔ (labels_on p.node ≡ labels_on q.node)
  equal p q = same_path p.path q.path (fit p) (fit q)

  -- the nodes with the labels of a path are those with that path
  led_exactly : {n : Node} {s : List ℕ} (p : PathOf t n s) (m : Node) → Led (root t) (labels_on p.node) m ↔ PathOf t m s
  led_exactly {n} {s} p m = (
    λ l. record { node = l.0; path = subst (λ (ls : List Label). NormalizedPath ls s) (sym l.1) p.path },
    λ q. (q.node, (equal q p).0 refl),
  )

  picks : {n : Node} {s : List ℕ} (p : PathOf t n s) → length (labels_on p.node) ≤ max_steps → length s ≤ max_query_bytes → PicksEqual t n s
  picks {n} {s} p few short =
      let y = path_tree p.path (fit p) in
      let q : QueryIs s y.tree = record { written = y.written; bytes = short; steps = omega (arith, y.size) } in
      record { tree = y.tree; query = q; verdict = query_is_taken q; exactly = exactly; itself = (exactly n).1 p }
    where
      exactly : (m : Node) → Picked t (steps_in s) m ↔ PathOf t m s
      exactly m =
          let h = plain_picked t (labels_on p.node) m in
          let k = led_exactly p m in
          let e = path_steps p.path (fit p) in
          (λ z. k.0 (h.0 (subst (λ (q : List Step). Picked t q m) e z)), λ z. subst (λ (q : List Step). Picked t q m) (sym e) (h.1 (k.1 z)))

  pub queries_hold : Queries t
  queries_hold = record { picks = picks; equal = equal; one = λ p q. (equal p q).1 (labels_unique p.node q.node) }
