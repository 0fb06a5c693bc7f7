-- The numbers of an answer are at most the record's bytes: first bytes strictly rise, and each label on a way takes a byte. Assumes nothing.
use Rattle.std.specs.Prelude.{List, [], ◌∷◌, Bool, true, false, ℕ, zero, suc, ◌+◌, ◌≤◌, length, drop}
use Rattle.std.proofs.Common.{arith}
use Rattle.std.proofs.lemmas.List.{length-map}
use Rattle.json_text.specs.Append.{length-text}
use Rattle.json_text.specs.Grammar.{Tree, text}
use Rattle.query.specs.Steps.{Step}
use Rattle.select.specs.Nodes.{Node, size, end_of, root}
use Rattle.select.specs.Order.{Rises, child_within, first_before_end}
use Rattle.select.proofs.PeakIs.{most_bound}
use Rattle.select.specs.Reach.{Reach, start, down, nodes_are}
use Rattle.select.proofs.SpansAre.{first_bytes, spans_rise}
use Rattle.select.specs.Visits.{Way, nodes}
use Rattle.automaton.specs.TallyIs.{stop_at}
use Rattle.select.specs.Ways.{Span, same_marks, frame_if, frames, spans, peak}

rises_few : (a e : ℕ) (xs : List ℕ) → Rises a xs e → a + length xs ≤ e
rises_few a e [] r = omega arith
rises_few a e (x ∷ xs) r = omega (arith, r.0, rises_few (suc x) e xs r.1)

root_ends : (t : Tree) → end_of (root t) ≤ length (text t)
unfolding end_of root size
root_ends t = omega (arith, length-text t)

-- no more nodes than bytes
pub spans_few : (t : Tree) (q : List Step) → length (spans t q) ≤ length (text t)
spans_few t q =
    omega (
      arith,
      rises_few (root t).first (end_of (root t)) (first_bytes (spans t q)) (spans_rise t q),
      length-map (spans t q) (λ (x : Span). x.first),
      root_ends t,
    )

frames_few : (q : List Step) (w : Way) → frames q w ≤ length w
unfolding frames frame_if
frames_few q [] = omega arith
frames_few q (l ∷ w) = go (same_marks q (length q) w (l ∷ w)) (frames_few q w)
  where
    go : (b : Bool) → frames q w ≤ length w → frame_if b (frames q w) ≤ suc (length w)
    go true h = omega arith
    go false h = omega arith

-- each label takes a byte at least
way_short : {r n : Node} {w : Way} → Reach r w n → (r.first + length w ≤ n.first) × (end_of n ≤ end_of r)
way_short start = (omega arith, omega arith)
way_short (down {m} {n} l x c) =
    let h = way_short x in
    let k = child_within m l n c in
    (omega (arith, h.0, k.0), omega (arith, h.1, k.1))

-- no more frames than bytes
pub peak_few : (t : Tree) (q : List Step) → peak t q ≤ length (text t)
unfolding peak
peak_few t q =
    most_bound q (length (text t)) (nodes t)
    (λ v m.
    let h = way_short ((nodes_are t v.state v.node).0 m) in
    omega (arith, frames_few q v.state, h.0, h.1, first_before_end v.node, root_ends t))

rises_ends : (a e : ℕ) (xs : List ℕ) → Rises a xs e → a ≤ e
rises_ends a e [] r = r
rises_ends a e (x ∷ xs) r = omega (arith, r.0, rises_ends (suc x) e xs r.1)

stop_within : (a e k : ℕ) (ss : List Span) → Rises a (first_bytes ss) e → stop_at (drop k ss) ≤ e
unfolding stop_at
stop_within a e zero [] r = omega arith
stop_within a e (suc k) [] r = omega arith
stop_within a e zero (s ∷ ss) r = omega (arith, rises_ends (suc s.first) e (first_bytes ss) r.1)
stop_within a e (suc k) (s ∷ ss) r = stop_within (suc s.first) e k ss r.1

-- a node left over begins in the record
pub stop_few : (t : Tree) (q : List Step) (k : ℕ) → stop_at (drop k (spans t q)) ≤ length (text t)
stop_few t q k = omega (arith, stop_within (root t).first (end_of (root t)) k (spans t q) (spans_rise t q), root_ends t)
