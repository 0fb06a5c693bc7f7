-- The third demand holds of every outcome that meets a lister's promise; so of the plain walk and of the jumping walk.
-- Query and record are taken, so that what is computed is what is said of them; the nodes picked out make one list. Assumes nothing.
use Rattle.std.specs.Prelude.{◌≡◌, refl, List, [], ◌∷◌, ℕ, ◌*◌, ◌≤◌, drop}
use Rattle.std.proofs.Math.Path.{sym, subst}
use Rattle.std.proofs.Common.{◌∙◌, le_antisymm}
use Rattle.std.proofs.Math.Option.{some}
use native.Mathlib.Omega.{arith, by_contra}
use Rattle.std.proofs.Math.ListN.{length, get_elem?}
use Rattle.std.proofs.Math.Seq.{take_at, drop_at}
use Rattle.json_text.specs.Grammar.{Tree}
use Rattle.json_text.specs.Grammar as J
use Rattle.query.specs.Grammar.{Query, steps_of}
use Rattle.query.specs.Grammar as Q
use Rattle.select.specs.Nodes.{Node}
use Rattle.select.specs.Marks.{Peak}
use Rattle.select.specs.Ways.{peak}
use Rattle.select.proofs.PeakIs.{peak_is}
use Rattle.select.proofs.PeakBound.{deep_only}
use Rattle.answers.specs.Lister.{pairs_of, Lists}
use Rattle.answers.specs.Outcome.{done, answered}
use Rattle.answers.specs.Enumerates.{FirstsRise, Enumerates}
use Rattle.answers.specs.EnumeratesLaws.{enumeration}
use Rattle.answers.specs.Within.{QueryIs, RecordIs}
use Rattle.answers.specs.ListerSays.{numbers, holding, all}
use Rattle.answers.proofs.ListerIs.{lists_outcome, lister_says_only}
use Rattle.answers.specs.Demand3.{Given, Demand3}

length-numbers : (ns : List Node) → length (numbers ns) ≡ 2 * length ns
unfolding numbers
length-numbers [] = refl
length-numbers (n ∷ ns) = omega (arith, length-numbers ns)

-- a list whose first bytes rise holds no node twice
rising_once : (ns : List Node) → FirstsRise ns → (i j : ℕ) (n : Node) → get_elem? ns i ≡ some n → get_elem? ns j ≡ some n → i ≡ j
rising_once ns r i j n e f =
    le_antisymm
    (by_contra i j (λ h. absurd (omega (arith, r j i n n h f e))))
    (by_contra j i (λ h. absurd (omega (arith, r i j n n h e f))))

module _ (q : Query) (t : Tree) (list : List ℕ) where
  -- of nodes at the list's start, and their number
  met : (ns : List Node) → Enumerates t (steps_of q) ns → (k : ℕ) → Peak t (steps_of q) k → Demand3 q t list (done (length ns) k (holding ns list))
  unfolding holding
  met ns x k p = record {
    nodes = ns;
    exactly = λ n. (x.only n, x.each n);
    once = rising_once ns x.rising;
    ordered = x.rising;
    written = take_at (numbers ns) (drop (2 * length ns) list) (2 * length ns) (length-numbers ns);
    beyond = drop_at (numbers ns) (drop (2 * length ns) list) (2 * length ns) (length-numbers ns);
    ground = refl;
    place = refl;
    pairs = refl;
    peak = p;
    deep = λ h. deep_only t (steps_of q) k h p;
  }

  -- demand 3
  pub demand3 : Given q t list → {after : List ℕ} {g p n k : ℕ} → Lists (Q.text q) (J.text t) list after g p n k
      → Demand3 q t list (answered g p n k after)
  unfolding pairs_of
  demand3 h x =
      let (ns, y) = enumeration t (steps_of q) in
      let room : length ns ≤ pairs_of list = omega (arith, h.pair_for_each ns y) in
      let top = peak_is t (steps_of q) in
      let hq : QueryIs (Q.text q) q = record { written = refl; bytes = h.query_bytes; steps = h.query_steps } in
      let ht : RecordIs (J.text t) t = record { written = refl; bytes = h.record_bytes; levels = h.record_levels } in
      subst
      (Demand3 q t list)
      (lister_says_only (Q.text q) (J.text t) list (all q t hq ht ns y room (peak t (steps_of q)) top) ∙ sym (lists_outcome x))
      (met ns y (peak t (steps_of q)) top)

-- "lent equal lists, the two walks give the same four answers and leave equal lists": of any two calls that meet a lister's promise,
-- for all bytes and refusals too
pub same_answers : {query text list after after' : List ℕ} {g p n k g' p' n' k' : ℕ} → Lists query text list after g p n k →
    Lists query text list after' g' p' n' k' → answered g p n k after ≡ answered g' p' n' k' after'
same_answers x y = lists_outcome x ∙ sym (lists_outcome y)
