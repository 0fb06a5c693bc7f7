-- What a caller gets from the promise of the writer of a node's path: on ground 0 the node's path at the buffer's start, which is a query for
-- the nodes with that path, and every other byte as it was; on any other ground the whole buffer as it was. As the promise is what change
-- request S-4 says, by its constructors. Assumes nothing.
use Rattle.std.specs.Prelude.{◌≡◌, refl, List, ℕ, ◌≤◌, ◌<◌, length, take, drop}
use Rattle.std.proofs.Common.{arith, length-take}
use Rattle.std.proofs.Math.Seq.{take-append_seam, drop-append_seam}
use Rattle.json_text.specs.Grammar.{Tree}
use Rattle.query.specs.Verdict.{max_query_bytes, max_steps}
use Rattle.select.specs.Nodes.{Node}
use Rattle.answers.specs.FinderSays.{Begins}
use Rattle.answers.specs.Within.{RecordIs}
use Rattle.paths.specs.Answer.{WritesPath}
use Rattle.paths.specs.Normalized.{labels_on, PathOf}
use Rattle.paths.specs.Queries.{PicksEqual}
use Rattle.paths.proofs.QueriesHold.{queries_hold}
use Rattle.paths.specs.Says.{PathSays, finder_refused, half_name, too_long, written}
use Rattle.paths.proofs.SaysIs.{writes_say}

-- the first `size` bytes of the buffer are the path of the node at the offset, and the others are as before
pub record PathStands («record» : List ℕ) (offset : ℕ) (before after : List ℕ) (size : ℕ) : Type 0 where
  pub tree : Tree
  pub of_record : RecordIs «record» tree
  pub node : Node
  pub begins : Begins tree offset node
  pub path : PathOf tree node (take size after)
  pub fits : size ≤ length before
  pub rest : drop size after ≡ drop size before

-- "If that path has at most 16 steps and 1,024 bytes, then as a query it picks out exactly the nodes whose path is equal, the given one among them"
pub path_picks : {«record» : List ℕ} {offset : ℕ} {before after : List ℕ} {size : ℕ} (x : PathStands «record» offset before after size)
    → length (labels_on x.path.node) ≤ max_steps → size ≤ max_query_bytes → PicksEqual x.tree x.node (take size after)
path_picks {after = after} {size} x few short =
    (queries_hold x.of_record).picks x.path few (omega (arith, length-take size after))

module _ {«record» : List ℕ} {offset : ℕ} {before after : List ℕ} {g p n : ℕ} (h : WritesPath «record» offset before after g p n) where
  pub path_stands : g ≡ 0 → PathStands «record» offset before after n
  path_stands = go (writes_say «record» offset before h)
    where
      go : {g p n : ℕ} {after : List ℕ} → PathSays «record» offset before g p n after → g ≡ 0 → PathStands «record» offset before after n
      go (finder_refused x k) e = absurd (omega arith)
      go (half_name t ht m b q x) e = absurd (omega arith)
      go (too_long t ht m b s x l) e = absurd (omega arith)
      go (written t ht m b s x l) e =
          record {
            tree = t;
            of_record = ht;
            node = m;
            begins = b;
            path = rw take-append_seam x;
            fits = l;
            rest = rw drop-append_seam;
          }

  pub refusal_keeps : 0 < g → (n ≡ 0) × (after ≡ before)
  refusal_keeps = go (writes_say «record» offset before h)
    where
      go : {g p n : ℕ} {after : List ℕ} → PathSays «record» offset before g p n after → 0 < g → (n ≡ 0) × (after ≡ before)
      go (finder_refused x k) l = (refl, refl)
      go (half_name t ht m b q x) l = (refl, refl)
      go (too_long t ht m b s x k) l = (refl, refl)
      go (written t ht m b s x k) l = absurd (omega arith)
