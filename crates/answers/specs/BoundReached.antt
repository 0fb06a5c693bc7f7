-- That the bounds of change request S-6 are reached, and that no bound holds where a plain step stands behind a deep one, as a statement.
use Rattle.std.specs.Prelude.{◌≡◌, false, ℕ, ◌+◌, ◌≤◌, ◌<◌, length}
use Rattle.json_text.specs.Grammar.{Tree}
use Rattle.json_text.specs.Grammar as J
use Rattle.query.specs.Grammar.{Query, steps_of}
use Rattle.query.specs.Grammar as Q
use Rattle.query.specs.Verdict.{max_steps}
use Rattle.select.specs.Marks.{Peak, AllSteps}
use Rattle.select.specs.PileBound.{PlainBeforeDeep, PlainBehindDeep}
use Rattle.answers.specs.Bound.{max_frames}
use Rattle.answers.specs.Within.{QueryIs, RecordIs}

-- the query is taken, and so is a record that has this peak for it
pub record Reaches (q : Query) (k : ℕ) : Type 0 where
  pub tree : Tree
  pub query_taken : QueryIs (Q.text q) q
  pub record_taken : RecordIs (J.text tree) tree
  pub peak : Peak tree (steps_of q) k

pub record BoundsReached : Type 0 where
  -- by p plain steps followed by d deep steps: one fewer than the steps
  pub deep_last_lem : (p d : ℕ) → 0 < d → p + d ≤ max_steps →
      (q : Query) × (h : PlainBeforeDeep (steps_of q)) × (length h.plain ≡ p) × (length h.deep ≡ d) × (k : ℕ) × (k + 1 ≡ p + d) × Reaches q k
  -- by n plain steps alone: their number
  pub plain_alone_lem : (n : ℕ) → n ≤ max_steps → (q : Query) × AllSteps false (steps_of q) × (length q ≡ n) × Reaches q n
  -- by two steps, a plain one behind a deep one: every number for which a record has room, so that no smaller one bounds them
  pub no_bound : (q : Query) × PlainBehindDeep (steps_of q) × (length q ≡ 2) × ((k : ℕ) → k ≤ max_frames → Reaches q k)
