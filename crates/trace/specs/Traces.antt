-- What the descent that keeps the links promises.
use Rattle.std.specs.Prelude.{◌≡◌, List, ℕ, ◌≤◌, Option, IfSome}
use Rattle.std.proofs.Math.Option.{some}
use Rattle.json_text.specs.Grammar.{Tree, text, nesting}
use Rattle.json_text.specs.Verdict.{max_depth}
use Rattle.paths.specs.Answer.{trail_among}
use Rattle.paths.specs.Trails.{Trail, trails_of}
use Rattle.seek.specs.declared.keeper.KeptLink.{KeptLink}
use Rattle.seek.specs.Seeks.{FindsFrom}
use Rattle.trace.specs.Slots.{HoldsTrail}

-- of a record that is taken: the end of its value that begins at the offset, if one does; then the slots hold its trail
pub record TracesFrom (s : List ℕ) (offset : ℕ) (slots : List KeptLink) (end : Option ℕ) : Type 0 where
  pub finds : FindsFrom s offset end
  pub trail_is : IfSome end
      (λ _. (t : Tree) → text t ≡ s → nesting t.value ≤ max_depth
      → (u : Trail) × (trail_among (trails_of t) offset ≡ some u) × HoldsTrail s slots u)
