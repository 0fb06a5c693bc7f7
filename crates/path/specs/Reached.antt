-- Where the descent leaves the writer: at a node that is found, with its trail in the slots.
use Rattle.std.specs.Prelude.{◌≡◌, List, ℕ}
use Rattle.std.proofs.Math.Option.{some}
use Rattle.encoding.specs.Verdict.{taken}
use Rattle.answers.specs.Finder.{find_verdict}
use Rattle.paths.specs.Answer.{trail_in}
use Rattle.paths.specs.Trails.{Trail}
use Rattle.seek.specs.declared.keeper.KeptLink.{KeptLink}
use Rattle.trace.specs.Slots.{HoldsTrail}

-- the value finder has no ground, and the links are the trail of the node that begins at the offset
pub record Reaches («record» : List ℕ) (offset : ℕ) (links : List KeptLink) : Type 0 where
  pub found : find_verdict «record» offset ≡ taken
  pub trail : Trail
  pub there : trail_in «record» offset ≡ some trail
  pub holds : HoldsTrail «record» links trail
