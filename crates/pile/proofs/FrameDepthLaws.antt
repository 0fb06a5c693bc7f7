-- Every depth of a record comes back unchanged out of 16 bits, since 512 is below 65,536; so it comes back out of its frame.
-- Assumes nothing.
use Rattle.std.specs.Prelude.{◌≡◌, ℕ, ◌<◌, ◌≤◌, List, length, ◌≢◌, slice_set}
use Rattle.std.proofs.Common.{ap, ◌∙◌, arith, get_or-set_same, get_or-set_other}
use Rattle.json_text.specs.Verdict.{max_depth}
use Rattle.pile.specs.FrameDepth.{narrowed, widened, ComesBack, depth_in}

pub depths_come_back : ComesBack 16 narrowed widened
unfolding narrowed widened
depths_come_back = record { fits = λ d. omega arith; unchanged = λ d h. omega arith }

module _ (levels : List ℕ) (k d : ℕ) where
  -- the depth that is put into a frame is the depth in it
  pub frame_depth : k < length levels → d ≤ max_depth → depth_in (slice_set levels k (narrowed d)) k ≡ d
  frame_depth h g = ap widened (get_or-set_same levels k (narrowed d) 0 h) ∙ depths_come_back.unchanged d g

  -- the other frames keep theirs
  pub other_frame_depth : (j : ℕ) → (j ≢ k) → depth_in (slice_set levels k (narrowed d)) j ≡ depth_in levels j
  other_frame_depth j n = ap widened (get_or-set_other levels k j (narrowed d) 0 n)
