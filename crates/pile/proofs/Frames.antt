-- The ways through a container's leaving: without frames, or with another container's on top, nothing changes. Assumes nothing.
use Rattle.std.proofs.Math.ListN.{get_or-map}
use Rattle.std.proofs.Common.{◌≡◌, ℕ, zero, suc, ◌+◌, ◌-◌, refl, ap, ◌∙◌, arith}
use Rattle.pile.specs.declared.Frame.{Frame}
use Rattle.pile.specs.FrameDepth.{widened, depth_in}
use Rattle.pile.specs.Pile.{levels, no_frame, frame_at}
use Rattle.pile.specs.Moves.{Pops, other, topmost}
use Rattle.pile.specs.declared.Pile.{Pile}

-- the depth in a frame
pub depth_at : (z : Pile) (k : ℕ) → depth_in (levels z) k ≡ widened (frame_at z k).depth
depth_at z k = ap widened (get_or-map (λ (x : Frame). x.depth) z.frames k no_frame)

module _ {z : Pile} {f d m : ℕ} where
  pub pops_none : f ≡ 0 → Pops z f d m f m
  pops_none e = other (λ k h x. omega arith)

  pub pops_other : (depth_in (levels z) (f - 1) ≡ d → ⊥) → Pops z f d m f m
  pops_other n = other (λ k h x. let e : f - 1 ≡ k = omega arith in n (ap (depth_in (levels z)) e ∙ x))

  pub pops_topmost : (f ≡ 0 → ⊥) → depth_in (levels z) (f - 1) ≡ d → Pops z f d m (f - 1) (frame_at z (f - 1)).marks
  pops_topmost n x = topmost (f - 1) (go f n) x
    where
      go : (f : ℕ) → (f ≡ 0 → ⊥) → f ≡ f - 1 + 1
      go zero n = absurd (n refl)
      go (suc f) n = omega arith
