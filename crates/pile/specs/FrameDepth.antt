-- A frame's depth in 16 bits (change request S-3): what a frame holds of a depth, and what is read out of it.
use Rattle.std.specs.Prelude.{◌≡◌, ℕ, ◌%◌, ◌^◌, ◌<◌, ◌≤◌, List, slice_index}
use Rattle.json_text.specs.Verdict.{max_depth}

-- the lowest 16 bits of a depth
unfoldable pub narrowed : ℕ → ℕ
narrowed d = d % 2 ^ 16

-- the depth that these bits stand for
unfoldable pub widened : ℕ → ℕ
widened k = k

-- a way to hold depths in so many bits and to read them: "every depth up to 512" comes back "unchanged"
pub record ComesBack (bits : ℕ) (narrow widen : ℕ → ℕ) : Type 0 where
  pub fits : (d : ℕ) → narrow d < 2 ^ bits
  pub unchanged : (d : ℕ) → d ≤ max_depth → widen (narrow d) ≡ d

-- the depth in frame k
abbrev pub depth_in : (levels : List ℕ) → (k : ℕ) → ℕ
depth_in levels k = widened (slice_index levels k)
