-- Brackets of a record that are open, and where a container is left.
use Rattle.std.specs.Prelude.{◌≡◌, Bool, List, [], ℕ, ◌+◌, ◌<◌, ◌≤◌, length, drop}
use Rattle.blocks.specs.Words.{opens_at, closes_at}
use Rattle.brackets.specs.Depth.{depth_at}
use Rattle.json_text.specs.Grammar.{Kind, Items, put_items}

-- how many brackets of s outside strings are open before place i, where n are before place 0, with the two facts at its first byte
unfoldable pub depth_in : (inside odd : Bool) → List ℕ → (n i : ℕ) → ℕ
unfolding depth_at opens_at closes_at
depth_in inside odd s n i = depth_at (opens_at inside odd s) (closes_at inside odd s) n i

-- e is the place after the bracket that closes the last of n open ones
pub record Closed (inside odd : Bool) (s : List ℕ) (n e : ℕ) : Type 0 where
  pub within : e ≤ length s
  pub is_zero : depth_in inside odd s n e ≡ 0
  pub no_zero_before : (j : ℕ) → j < e → depth_in inside odd s n j ≡ 0 → ⊥

-- r is the place after the closing bracket of the container whose opening bracket stands just before `at`
pub record Leaves (s : List ℕ) (at r : ℕ) : Type 0 where
  pub onward : at ≤ r
  pub within : at ≤ length s → r ≤ length s
  pub exact : (k : Kind) (is : Items k) (rest : List ℕ) → drop at s ≡ put_items is rest → r ≡ at + length (put_items is [])
