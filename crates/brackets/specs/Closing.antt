-- What the steps past one block promise.
use Rattle.std.specs.Prelude.{◌≡◌, false, ℕ, ◌+◌, ◌^◌, ◌<◌, ◌≤◌}
use Rattle.bits.specs.Bits.{bit}
use Rattle.brackets.specs.Depth.{depth_at}
use Rattle.brackets.specs.declared.Found.{Found}
use Rattle.brackets.specs.declared.Found.TheVariants.{At, Open}

-- r is w without its bit i, and has 64 bits too
pub record Cleared (w i r : ℕ) : Type 0 where
  pub fits : r < 2 ^ 64
  pub off : bit i r ≡ false
  pub other : (j : ℕ) → (j ≡ i → ⊥) → bit j r ≡ bit j w

-- the bracket at `place` closes the last of n open ones, by a block's words three and four
pub record ClosesAt (opening closing n place : ℕ) : Type 0 where
  pub in_block : place < 64
  pub before : depth_at (λ j. bit j opening) (λ j. bit j closing) n place ≡ 1
  pub behind : depth_at (λ j. bit j opening) (λ j. bit j closing) n (place + 1) ≡ 0

-- none in the block closes it, and `after` are open after the block
pub record StaysOpen (opening closing n after : ℕ) : Type 0 where
  pub few : after ≤ n + 64
  pub some : 1 ≤ after
  pub behind : depth_at (λ j. bit j opening) (λ j. bit j closing) n 64 ≡ after

-- what is found in a block for the last of n open ones
abbrev pub FindsClosing : (opening closing n : ℕ) → Found → Type 0
FindsClosing a b n (At place) = ClosesAt a b n place
FindsClosing a b n (Open after) = StaysOpen a b n after
