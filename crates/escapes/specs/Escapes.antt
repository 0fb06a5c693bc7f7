-- What is promised of an escape that is read.
use Rattle.std.specs.Prelude.{◌≡◌, List, true, false, Option, Some, None, ℕ, ◌<◌, drop}
use Rattle.encoding.specs.Unescape.{unit_at, low_at_of, pair_at, point_at, size_at}

-- the escape that s begins with: the code point that it stands for, or half of a surrogate pair, and how many bytes it has
pub record EscapeAt (s : List ℕ) (point size : ℕ) : Type 0 where
  pub point_is : point ≡ point_at s
  pub size_is : size ≡ size_at s
  pub ranged : point < 0x110000

-- the low half that s begins with, or that it begins with none
abbrev pub LowHalf : List ℕ → Option ℕ → Type 0
LowHalf s (Some low) = (low_at_of s ≡ true) × (low ≡ unit_at s)
LowHalf s None = low_at_of s ≡ false

-- the low half of the pair that s begins with, or that it begins with none
abbrev pub PairBehind : List ℕ → Option ℕ → Type 0
PairBehind s (Some low) = (pair_at s ≡ true) × (low ≡ unit_at (drop 6 s))
PairBehind s None = pair_at s ≡ false
