-- A run of bytes of one kind.
use Rattle.std.specs.Prelude.{◌≡◌, List, Bool, true, false, ℕ, ◌≤◌, ◌<◌, length, get_or, Result, Ok, Err}

-- the bytes of s between two places are of the kind
pub record Passed (kind : ℕ → Bool) (s : List ℕ) (from to : ℕ) : Type 0 where
  pub forward : from ≤ to
  pub within : to ≤ length s
  pub each : (j : ℕ) → from ≤ j → j < to → kind (get_or s j 0) ≡ true

-- they are, and the run ends there: the next byte is not of the kind, or there is none
pub record Run (kind : ℕ → Bool) (s : List ℕ) (from to : ℕ) : Type 0 where
  pub passed : Passed kind s from to
  pub stop : to < length s → kind (get_or s to 0) ≡ false

-- what is told of eight bytes after eight: the end of the run, or a place up to which all bytes are of the kind
abbrev pub Eights : (ℕ → Bool) → List ℕ → ℕ → Result ℕ ℕ → Type 0
Eights kind s from (Ok end) = Run kind s from end
Eights kind s from (Err left) = Passed kind s from left
