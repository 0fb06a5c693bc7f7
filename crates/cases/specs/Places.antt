-- Places in bytes that are read or written.
use Rattle.std.specs.Prelude.{◌≡◌, ℕ, ◌≤◌, List, length, drop}

-- A place from `at` on, at most at the end of `size` bytes.
pub record Onward (size at place : ℕ) : Type 0 where
  pub low : at ≤ place
  pub high : place ≤ size

-- What stands in a text from a place on that is `at` or behind it.
pub record Rest (at : ℕ) (text rest : List ℕ) : Type 0 where
  pub place : ℕ
  pub onward : Onward (length text) at place
  pub is_rest : rest ≡ drop place text
