-- A text put into a buffer at a place.
use Rattle.std.specs.Prelude.{◌≡◌, List, ◌++◌, ℕ, ◌+◌, ◌≤◌, length, take, drop}

-- the text stands at the place, and every other byte keeps what it held
unfoldable pub put : (text : List ℕ) (at : ℕ) (before : List ℕ) → List ℕ
put t at b = take at b ++ (t ++ drop (at + length t) b)

-- there is room for the text
pub record Room (text : List ℕ) (at : ℕ) (before : List ℕ) : Type 0 where
  pub fits : at + length text ≤ length before

-- the text is put there, and the answer is the place after it
pub record Written (text : List ℕ) (at : ℕ) (before after : List ℕ) (end : ℕ) : Type 0 where
  pub end_is : end ≡ at + length text
  pub after_is : after ≡ put text at before

-- the text stands at the start, the answer is its length, and every byte beyond keeps what it held
pub record Printed (text before after : List ℕ) (size : ℕ) : Type 0 where
  pub size_is : size ≡ length text
  pub text_is : take size after ≡ text
  pub beyond : drop size after ≡ drop size before
