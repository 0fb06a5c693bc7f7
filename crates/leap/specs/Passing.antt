-- What the steps of the way to a closing bracket promise: from a place on, and by the words that are kept of a block.
use Rattle.std.specs.Prelude.{◌≡◌, Bool, false, List, ℕ, ◌+◌, ◌≤◌, length, drop, Option, IfSome}
use Rattle.blocks.specs.Words.{opening_word, closing_word}
use Rattle.leap.specs.Brackets.{Closed}

-- r is the place after the bracket that closes the container whose opening bracket stands just before `at`; the length where none does
pub record AfterClosing (s : List ℕ) (at r : ℕ) : Type 0 where
  pub onward : at ≤ r
  pub within : at ≤ length s → r ≤ length s
  pub exact : (e : ℕ) → Closed false false (drop at s) 1 e → r ≡ at + e

-- words three and four of the block of s that ends at place `end`, sorted with some two facts
pub record KeptBlock (s : List ℕ) (end opening closing : ℕ) : Type 0 where
  pub start : ℕ
  pub inside : Bool
  pub odd : Bool
  pub end_is : end ≡ start + 64
  pub opening_are : opening ≡ opening_word inside odd (drop start s)
  pub closing_are : closing ≡ closing_word inside odd (drop start s)

-- what is kept of s: nothing, with 0 as the end, or the end of a block and its words three and four
abbrev pub Kept : (s : List ℕ) (end opening closing : ℕ) → Type 0
Kept s end opening closing = (end ≡ 0 → ⊥) → ∥ KeptBlock s end opening closing ∥₁

-- the place after the closing bracket, where what is kept tells it
abbrev pub Near : (s : List ℕ) (at : ℕ) → Option ℕ → Type 0
Near s at r = IfSome r (AfterClosing s at)
