-- What the block sorter promises (document 01, "Words of 64 bits").
use Rattle.std.specs.Prelude.{◌≡◌, ℕ, Bool, List}
use Rattle.blocks.specs.declared.Words.{Words}
use Rattle.blocks.specs.Words.{quotes_word, strings_word, opening_word, closing_word, inside_after, odd_after}

-- w has the four words of the block at the front of s, and the two facts for the next block
pub record Sorted (s : List ℕ) (inside odd : Bool) (w : Words) : Type 0 where
  pub quotes_are : w.quotes ≡ quotes_word odd s
  pub strings_are : w.strings ≡ strings_word inside odd s
  pub opening_are : w.opening ≡ opening_word inside odd s
  pub closing_are : w.closing ≡ closing_word inside odd s
  pub inside_is : w.inside ≡ inside_after inside odd s
  pub odd_is : w.odd ≡ odd_after odd s
