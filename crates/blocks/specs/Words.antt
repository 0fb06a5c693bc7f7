-- The words and the carried facts of a block (document 01, "Words of 64 bits"), place by place from the block's first byte and for all bytes.
use Rattle.std.specs.Prelude.{ℕ, zero, suc, min, Bool, not, ◌&&◌, List, length}
use Rattle.std.specs.Bool.{xor}
use Rattle.bits.specs.Bits.{number}
use Rattle.classifier.specs.Classes.{byte_at, is_quote, is_backslash, is_opening, is_closing}

-- an odd run of backslashes stands just before place i, where `odd` says so of place 0
unfoldable pub odd_before : (odd : Bool) → List ℕ → ℕ → Bool
unfolding is_backslash
odd_before odd s zero = odd
odd_before odd s (suc i) = is_backslash s i && not (odd_before odd s i)

-- a real quote: the run of backslashes before it is even
unfoldable pub real_quote : (odd : Bool) → List ℕ → ℕ → Bool
unfolding byte_at odd_before
real_quote odd s i = is_quote s i && not (odd_before odd s i)

-- the real quotes before place i are odd in number, where being inside counts as one before place 0
unfoldable pub odd_quotes : (inside odd : Bool) → List ℕ → ℕ → Bool
unfolding real_quote
odd_quotes inside odd s zero = inside
odd_quotes inside odd s (suc i) = xor (real_quote odd s i) (odd_quotes inside odd s i)

-- the real quotes up to and with place i are odd in number
unfoldable pub in_string : (inside odd : Bool) → List ℕ → ℕ → Bool
unfolding odd_quotes
in_string inside odd s i = odd_quotes inside odd s (suc i)

-- an opening, and a closing bracket outside strings
unfoldable pub opens_at : (inside odd : Bool) → List ℕ → ℕ → Bool
unfolding byte_at in_string
opens_at inside odd s i = is_opening s i && not (in_string inside odd s i)

unfoldable pub closes_at : (inside odd : Bool) → List ℕ → ℕ → Bool
unfolding byte_at in_string
closes_at inside odd s i = is_closing s i && not (in_string inside odd s i)

-- a block is the first 64 bytes, or fewer
unfoldable pub block_size : List ℕ → ℕ
block_size s = min (length s) 64

-- word one to word four: bits past the block's end are 0
unfoldable pub quotes_word : (odd : Bool) → List ℕ → ℕ
unfolding number real_quote block_size
quotes_word odd s = number (block_size s) (real_quote odd s)

unfoldable pub strings_word : (inside odd : Bool) → List ℕ → ℕ
unfolding number in_string block_size
strings_word inside odd s = number (block_size s) (in_string inside odd s)

unfoldable pub opening_word : (inside odd : Bool) → List ℕ → ℕ
unfolding number opens_at block_size
opening_word inside odd s = number (block_size s) (opens_at inside odd s)

unfoldable pub closing_word : (inside odd : Bool) → List ℕ → ℕ
unfolding number closes_at block_size
closing_word inside odd s = number (block_size s) (closes_at inside odd s)

-- the two facts for the next block
unfoldable pub inside_after : (inside odd : Bool) → List ℕ → Bool
unfolding odd_quotes block_size
inside_after inside odd s = odd_quotes inside odd s (block_size s)

unfoldable pub odd_after : (odd : Bool) → List ℕ → Bool
unfolding odd_before block_size
odd_after odd s = odd_before odd s (block_size s)
