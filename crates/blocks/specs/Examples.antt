-- Worked examples of the words and the carried facts, computed from the definitions. Assumes nothing.
use Rattle.std.specs.Prelude.{◌≡◌, ℕ, Bool, true, false, List, [], ◌∷◌, ◌++◌, drop, replicate, refl}
use Rattle.std.proofs.Math.Bool.{xor}
use Rattle.bits.specs.Bits.{number, digit}
use Rattle.blocks.specs.Words.{odd_before, real_quote, odd_quotes, in_string, opens_at, closes_at, block_size, quotes_word, strings_word, opening_word, closing_word, inside_after, odd_after}
use Rattle.classifier.specs.Classes.{byte_at, is_backslash}

-- one backslash before a quote: the quote is not real
one_backslash : quotes_word false (0x5C ∷ 0x22 ∷ []) ≡ 0
unfolding quotes_word number digit real_quote odd_before is_backslash byte_at block_size
one_backslash = refl

-- two backslashes before a quote: it is
two_backslashes : quotes_word false (0x5C ∷ 0x5C ∷ 0x22 ∷ []) ≡ 0b100
unfolding quotes_word number digit real_quote odd_before is_backslash byte_at block_size
two_backslashes = refl

-- 64 bytes that end in one backslash, or in two, and a quote as byte 64
one_at_edge : List ℕ
one_at_edge = replicate 63 0x61 ++ (0x5C ∷ 0x22 ∷ [])

two_at_edge : List ℕ
two_at_edge = replicate 62 0x61 ++ (0x5C ∷ 0x5C ∷ 0x22 ∷ [])

edge_odd : (odd_after false one_at_edge ≡ true) × (quotes_word true (drop 64 one_at_edge) ≡ 0)
unfolding one_at_edge odd_after quotes_word number digit real_quote odd_before is_backslash byte_at block_size
edge_odd = (refl, refl)

edge_even : (odd_after false two_at_edge ≡ false) × (quotes_word false (drop 64 two_at_edge) ≡ 1)
unfolding two_at_edge odd_after quotes_word number digit real_quote odd_before is_backslash byte_at block_size
edge_even = (refl, refl)

-- the bytes " [ " [ : word two is on from the opening quote through the byte before the closing one, and the first bracket is inside
bracketed : List ℕ
bracketed = 0x22 ∷ 0x5B ∷ 0x22 ∷ 0x5B ∷ []

bracket_in_string : (strings_word false false bracketed ≡ 0b0011) × (opening_word false false bracketed ≡ 0b1000)
unfolding bracketed strings_word opening_word number digit opens_at in_string odd_quotes real_quote odd_before is_backslash byte_at block_size xor
bracket_in_string = (refl, refl)

-- the bytes { " a \ " [ " ] }
line : List ℕ
line = 0x7B ∷ 0x22 ∷ 0x61 ∷ 0x5C ∷ 0x22 ∷ 0x5B ∷ 0x22 ∷ 0x5D ∷ 0x7D ∷ []

line_words : (quotes_word false line ≡ 0b001000010) × (strings_word false false line ≡ 0b000111110)
    × (opening_word false false line ≡ 0b000000001) × (closing_word false false line ≡ 0b110000000)
unfolding line quotes_word strings_word opening_word closing_word number digit opens_at closes_at in_string odd_quotes real_quote odd_before is_backslash byte_at block_size xor
line_words = (refl, refl, refl, refl)

-- inside a string through two bytes: only two bits are on
past_the_end : strings_word true false (0x61 ∷ 0x61 ∷ []) ≡ 0b11
unfolding strings_word number digit in_string odd_quotes real_quote odd_before is_backslash byte_at block_size xor
past_the_end = refl

-- an empty block gives four words of 0 and both facts back
empty_words : (inside odd : Bool) → (quotes_word odd [] ≡ 0) × (strings_word inside odd [] ≡ 0)
    × (opening_word inside odd [] ≡ 0) × (closing_word inside odd [] ≡ 0)
unfolding quotes_word strings_word opening_word closing_word number block_size
empty_words inside odd = (refl, refl, refl, refl)

empty_facts : (inside odd : Bool) → (inside_after inside odd [] ≡ inside) × (odd_after odd [] ≡ odd)
unfolding inside_after odd_after odd_quotes odd_before block_size
empty_facts inside odd = (refl, refl)

-- the bytes a " [ with the block begun inside a string: its quote closes the string, and the bracket is outside
closing : List ℕ
closing = 0x61 ∷ 0x22 ∷ 0x5B ∷ []

inside_carried : (quotes_word false closing ≡ 0b010) × (strings_word true false closing ≡ 0b001)
    × (opening_word true false closing ≡ 0b100) × (inside_after true false closing ≡ false)
unfolding closing quotes_word strings_word opening_word inside_after number digit opens_at in_string odd_quotes real_quote odd_before is_backslash byte_at block_size xor
inside_carried = (refl, refl, refl, refl)
