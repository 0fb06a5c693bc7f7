-- Worked examples: bytes and their classes, the edges of the rows of UTF-8.
use Rattle.std.specs.Prelude.{◌≡◌, refl, [], ◌∷◌}
use Rattle.encoding.specs.Class.{class_of}
use Rattle.encoding.specs.CodePoint.{whole, wrong, short, decoding}

bracket_class : class_of 0x5B ≡ 1
unfolding class_of
bracket_class = refl

letter_class : class_of 0x61 ≡ 0
unfolding class_of
letter_class = refl

blank_class : class_of 0x20 ≡ 7
unfolding class_of
blank_class = refl

delete_class : class_of 0x7F ≡ 0
unfolding class_of
delete_class = refl

-- the least and the greatest code point from 80 on
least : decoding (0xC2 ∷ 0x80 ∷ []) ≡ whole 2
unfolding decoding
least = refl

greatest : decoding (0xF4 ∷ 0x8F ∷ 0xBF ∷ 0xBF ∷ []) ≡ whole 4
unfolding decoding
greatest = refl

-- what follows is left alone
followed : decoding (0xC3 ∷ 0xA9 ∷ 0x22 ∷ []) ≡ whole 2
unfolding decoding
followed = refl

-- written with more bytes than needed
overlong_two : decoding (0xC0 ∷ 0x80 ∷ []) ≡ wrong 0
unfolding decoding
overlong_two = refl

overlong_three : decoding (0xE0 ∷ 0x9F ∷ []) ≡ wrong 1
unfolding decoding
overlong_three = refl

-- a surrogate, and beyond the greatest
surrogate : decoding (0xED ∷ 0xA0 ∷ []) ≡ wrong 1
unfolding decoding
surrogate = refl

beyond : decoding (0xF4 ∷ 0x90 ∷ []) ≡ wrong 1
unfolding decoding
beyond = refl

-- cut off, and a byte that only follows others
cut_off : decoding (0xE2 ∷ 0x82 ∷ []) ≡ short
unfolding decoding
cut_off = refl

alone : decoding (0x80 ∷ []) ≡ wrong 0
unfolding decoding
alone = refl

broken : decoding (0xF1 ∷ 0x80 ∷ 0x80 ∷ 0x22 ∷ []) ≡ wrong 3
unfolding decoding
broken = refl
