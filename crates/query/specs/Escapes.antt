-- The escapes of a quoted name (RFC 9535 §2.3.1.1), as syntax trees, the bytes that they are written as, and the code points that they stand
-- for. There is no way to write half of a surrogate pair.
use Rattle.std.specs.Prelude.{List, ◌∷◌, ℕ, ◌-◌}
use Rattle.encoding.specs.Bytes.{In}
use Rattle.encoding.specs.Hex.{Hex, hex_byte, hex_digit, four_digits}
use Rattle.encoding.specs.Points.{joined}

-- escapable, without the `u` and the quotes
pub data Escape : Type 0 where
  backspace form line carriage tabulator slash backslash : Escape

-- DIGIT / "A" / "B" / "C" / "E" / "F", of either case
pub data NotD : Type 0 where
  digit : In 0x30 0x39 → NotD
  upper_a_c : In 0x41 0x43 → NotD
  upper_e_f : In 0x45 0x46 → NotD
  lower_a_c : In 0x61 0x63 → NotD
  lower_e_f : In 0x65 0x66 → NotD

-- "D"
pub data D : Type 0 where
  upper lower : D

-- "8" / "9" / "A" / "B"
pub data EightToB : Type 0 where
  digit : In 0x38 0x39 → EightToB
  upper : In 0x41 0x42 → EightToB
  lower : In 0x61 0x62 → EightToB

-- "C" / "D" / "E" / "F"
pub data CToF : Type 0 where
  upper : In 0x43 0x46 → CToF
  lower : In 0x63 0x66 → CToF

-- hexchar, behind `\u`: non-surrogate, which does not begin with D or has 0 to 7 behind it; or high-surrogate "\" %x75 low-surrogate
pub data HexChar : Type 0 where
  usual : NotD → Hex → Hex → Hex → HexChar
  below : D → In 0x30 0x37 → Hex → Hex → HexChar
  pair : (D × EightToB × Hex × Hex) → (D × CToF × Hex × Hex) → HexChar

-- bytes

abbrev pub escape_byte : Escape → ℕ
escape_byte backspace = 0x62
escape_byte form = 0x66
escape_byte line = 0x6E
escape_byte carriage = 0x72
escape_byte tabulator = 0x74
escape_byte slash = 0x2F
escape_byte backslash = 0x5C

abbrev pub not_d_byte : NotD → ℕ
not_d_byte (digit x) = x.byte
not_d_byte (upper_a_c x) = x.byte
not_d_byte (upper_e_f x) = x.byte
not_d_byte (lower_a_c x) = x.byte
not_d_byte (lower_e_f x) = x.byte

abbrev pub d_byte : D → ℕ
d_byte upper = 0x44
d_byte lower = 0x64

abbrev pub eight_to_b_byte : EightToB → ℕ
eight_to_b_byte (digit x) = x.byte
eight_to_b_byte (upper x) = x.byte
eight_to_b_byte (lower x) = x.byte

abbrev pub c_to_f_byte : CToF → ℕ
c_to_f_byte (upper x) = x.byte
c_to_f_byte (lower x) = x.byte

unfoldable pub put_hex_char : HexChar → List ℕ → List ℕ
put_hex_char (usual x y z w) s = not_d_byte x ∷ hex_byte y ∷ hex_byte z ∷ hex_byte w ∷ s
put_hex_char (below x y z w) s = d_byte x ∷ y.byte ∷ hex_byte z ∷ hex_byte w ∷ s
put_hex_char (pair (x, y, z, w) (x', y', z', w')) s =
    d_byte x ∷ eight_to_b_byte y ∷ hex_byte z ∷ hex_byte w ∷
    0x5C ∷ 0x75 ∷ d_byte x' ∷ c_to_f_byte y' ∷ hex_byte z' ∷ hex_byte w' ∷ s

-- code points

abbrev pub escape_point : Escape → ℕ
escape_point backspace = 0x08
escape_point form = 0x0C
escape_point line = 0x0A
escape_point carriage = 0x0D
escape_point tabulator = 0x09
escape_point slash = 0x2F
escape_point backslash = 0x5C

abbrev pub not_d_digit : NotD → ℕ
not_d_digit (digit x) = x.byte - 0x30
not_d_digit (upper_a_c x) = x.byte - 0x37
not_d_digit (upper_e_f x) = x.byte - 0x37
not_d_digit (lower_a_c x) = x.byte - 0x57
not_d_digit (lower_e_f x) = x.byte - 0x57

abbrev pub eight_to_b_digit : EightToB → ℕ
eight_to_b_digit (digit x) = x.byte - 0x30
eight_to_b_digit (upper x) = x.byte - 0x37
eight_to_b_digit (lower x) = x.byte - 0x57

abbrev pub c_to_f_digit : CToF → ℕ
c_to_f_digit (upper x) = x.byte - 0x37
c_to_f_digit (lower x) = x.byte - 0x57

unfoldable pub hex_char_point : HexChar → ℕ
hex_char_point (usual x y z w) = four_digits (not_d_digit x) (hex_digit y) (hex_digit z) (hex_digit w)
hex_char_point (below x y z w) = four_digits 13 (y.byte - 0x30) (hex_digit z) (hex_digit w)
hex_char_point (pair (x, y, z, w) (x', y', z', w')) =
    joined
    (four_digits 13 (eight_to_b_digit y) (hex_digit z) (hex_digit w))
    (four_digits 13 (c_to_f_digit y') (hex_digit z') (hex_digit w'))
