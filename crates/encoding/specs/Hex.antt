-- Hexadecimal digits, and the number that four of them stand for.
use Rattle.std.specs.Prelude.{ℕ, ◌+◌, ◌-◌, ◌*◌}
use Rattle.encoding.specs.Bytes.{In}

-- HEXDIG (RFC 5234 §B.1), of either case
pub data Hex : Type 0 where
  digit : In 0x30 0x39 → Hex
  upper : In 0x41 0x46 → Hex
  lower : In 0x61 0x66 → Hex

abbrev pub hex_byte : Hex → ℕ
hex_byte (digit d) = d.byte
hex_byte (upper d) = d.byte
hex_byte (lower d) = d.byte

-- what a digit stands for
abbrev pub hex_digit : Hex → ℕ
hex_digit (digit d) = d.byte - 0x30
hex_digit (upper d) = d.byte - 0x37
hex_digit (lower d) = d.byte - 0x57

-- and what four stand for, the first of them counting most
abbrev pub four_digits : ℕ → ℕ → ℕ → ℕ → ℕ
four_digits x y z w = x * 4096 + y * 256 + z * 16 + w

abbrev pub hex_number : Hex → Hex → Hex → Hex → ℕ
hex_number x y z w = four_digits (hex_digit x) (hex_digit y) (hex_digit z) (hex_digit w)
