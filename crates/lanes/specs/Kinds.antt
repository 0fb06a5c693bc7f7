-- Kinds of bytes that are told eight at a time.
use Rattle.std.specs.Prelude.{ℕ, Bool, not, ◌&&◌, ◌||◌, ◌==◌, nat_le}

-- a byte that stands for itself in a string (RFC 8259 §7, unescaped, below 80): 20-21, 23-5B, 5D-7F
unfoldable pub plain : ℕ → Bool
plain b = (nat_le 0x20 b && nat_le b 0x21) || ((nat_le 0x23 b && nat_le b 0x5B) || (nat_le 0x5D b && nat_le b 0x7F))

-- a byte that is no quote
unfoldable pub unquoted : ℕ → Bool
unquoted b = not (b == 0x22)

-- a byte that is neither a quote nor a backslash
unfoldable pub bare : ℕ → Bool
bare b = not (b == 0x22 || b == 0x5C)

-- a byte that ends neither a literal nor a number, as most of theirs are: from 2D on, and no closing bracket
unfoldable pub inner : ℕ → Bool
inner b = nat_le 0x2D b && (not (b == 0x5D) && not (b == 0x7D))

-- a digit
unfoldable pub digit : ℕ → Bool
digit b = nat_le 0x30 b && nat_le b 0x39

-- a byte up to the space: outside of strings a JSON text has none but blanks
unfoldable pub gap : ℕ → Bool
gap b = nat_le b 0x20

-- the space
unfoldable pub space_byte : ℕ → Bool
space_byte b = b == 0x20
