-- The bytes that the words of a block are made of: quotes, backslashes and brackets (document 01, "Words of 64 bits").
use Rattle.std.specs.Prelude.{Bool, ◌||◌, List, ℕ, eqb, get_or}

-- byte i of the rest of the record
unfoldable pub byte_at : List ℕ → ℕ → ℕ
byte_at s i = get_or s i 0

abbrev pub is_quote : List ℕ → ℕ → Bool
is_quote s i = eqb (byte_at s i) 0x22

unfoldable pub is_backslash : List ℕ → ℕ → Bool
unfolding byte_at
is_backslash s i = eqb (byte_at s i) 0x5C

-- an opening and a closing bracket, square or brace
abbrev pub is_opening : List ℕ → ℕ → Bool
is_opening s i = eqb (byte_at s i) 0x5B || eqb (byte_at s i) 0x7B

abbrev pub is_closing : List ℕ → ℕ → Bool
is_closing s i = eqb (byte_at s i) 0x5D || eqb (byte_at s i) 0x7D
