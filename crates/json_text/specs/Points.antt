-- The code points of a string of a record (RFC 8259 §7 and §8.2).
use Rattle.std.specs.Prelude.{List, [], ◌∷◌, ◌&&◌, ℕ}
use Rattle.encoding.specs.Hex.{hex_number}
use Rattle.encoding.specs.Points.{if_else, point_of, is_high, is_low, joined}
use Rattle.json_text.specs.Grammar as G
use Rattle.json_text.specs.Grammar.{Escape, Char}

-- what the escapes of two bytes stand for
abbrev pub escape_point : Escape → ℕ
escape_point G.quote = 0x22
escape_point G.backslash = 0x5C
escape_point G.slash = 0x2F
escape_point G.backspace = 0x08
escape_point G.form = 0x0C
escape_point G.line = 0x0A
escape_point G.carriage = 0x0D
escape_point G.tabulator = 0x09

-- what a character stands for: a code point, or half of a surrogate pair, which only `\u` can write
unfoldable pub unit_of : Char → ℕ
unfolding point_of
unit_of (G.low x) = x.byte
unit_of (G.mid x) = x.byte
unit_of (G.high x) = x.byte
unit_of (G.wide p) = point_of p
unit_of (G.escaped e) = escape_point e
unit_of (G.unicode x y z w) = hex_number x y z w

unfoldable pub units_of : List Char → List ℕ
unfolding unit_of
units_of [] = []
units_of (c ∷ cs) = unit_of c ∷ units_of cs

-- from the left: a high half and the low half right behind it are one code point, and a half that stands alone stays as its number
unfoldable pub join : List ℕ → List ℕ
join [] = []
join (u ∷ []) = u ∷ []
join (u ∷ v ∷ us) = if_else (is_high u && is_low v) (joined u v ∷ join us) (u ∷ join (v ∷ us))

unfoldable pub points_of : List Char → List ℕ
unfolding units_of join
points_of cs = join (units_of cs)
