-- Trees of small queries and records, for statements that have to be met by some.
use Rattle.std.specs.Prelude.{List, [], ◌∷◌, ◌&&◌, ℕ, zero, suc, T, leb}
use Rattle.encoding.specs.Bytes.{In}
use Rattle.json_text.specs.Grammar.{Char, Name, Value, Tree}
use Rattle.json_text.specs.Grammar as J
use Rattle.query.specs.Grammar.{Depth, Short, Spaced, Query}
use Rattle.query.specs.Grammar as Q

-- a byte of a range
abbrev pub byte : {lo hi : ℕ} → (b : ℕ) → T (leb lo b && leb b hi) → In lo hi
byte b h = record { byte = b; ok = h }

-- names and steps, with no blanks
abbrev pub step : Depth → Short → Spaced
step d x = record { before = []; segment = Q.dotted d x }

abbrev pub tight : List Char → Name
tight cs = record { chars = cs; before = []; after = [] }

abbrev pub alone : Value → Tree
alone v = record { before = []; value = v; after = [] }

-- a number of one digit; an object of one member
abbrev pub digit : (b : ℕ) → T (leb 0x31 b && leb b 0x39) → Value
digit b h = J.number J.unsigned (J.whole (byte b h) []) J.nofrac J.noexp

abbrev pub member : List Char → Value → Value
member cs v = J.container J.object (J.items [] (tight cs) v (J.end []))

abbrev pub a : Char
a = J.high (byte 0x61 tt)

abbrev pub named : (b : ℕ) → T (leb 0x61 b && leb b 0x7A) → Short
named b h = Q.shorthand (Q.lower (byte b h)) []

-- $.a.a .. or $..a..a .., with so many steps
abbrev pub steps : Depth → ℕ → Query
steps d zero = []
steps d (suc n) = step d (named 0x61 tt) ∷ steps d n

-- objects of one member, so many of them one in the other, with null in the last; the names are those from number i on
abbrev pub nest : (ℕ → List Char) → (i n : ℕ) → Value
nest name i zero = J.literal J.null_name
nest name i (suc n) = member (name i) (nest name (suc i) n)

-- {"a":{"a": .. null}}, with so many levels
abbrev pub levels : ℕ → Value
levels n = nest (λ i. a ∷ []) 0 n
