-- What the program `picklist` reads and prints (document 01, "Sample records", from "Program `picklist`" on), but for the answer itself:
-- the query and the record in its input, and the lines for an answer.
use Rattle.std.specs.Prelude.{true, false, List, [], ◌∷◌, ◌++◌, ℕ, zero, suc, ◌+◌, ◌*◌, eqb, get_or}
use Rattle.encoding.specs.Ascii.{ascii}
use Rattle.text.specs.Decimal.{decimal}

-- the bytes between fields and after lines
abbrev pub space : ℕ
space = 0x20

abbrev pub feed : ℕ
feed = 0x0A

-- the query: what stands before the first line feed
unfoldable pub query_in_of : List ℕ → List ℕ
query_in_of [] = []
query_in_of (b ∷ s) = elim (eqb b feed) [ true ↦ [] | false ↦ b ∷ query_in_of s ]

-- the record: what stands after it, and nothing where there is no line feed
unfoldable pub record_in_of : List ℕ → List ℕ
record_in_of [] = []
record_in_of (b ∷ s) = elim (eqb b feed) [ true ↦ s | false ↦ record_in_of s ]

-- a line of a first field and those after it: "One space parts the fields, here and in a refusal, and every line ends in a line feed"
unfoldable pub line : List ℕ → List (List ℕ) → List ℕ
line f [] = f ++ (feed ∷ [])
line f (g ∷ gs) = f ++ (space ∷ line g gs)

-- the line of pair i of the list: "number of the node from 1, first byte, byte after the last, in decimal"
abbrev pub pair_line : (i : ℕ) → List ℕ → List ℕ
pair_line i l = line (decimal (i + 1)) (decimal (get_or l (i * 2) 0) ∷ decimal (get_or l (i * 2 + 1) 0) ∷ [])

-- a line for each of k pairs from pair i on
unfoldable pub pair_lines : (i k : ℕ) → List ℕ → List ℕ
unfolding line decimal
pair_lines i zero l = []
pair_lines i (suc k) l = pair_line i l ++ pair_lines (i + 1) k l

-- "The first line is `matches` and the number of pairs written", and the pairs follow
abbrev pub matches : (pairs : ℕ) → List ℕ → List ℕ
matches n l = line (ascii "matches") (decimal n ∷ []) ++ pair_lines 0 n l

-- "A refusal prints only `refused`, the ground and the place"
abbrev pub refusal : (ground : ℕ) (place : ℕ) → List ℕ
refusal g p = line (ascii "refused") (decimal g ∷ decimal p ∷ [])

-- the text for an answer
unfoldable pub report : (ground : ℕ) (place pairs : ℕ) → List ℕ → List ℕ
unfolding line decimal pair_lines
report zero p n l = matches n l
report (suc g) p n l = refusal (suc g) p

-- the pairs that the list has
abbrev pub max_pairs : ℕ
max_pairs = 256

-- "Input over 65,536 bytes prints `too long`"
abbrev pub too_long : List ℕ
too_long = line (ascii "too long") []
