-- Records beside their verdicts, each rule beside its nearest wrong neighbour, and the trees of some records: all by computing.
use Rattle.std.specs.Prelude.{◌≡◌, refl, List, [], ◌∷◌, ◌++◌, map, ℕ, zero, suc}
use Rattle.std.proofs.Common.{arith}
use Rattle.encoding.specs.Ascii.{ascii}
use Rattle.encoding.specs.Bytes.{space}
use Rattle.encoding.specs.Utf8.{Wide, c2_df}
use Rattle.encoding.specs.Verdict.{Verdict, taken, refused}
use Rattle.json_text.specs.Grammar as G
use Rattle.json_text.specs.Grammar.{Value, Name, text, nesting, Nested, array, object}
use Rattle.json_text.specs.Verdict.{record_verdict}

-- bytes between quotes
quoted : List ℕ → List ℕ
quoted s = 0x22 ∷ s ++ 0x22 ∷ []

-- a text n times, and then s
times : ℕ → List ℕ → List ℕ → List ℕ
times zero p s = s
times (suc n) p s = p ++ times n p s

data Example : Type 0 where
  row : List ℕ → Verdict → Example

abbrev verdict_of : Example → Verdict
verdict_of (row s v) = v

judged : Example → Verdict
unfolding record_verdict
judged (row s v) = record_verdict s

-- values and blanks
values : List Example
values =
    row [] (refused 5 0) ∷
    row (ascii " ") (refused 5 1) ∷
    row (ascii "true") taken ∷
    row (ascii "tru") (refused 5 3) ∷
    row (ascii "trve") (refused 5 2) ∷
    row (ascii "True") (refused 5 0) ∷
    row (ascii " null\r\n") taken ∷
    row (ascii "false ") taken ∷
    row (ascii "false 0") (refused 5 6) ∷
    row (0x0C ∷ ascii "0") (refused 5 0) ∷
    row (0xEF ∷ 0xBB ∷ 0xBF ∷ ascii "0") (refused 5 0) ∷ []  -- a byte order mark

numbers : List Example
numbers =
    row (ascii "0") taken ∷
    row (ascii "01") (refused 5 1) ∷
    row (ascii "10") taken ∷
    row (ascii "-") (refused 5 1) ∷
    row (ascii "-0") taken ∷
    row (ascii "+0") (refused 5 0) ∷
    row (ascii "1.") (refused 5 2) ∷
    row (ascii "1.0") taken ∷
    row (ascii ".5") (refused 5 0) ∷
    row (ascii "1e") (refused 5 2) ∷
    row (ascii "1e+") (refused 5 3) ∷
    row (ascii "0E-05") taken ∷
    row (ascii "1.e5") (refused 5 2) ∷
    row (ascii "1e5.") (refused 5 3) ∷ []

strings : List Example
unfolding quoted
strings =
    row (quoted []) taken ∷
    row (0x22 ∷ []) (refused 5 1) ∷
    row (quoted (ascii "\\")) (refused 5 3) ∷  -- the backslash takes the quote
    row (quoted (ascii "\\\\")) taken ∷
    row (quoted (ascii "\\'")) (refused 5 2) ∷
    row (quoted (ascii "\\u1234")) taken ∷
    row (quoted (ascii "\\u12")) (refused 5 5) ∷
    row (quoted (ascii "\\u12G4")) (refused 5 5) ∷
    row (quoted (ascii "\\U1234")) (refused 5 2) ∷
    row (quoted (ascii "\\uD800")) taken ∷  -- half of a surrogate pair
    row (quoted (0x1F ∷ [])) (refused 5 1) ∷
    row (quoted (0x20 ∷ [])) taken ∷
    row (quoted (0x7F ∷ [])) taken ∷
    row (quoted (0x80 ∷ [])) (refused 5 1) ∷
    row (quoted (0xC0 ∷ 0x80 ∷ [])) (refused 5 1) ∷
    row (quoted (0xC2 ∷ 0x80 ∷ [])) taken ∷
    row (quoted (0xC2 ∷ [])) (refused 5 2) ∷
    row (quoted (0xE0 ∷ 0x9F ∷ 0xBF ∷ [])) (refused 5 2) ∷
    row (quoted (0xE0 ∷ 0xA0 ∷ 0x80 ∷ [])) taken ∷
    row (quoted (0xED ∷ 0x9F ∷ 0xBF ∷ [])) taken ∷
    row (quoted (0xED ∷ 0xA0 ∷ 0x80 ∷ [])) (refused 5 2) ∷
    row (quoted (0xEE ∷ 0x80 ∷ 0x80 ∷ [])) taken ∷
    row (quoted (0xF0 ∷ 0x8F ∷ 0xBF ∷ 0xBF ∷ [])) (refused 5 2) ∷
    row (quoted (0xF0 ∷ 0x90 ∷ 0x80 ∷ 0x80 ∷ [])) taken ∷
    row (quoted (0xF4 ∷ 0x8F ∷ 0xBF ∷ 0xBF ∷ [])) taken ∷
    row (quoted (0xF4 ∷ 0x90 ∷ 0x80 ∷ 0x80 ∷ [])) (refused 5 2) ∷
    row (quoted (0xF5 ∷ 0x80 ∷ 0x80 ∷ 0x80 ∷ [])) (refused 5 1) ∷ []

containers : List Example
containers =
    row (ascii "[ ]") taken ∷
    row (ascii "[1,]") (refused 5 3) ∷
    row (ascii "[,1]") (refused 5 1) ∷
    row (ascii "[1 2") (refused 5 3) ∷
    row (ascii "[1 , 2") (refused 5 6) ∷
    row (ascii "[1}") (refused 5 2) ∷
    row (ascii "[]]") (refused 5 2) ∷
    row (ascii "{ }") taken ∷
    row (ascii "{\"a\" : 1 , \"b\" : [ { } ] }") taken ∷
    row (ascii "{\"a\":1,}") (refused 5 7) ∷
    row (ascii "{\"a\"}") (refused 5 4) ∷
    row (ascii "{1:1}") (refused 5 1) ∷
    row (ascii "{\"a\":1]") (refused 5 6) ∷
    row (ascii "[\"a\":1]") (refused 5 4) ∷
    row (ascii "{\"M\":1,\"M\":2}") taken ∷ []  -- a name twice

-- nesting to level 512 and to level 513, in arrays and in arrays and objects by turns, with a dead byte after the bracket and before it
nestings : List Example
unfolding times
nestings =
    row (times 512 (ascii "[") (times 512 (ascii "]") [])) taken ∷
    row (times 512 (ascii "[") (ascii "0" ++ times 512 (ascii "]") [])) taken ∷
    row (times 513 (ascii "[") (times 513 (ascii "]") [])) (refused 6 512) ∷
    row (times 512 (ascii "[") (ascii "[]" ++ times 512 (ascii "]") [])) (refused 6 512) ∷
    row (times 256 (ascii "[{\"\":") (ascii "0" ++ times 256 (ascii "}]") [])) taken ∷
    row (times 256 (ascii "[{\"\":") (ascii "{")) (refused 6 1280) ∷
    row (times 513 (ascii "[") (ascii ",")) (refused 6 512) ∷
    row (times 512 (ascii "[") (ascii ",[")) (refused 5 512) ∷
    row (times 512 (ascii "[") []) (refused 5 512) ∷
    row (times 512 (ascii "[") (times 512 (ascii "]") (ascii "["))) (refused 5 1024) ∷ []

examples : List Example
unfolding values numbers strings containers nestings
examples = values ++ numbers ++ strings ++ containers ++ nestings

examples_hold : map judged examples ≡ map verdict_of examples
unfolding examples judged
examples_hold = refl

-- trees of the grammar, written out

-- `[1, "é"]`
array_tree : Nested 1 (ascii "[1, " ++ quoted (0xC3 ∷ 0xA9 ∷ []) ++ ascii "]")
unfolding text nesting quoted
array_tree =
    record {
      tree =
          record {
            before = [];
            value = G.container array (G.items [] tt one (G.more [] (space ∷ []) tt (G.string (G.wide e_acute ∷ [])) (G.end [])));
            after = [];
          };
      written = refl;
      shallow = omega arith;
    }
  where
    one : Value
    one = G.number G.unsigned (G.whole (record { byte = 0x31; ok = tt }) []) G.nofrac G.noexp

    e_acute : Wide
    e_acute = c2_df (record { byte = 0xC3; ok = tt }) (record { byte = 0xA9; ok = tt })

-- `{"M":-0.5,"M":{}} `
object_tree : Nested 2 (ascii "{\"M\":-0.5,\"M\":{}} ")
unfolding text nesting
object_tree =
    record {
      tree =
          record {
            before = [];
            value = G.container object (G.items [] name half (G.more [] [] name (G.container object (G.empty [])) (G.end [])));
            after = space ∷ [];
          };
      written = refl;
      shallow = omega arith;
    }
  where
    name : Name
    name = record { chars = G.mid (record { byte = 0x4D; ok = tt }) ∷ []; before = []; after = [] }

    half : Value
    half = G.number G.minus G.nought (G.frac (record { byte = 0x35; ok = tt }) []) G.noexp
