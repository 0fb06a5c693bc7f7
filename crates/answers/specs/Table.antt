-- The starred rows of document 01, "Sample records", those of change request S-1, which supersedes the row `$[0]`, and those of S-2: every
-- number of each outcome, by computing the definitions that the listers' promise cites.
use Rattle.std.specs.Prelude.{◌≡◌, refl, List, [], ◌∷◌, ◌++◌, map, ℕ}
use Rattle.encoding.specs.Ascii.{ascii}
use Rattle.answers.specs.Outcome.{Outcome, outcome, done, refused}

-- a query, a record, a list that held other numbers before, and the outcome
pub record Row : Type 0 where
  pub query : List ℕ
  pub text : List ℕ
  pub list : List ℕ
  pub outcome : Outcome

abbrev pub row : (query text list : List ℕ) → Outcome → Row
row q t l o = record { query = q; text = t; list = l; outcome = o }

abbrev pub old : List ℕ
old = 91 ∷ 92 ∷ 93 ∷ 94 ∷ 95 ∷ 96 ∷ 97 ∷ []

-- the rows with a record of their own
abbrev pub table : List Row
table =
    row (ascii "$") (ascii "7") old (done 1 0 (0 ∷ 1 ∷ 93 ∷ 94 ∷ 95 ∷ 96 ∷ 97 ∷ [])) ∷
    row (ascii "$.M") (ascii "{\"M\":1,\"M\":2}") old (done 2 0 (5 ∷ 6 ∷ 11 ∷ 12 ∷ 95 ∷ 96 ∷ 97 ∷ [])) ∷
    row (ascii "$..a..b") (ascii "{\"a\":{\"a\":{\"b\":1}}}") old (done 1 1 (15 ∷ 16 ∷ 93 ∷ 94 ∷ 95 ∷ 96 ∷ 97 ∷ [])) ∷
    row (ascii "$..*") (ascii "[3,[4]]") old (done 3 0 (1 ∷ 2 ∷ 3 ∷ 6 ∷ 4 ∷ 5 ∷ 97 ∷ [])) ∷
    row (ascii "$.*") (ascii "[3,[4]]") (91 ∷ 92 ∷ 93 ∷ []) (refused 7 3 1 (1 ∷ 2 ∷ 93 ∷ [])) ∷
    row (ascii "$ ['a' ]") (ascii "{\"a\":[]}") old (done 1 1 (5 ∷ 7 ∷ 93 ∷ 94 ∷ 95 ∷ 96 ∷ 97 ∷ [])) ∷
    row (ascii "$.lot") (ascii "{\"x\":\"lot\\\":9}\"}") old (done 0 0 old) ∷
    row (ascii "$") (ascii "[1,]") old (refused 5 3 0 old) ∷
    row (ascii "$") (ascii "01") old (refused 5 1 0 old) ∷
    []

-- the rows of change request S-1 with a record of their own
abbrev pub positions : List Row
positions =
    row (ascii "$[2]") (ascii "[1,[2,3],4]") old (done 1 1 (9 ∷ 10 ∷ 93 ∷ 94 ∷ 95 ∷ 96 ∷ 97 ∷ [])) ∷
    row (ascii "$..[0]") (ascii "[[7]]") old (done 2 0 (1 ∷ 4 ∷ 2 ∷ 3 ∷ 95 ∷ 96 ∷ 97 ∷ [])) ∷
    row (ascii "$[0]") (ascii "{\"0\":1}") old (done 0 0 old) ∷
    row (ascii "$..[1]") (ascii "[[1,2],[3,4]]") old (done 3 0 (4 ∷ 5 ∷ 7 ∷ 12 ∷ 10 ∷ 11 ∷ 97 ∷ [])) ∷
    []

-- the code point 1F600, one of four bytes
abbrev pub smile : List ℕ
smile = 0xF0 ∷ 0x9F ∷ 0x98 ∷ 0x80 ∷ []

-- the rows of change request S-2 with a record of their own: names written as escapes on one side, on the other, on both; a pair of escapes
-- and the code point that it is; and a half with a pair behind it, which equals no name, is taken by `*` and passed by a deep step
abbrev pub code_points : List Row
code_points =
    row (ascii "$.lot") (ascii "{\"l\\u006ft\":1}") old (done 1 0 (12 ∷ 13 ∷ 93 ∷ 94 ∷ 95 ∷ 96 ∷ 97 ∷ [])) ∷
    row (ascii "$['\\u006cot']") (ascii "{\"lot\":1}") old (done 1 0 (7 ∷ 8 ∷ 93 ∷ 94 ∷ 95 ∷ 96 ∷ 97 ∷ [])) ∷
    row (ascii "$['" ++ smile ++ ascii "']") (ascii "{\"\\uD83D\\uDE00\":1}") old (done 1 0 (16 ∷ 17 ∷ 93 ∷ 94 ∷ 95 ∷ 96 ∷ 97 ∷ [])) ∷
    row (ascii "$['\\ud83d\\ude00']") (ascii "{\"\\uD83D\\uDE00\":1}") old (done 1 0 (16 ∷ 17 ∷ 93 ∷ 94 ∷ 95 ∷ 96 ∷ 97 ∷ [])) ∷
    row (ascii "$['" ++ smile ++ ascii "']") (ascii "{\"" ++ smile ++ ascii "\":1}") old (done 1 0 (8 ∷ 9 ∷ 93 ∷ 94 ∷ 95 ∷ 96 ∷ 97 ∷ [])) ∷
    row (ascii "$['\\ud83d\\ude00']") (ascii "{\"" ++ smile ++ ascii "\":1}") old (done 1 0 (8 ∷ 9 ∷ 93 ∷ 94 ∷ 95 ∷ 96 ∷ 97 ∷ [])) ∷
    row (ascii "$['\\ud83d\\ude00']") (ascii "{\"\\ud83d\\ud83d\\ude00\":1}") old (done 0 0 old) ∷
    row (ascii "$.*") (ascii "{\"\\ud83d\\ud83d\\ude00\":1}") old (done 1 0 (22 ∷ 23 ∷ 93 ∷ 94 ∷ 95 ∷ 96 ∷ 97 ∷ [])) ∷
    row (ascii "$..a") (ascii "{\"\\ud83d\\ud83d\\ude00\":{\"\\u0061\":1}}") old (done 1 0 (32 ∷ 33 ∷ 93 ∷ 94 ∷ 95 ∷ 96 ∷ 97 ∷ [])) ∷
    []

-- the rows together; what a row says of any record holds of any list too
pub record StarredRows : Type 0 where
  -- the nine rows of document 01 with a record of their own, and those of change requests S-1 and S-2
  pub own_record : map (λ (r : Row). outcome r.query r.text r.list) table ≡ map (λ (r : Row). r.outcome) table
  pub own_positions : map (λ (r : Row). outcome r.query r.text r.list) positions ≡ map (λ (r : Row). r.outcome) positions
  pub own_code_points : map (λ (r : Row). outcome r.query r.text r.list) code_points ≡ map (λ (r : Row). r.outcome) code_points
  -- "empty", any record: "ground 2, place 0"
  pub empty_query : (text list : List ℕ) → outcome [] text list ≡ refused 2 0 0 list
  -- "`$.a` and a blank", any record: "ground 2, place 4"
  pub blank_at_the_end : (text list : List ℕ) → outcome (ascii "$.a ") text list ≡ refused 2 4 0 list
  -- `$[00]`, any record: ground 2, place 3 (change request S-1, in the place of document 01's row "`$[0]`")
  pub zero-before : (text list : List ℕ) → outcome (ascii "$[00]") text list ≡ refused 2 3 0 list
  -- `$['\uD800']`, any record: ground 2, place 9 (change request S-2: half of a pair, where the other half is due)
  pub half_alone : (text list : List ℕ) → outcome (ascii "$['\\uD800']") text list ≡ refused 2 9 0 list

pub starred_rows : StarredRows
unfolding outcome
starred_rows = record {
  own_record = refl;
  own_positions = refl;
  own_code_points = refl;
  empty_query = λ text list. refl;
  blank_at_the_end = λ text list. refl;
  zero-before = λ text list. refl;
  half_alone = λ text list. refl;
}
