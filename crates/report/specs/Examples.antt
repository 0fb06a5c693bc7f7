-- What `picklist` prints on some inputs, by computing: the example of document 01, both refusals, and inputs without a line feed.
use Rattle.std.specs.Prelude.{◌≡◌, refl, List, [], ◌∷◌, ◌++◌, map, ℕ, zero, suc, take}
use Rattle.encoding.specs.Ascii.{ascii}
use Rattle.report.specs.Output.{picklist_output}

pub record Row : Type 0 where
  pub input : List ℕ
  pub output : List ℕ

abbrev row : (input output : List ℕ) → Row
row s t = record { input = s; output = t }

abbrev pub table : List Row
table =
    row (ascii "$..lot\n{\"a\":{\"lot\":1},\"lot\":[2]}") (ascii "matches 2\n1 12 13\n2 21 24\n") ∷
    row (ascii "$.lot\n{\"x\":1}") (ascii "matches 0\n") ∷
    row (ascii "$.\n[]") (ascii "refused 2 2\n") ∷
    row (ascii "$.a\r\n{\"a\":1}") (ascii "refused 2 4\n") ∷
    row (ascii "$\n[1,]") (ascii "refused 5 3\n") ∷
    row (ascii "$\n7\n") (ascii "matches 1\n1 0 1\n") ∷
    row (ascii "$") (ascii "refused 5 0\n") ∷
    row [] (ascii "refused 2 0\n") ∷
    []

pub table_holds : map (λ (r : Row). picklist_output r.input) table ≡ map (λ (r : Row). r.output) table
unfolding picklist_output
table_holds = refl

-- an array of n zeros and one more, and a query for its elements: 256 nodes fit the list, and 257 do not
abbrev zeros : ℕ → List ℕ
zeros zero = ascii "0]"
zeros (suc n) = ascii "0," ++ zeros n

abbrev elements : ℕ → List ℕ
elements n = ascii "$.*\n[" ++ zeros n

pub list_exact : take 24 (picklist_output (elements 255)) ≡ ascii "matches 256\n1 1 2\n2 3 4\n"
unfolding picklist_output
list_exact = refl

pub list_short : picklist_output (elements 256) ≡ ascii "refused 7 513\n"
unfolding picklist_output
list_short = refl
