-- What the program `picklist` prints for the bytes of its standard input (document 01, "Sample records", from "Program `picklist`" on).
use Rattle.std.specs.Prelude.{true, false, List, ℕ, ◌*◌, leb, length, replicate}
use Rattle.answers.specs.Lister.{ground, place, pairs, list_after}
use Rattle.lines.specs.Lines.{query_in_of, record_in_of, line, report, max_pairs, too_long}

-- the list before anything is written to it, two numbers to a pair
abbrev pub fresh_list : List ℕ
fresh_list = replicate (max_pairs * 2) 0

-- the text for a query and a record
unfoldable pub report_on : (query «record» : List ℕ) → List ℕ
unfolding report ground place pairs list_after
report_on q r = report (ground q r fresh_list) (place q r fresh_list) (pairs q r fresh_list) (list_after q r fresh_list)

-- the most bytes of input
abbrev pub max_input : ℕ
max_input = 65536

-- what is printed
unfoldable pub picklist_output : List ℕ → List ℕ
unfolding query_in_of record_in_of line report_on
picklist_output s = elim (leb (length s) max_input) [ true ↦ report_on (query_in_of s) (record_in_of s) | false ↦ too_long ]
