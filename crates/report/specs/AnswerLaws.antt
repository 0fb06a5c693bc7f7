-- The text by the size of the input, and by a lister's answer to its query and record.
use Rattle.std.specs.Prelude.{◌≡◌, List, ℕ, zero, suc, ◌≤◌, ◌<◌, length}
use Rattle.std.proofs.Common.{sym, ◌∙◌, arith, le-leb, length-take}
use Rattle.std.proofs.lemmas.Bool.{lt-leb}
use Rattle.select.specs.Ways.{Span}
use Rattle.answers.specs.Lister.{pairs_of, written_if, written, pairs, Lists, input_verdict, spans_in}
use Rattle.lines.specs.Lines.{max_pairs, query_in_of, record_in_of, too_long, report}
use Rattle.report.specs.Output.{report_on, fresh_list, max_input, picklist_output}

pub output_long : (s : List ℕ) → max_input < length s → picklist_output s ≡ too_long
unfolding picklist_output
output_long s h = rw (lt-leb (length s) max_input h, picklist_output)

pub output_short : (s : List ℕ) → length s ≤ max_input → picklist_output s ≡ report_on (query_in_of s) (record_in_of s)
unfolding picklist_output
output_short s h = rw (le-leb (length s) max_input h, picklist_output)

-- no more is written than there are pairs
written_fits : (g : ℕ) (ss : List Span) (l : List ℕ) → length (written_if g ss l) ≤ pairs_of l
unfolding written_if
written_fits zero ss l = omega (arith, length-take (pairs_of l) ss)
written_fits (suc g) ss l = omega arith

pairs_fit : (q r l : List ℕ) → pairs q r l ≤ pairs_of l
unfolding pairs written
pairs_fit q r l = written_fits (input_verdict q r).ground (spans_in q r) l

-- an answer of a lister to the query and the record, with the list of 256 pairs
module _ {q r after : List ℕ} {g p n k : ℕ} (says : Lists q r fresh_list after g p n k) where
  pub answer_fits : n ≤ max_pairs
  unfolding pairs_of
  answer_fits = rw says.pairs_are (pairs_fit q r fresh_list)

  answer_report : report g p n after ≡ report_on q r
  unfolding report_on
  answer_report = rw (says.ground_is, says.place_is, says.pairs_are, says.list_is)

  pub answer_text : (s : List ℕ) → length s ≤ max_input → q ≡ query_in_of s → r ≡ record_in_of s → picklist_output s ≡ report g p n after
  answer_text s h eq er = output_short s h ∙ rw (← eq, ← er) (sym answer_report)
