-- From what is admitted and what the walk promises to a lister's promise. Assumes nothing.
use Rattle.std.specs.Prelude.{◌≡◌, refl, List, ℕ, ◌≤◌, ◌<◌, Option, Some, None, Ok, Err, length}
use Rattle.std.proofs.Common.{ap, ◌∙◌, arith, length-take}
use Rattle.std.proofs.Math.Nat.{min-le_right}
use Rattle.json_text.specs.Grammar.{Tree}
use Rattle.json_text.specs.Verdict.{max_bytes}
use Rattle.encoding.specs.declared.refusals.Refusal.{Refusal}
use Rattle.query_parser.specs.Holds.{Fits}
use Rattle.query_parser.specs.declared.compiled.Compiled.{Compiled}
use Rattle.query.specs.Verdict.{steps_in}
use Rattle.select.specs.Ways.{spans}
use Rattle.answers.specs.Lister.{pairs_of}
use Rattle.answers.specs.Within.{RecordIs}
use Rattle.answers.specs.WithinLaws.{taken_record}
use Rattle.automaton.specs.Bounds.{spans_few, peak_few, stop_few}
use Rattle.automaton.specs.Lists.{lists_all, lists_left}
use Rattle.automaton.specs.TallyIs.{Whole, tally_is}
use Rattle.pairs.specs.Pairs.{tally_of, plus_one}
use Rattle.pairs.specs.declared.Counts.{Counts}
use Rattle.walk.specs.Walks.{Walks}
use Rattle.lister.specs.Answers.{Admits, refusal, Countable, concluded}
use Rattle.lister.specs.Listed.{Listed}
use Rattle.lister.specs.declared.Answer.{Answer}

-- refused
pub listed_none : {q r names : List ℕ} {e : Refusal} → Admits q r names (Err e) → {l : List ℕ} {a : Answer} → a ≡ refusal e → Listed q r l l a
listed_none admitted {l} f = rw f (admitted.refuses l)

-- taken: the names lie where a query can have them, and the record has a tree within the limits
module _ {q r names : List ℕ} {s : Compiled} (admitted : Admits q r names (Ok s)) where
  pub fits : Fits s.kinds s.operands
  fits = admitted.steps_are.fits

  the_tree : Tree
  the_tree = (taken_record r admitted.record_taken).0

  the_record : RecordIs r the_tree
  unfolding the_tree
  the_record = (taken_record r admitted.record_taken).1

  pub record_short : length r ≤ max_bytes
  record_short = the_record.bytes

  -- a walk over both
  module _ {l after : List ℕ} {c : Counts}
      (walked : Walks names s.kinds s.operands r l after c) where
    whole : Whole (steps_in q) the_tree l (tally_of after c)
    whole =
        rw (walked.counts (steps_in q) admitted.steps_are the_tree the_record.written the_record.levels) at
        (tally_is (steps_in q) the_tree l)

    -- the first node left over begins before the limit
    pub stop_before : (first : ℕ) → c.stop ≡ Some first → first < max_bytes
    stop_before p e =
        let size = ap length the_record.written in
        let short = the_record.bytes in
        omega (arith, ap plus_one e, whole.stop_is, stop_few the_tree (steps_in q) (pairs_of l))

    pub countable : Countable c
    countable =
        let size = ap length the_record.written in
        let short = the_record.bytes in
        record {
          used_small =
              omega (
                arith,
                whole.used_is,
                length-take (pairs_of l) (spans the_tree (steps_in q)),
                min-le_right (pairs_of l) (length (spans the_tree (steps_in q))),
                spans_few the_tree (steps_in q),
              );
          peak_small = λ e. omega (arith, whole.peak_is (ap plus_one e), peak_few the_tree (steps_in q));
          stop_small = λ p e. omega (arith, stop_before p e);
        }

    pub listed_all : {a : Answer} → a ≡ concluded c.used c.peak c.stop → Listed q r l after a
    listed_all e = rw e (go c.stop refl)
      where
        go : (m : Option ℕ) → c.stop ≡ m → Listed q r l after (concluded c.used c.peak m)
        go None f =
            lists_all q r l admitted.query_taken admitted.record_taken the_tree the_record (tally_of after c) whole (ap plus_one f)
        go (Some p) f =
            lists_left q r l admitted.query_taken admitted.record_taken the_tree the_record (tally_of after c) whole p
            (ap plus_one f ∙ omega arith)
