use mathlib.Core.Path.{refl}
use Rattle.leap.proofs.Kept.{block_kept}
use Rattle.leap.proofs.Ways.{tracked_start, tracked_out, sorted, block_found, block_last, block_next}
use Rattle.leap.proofs.Leaper.leave_blocks.Goals as goal

pub loop-i-init : goal.loop-i-init
loop-i-init c = record { tracked = tracked_start; same_record = refl }

pub invariant_of-self : goal.invariant_of-self
invariant_of-self c =
    let v = c.loop-i.invariant in
    record {
      record_len_bound = c.loop-i.self.record_len_bound;
      kept = rw v.same_record (block_kept c.loop-i.i (sorted v.tracked c.next_words-block.ensures.sorted));
    }

pub returns-in-At-clause-after_closing : goal.returns-in-At-clause-after_closing
returns-in-At-clause-after_closing c = block_found c.loop-i.invariant.tracked c.next_words-block.ensures.sorted c.in-At.ensures c.loop-i-test.true

pub returns-then-record-i-lt-BLOCK-clause-after_closing : goal.returns-then-record-i-lt-BLOCK-clause-after_closing
returns-then-record-i-lt-BLOCK-clause-after_closing c =
    block_last c.loop-i.invariant.tracked c.next_words-block.ensures.sorted c.in-Open.ensures c.loop-i-test.true c.if-record-i-lt-BLOCK.true

pub loop-i-preserved : goal.loop-i-preserved
loop-i-preserved c =
    let v = c.loop-i.invariant in
    record {
      tracked = block_next v.tracked c.next_words-block.ensures.sorted c.in-Open.ensures c.if-record-i-lt-BLOCK.false;
      same_record = v.same_record;
    }

pub returns-clause-after_closing : goal.returns-clause-after_closing
returns-clause-after_closing c = tracked_out c.loop-i.invariant.tracked c.loop-i-test.false
