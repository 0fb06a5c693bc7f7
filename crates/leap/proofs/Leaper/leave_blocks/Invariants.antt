-- `leap::Leaper::leave_blocks` meets its contract. The loop's invariant: the facts and the depth at `i` are those of the definition, and a
-- bracket is open. The measure is what is left of the record. Assumes nothing.
use Rattle.std.proofs.Common.{◌≡◌, ◌-◌, length}
use Rattle.leap.proofs.Ways.{Tracked}
use Rattle.leap.proofs.Leaper.leave_blocks.Given as goal

abbrev pub invariant-loop-i : goal.invariant-loop-i
invariant-loop-i l = record {
  tracked : Tracked l.record l.at l.i l.before.inside l.before.odd l.depth;
  same_record : l.self.bytes.now ≡ l.record;
}

abbrev pub decreases-loop-i : goal.decreases-loop-i
decreases-loop-i l = length l.record - l.i
