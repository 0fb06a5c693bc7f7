-- `path::write_labels` meets its contract: behind the `$` each turn writes one link more, from the last one down. Assumes nothing.
use Rattle.std.specs.Prelude.{drop, length, ◌≤◌}
use Rattle.text.specs.Put.{Written}
use Rattle.path.specs.Slots.{slots_text}
use Rattle.path.proofs.write_labels.Given as goal

abbrev pub invariant-loop-i : goal.invariant-loop-i
invariant-loop-i l = (l.i ≤ length l.links) × Written (slots_text l.record (drop l.i l.links)) l.initial.at l.initial.out l.out l.at
