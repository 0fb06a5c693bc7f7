-- The record's value stands after its first blanks, and the walk of it starts with no pair used, no frame and no stop. Assumes nothing.
use native.Mathlib.Omega.{arith}
use Rattle.plain.proofs.Laws.{walks_root}
use Rattle.plain.proofs.walk_plain.Goals as goal

pub walk_value-end-requires : goal.walk_value-end-requires
walk_value-end-requires c =
    (c.requires.record_len_bound, c.skip_blanks-at.ensures.within, omega (arith, c.root_state-node.ensures.no_frames))

pub returns : goal.returns
returns c = walks_root c.skip_blanks-at.ensures c.root_state-node.ensures c.walk_value-end.ensures
