-- `moves::Moves::new` makes a table of moves: one without any, or with all. Assumes nothing.
use Rattle.moves.proofs.MoveLaws.{all_moves, added_then, leads_all, leads_nowhere}
use Rattle.moves.proofs.Moves.new.Goals as goal
use Rattle.moves.proofs.Moves.new.Goals.{then-size-ge-LONG, else-size-ge-LONG}

pub invariant_of-result : goal.invariant_of-result
unfolding all_moves
invariant_of-result c =
    elim c.if-size-ge-LONG.branch [
      | then-size-ge-LONG w ↦ rw w.table-is record {
        leads = ∣ leads_all (added_then w.add_plain.ensures (added_then w.add_escapes.ensures w.add_rows.ensures)) ∣₁;
      }
      | else-size-ge-LONG w ↦ rw w.table-is record { leads = ∣ leads_nowhere ∣₁ }
    ]
