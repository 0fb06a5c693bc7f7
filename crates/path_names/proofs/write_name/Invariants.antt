-- A turn writes the piece of one byte of the name, or that of what one escape stands for. Assumes nothing.
use Prim.Native.Nat.{◌-◌}
use lib.ListN.{length}
use Rattle.path_names.proofs.Left.{left}
use Rattle.text.specs.WritingLaws.{Writing}
use Rattle.path_names.proofs.write_name.Given as goal

abbrev pub invariant-loop-i : goal.invariant-loop-i
invariant-loop-i l = Writing (left l.name 0) l.at l.initial.out (left l.name l.i) l.out l.end

abbrev pub decreases-loop-i : goal.decreases-loop-i
decreases-loop-i l = length l.name - l.i
