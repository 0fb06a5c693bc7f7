-- A turn writes one byte of the query's name, or what one escape stands for. Assumes nothing.
use Prim.Native.Nat.{◌-◌}
use lib.ListN.{length}
use Rattle.names.proofs.Write.{Writing}
use Rattle.names.proofs.write_name.Given as goal

abbrev pub invariant-loop-j : goal.invariant-loop-j
invariant-loop-j l = Writing l.initial.names l.name l.at l.names l.end l.j

abbrev pub decreases-loop-j : goal.decreases-loop-j
decreases-loop-j l = length l.name - l.j
