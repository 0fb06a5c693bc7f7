-- `encoding::code_points` meets its contract. The loop's invariant: whatever is answered from `i` on is the answer from `at` on. The measure is
-- what is left of the length. Assumes nothing.
use mathlib.Core.Bool.{Bool}
use Prim.Native.Nat.{ℕ, ◌-◌}
use lib.ListN.{length}
use Rattle.encoding.specs.WideRun.{WideRun}
use Rattle.encoding.proofs.code_points.Given as goal

abbrev pub invariant-loop-i : goal.invariant-loop-i
invariant-loop-i l = (ok : Bool) (r : ℕ) → WideRun l.s l.i ok r → WideRun l.s l.at ok r

abbrev pub decreases-loop-i : goal.decreases-loop-i
decreases-loop-i l = length l.s - l.i
