-- `encoding::rest_of` meets its contract. The loop's invariant: whatever is answered for the bytes still due from `i` on is the answer for all
-- of them. Assumes nothing.
use mathlib.Core.Bool.{Bool}
use Prim.Native.Nat.{ℕ, ◌≤◌, ◌-◌}
use lib.ListN.{length}
use Rattle.encoding.specs.CodePoint.{due, Scanned}
use Rattle.encoding.proofs.rest_of.Given as goal

abbrev pub invariant-loop : goal.invariant-loop
invariant-loop l =
    (l.i ≤ length l.s) × ((ok : Bool) (at : ℕ) → Scanned (due l.lo l.hi (l.count - l.counter)) l.s l.i ok at → Scanned (due l.low l.high l.count) l.s l.from ok at)
