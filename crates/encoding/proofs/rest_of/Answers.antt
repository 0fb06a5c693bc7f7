use Prim.Native.Nat.{◌+◌, ◌-◌}
use native.Mathlib.Omega.{arith}
use Rattle.std.specs.Prelude.{◌≡◌}
use Rattle.encoding.proofs.Scans.{due_done, due_ends, due_low, due_high, due_next}
use Rattle.encoding.proofs.rest_of.Goals as goal
use Rattle.encoding.proofs.rest_of.Goals.{then-i-s-via-then-i-s, then-i-s-via-else-i-s+then-s-i, then-i-s-via-else-i-s+else-s-i+then-s-i-2}

pub loop-init : goal.loop-init
loop-init c = let z : c.args.count - 0 ≡ c.args.count = omega arith in (omega arith, λ ok at a. rw z at a)

pub returns-then-i-s : goal.returns-then-i-s
returns-then-i-s c =
    c.loop.invariant.1 _ _
    (elim c.then-i-s.branch [
      | then-i-s-via-then-i-s w ↦ due_ends _ _ _ (omega arith) w.if-i-s.true
      | then-i-s-via-else-i-s+then-s-i w ↦ due_low _ _ _ (omega arith) w.if-i-s.false w.if-s-i.true
      | then-i-s-via-else-i-s+else-s-i+then-s-i-2 w ↦ due_high _ _ _ (omega arith) w.if-i-s.false w.if-s-i-2.true
    ])

pub loop-preserved : goal.loop-preserved
loop-preserved c = (
  omega arith,
  λ ok e a.
      let z : c.args.count - (c.loop.counter + 1) ≡ c.args.count - c.loop.counter - 1 = omega arith in
      c.loop.invariant.1 ok e (due_next _ _ _ (omega arith) (omega arith) c.if-s-i.false c.if-s-i-2.false (rw z at a)),
)

pub returns : goal.returns
returns c = c.loop.invariant.1 _ _ (due_done _ _ _ (omega arith))
