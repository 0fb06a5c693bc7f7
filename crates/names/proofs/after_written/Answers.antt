use native.Mathlib.Omega.{arith}
use Rattle.escapes.specs.LeftLaws.{size_bounds}
use Rattle.names.proofs.Compare.{passed_end, passed_byte, passed_escape, other_byte, other_escape}
use Rattle.names.proofs.after_written.Goals as goal

pub returns-in_err-rest : goal.returns-in_err-rest
returns-in_err-rest c =
    rw c.from_residual.ensures
    (other_escape c.loop-j.invariant c.loop-j-test.true c.if-escape.true c.escape_at-e.ensures c.in_err-rest.ensures)

pub overflow_add-j : goal.overflow_add-j
overflow_add-j c = omega (arith, (size_bounds c.escape_at-e.ensures).1)

pub loop-j-smaller-then-escape : goal.loop-j-smaller-then-escape
loop-j-smaller-then-escape c = omega (arith, (size_bounds c.escape_at-e.ensures).0)

pub loop-j-preserved-then-escape : goal.loop-j-preserved-then-escape
loop-j-preserved-then-escape c =
    passed_escape c.loop-j.invariant c.loop-j-test.true c.if-escape.true c.escape_at-e.ensures c.in_ok-rest.ensures

pub returns-in_err-rest-2 : goal.returns-in_err-rest-2
returns-in_err-rest-2 c = rw c.from_residual-in_err-rest-2.ensures (other_byte c.loop-j.invariant c.loop-j-test.true c.if-escape.false c.in_err-rest-2.ensures)

pub loop-j-preserved : goal.loop-j-preserved
loop-j-preserved c = passed_byte c.loop-j.invariant c.loop-j-test.true c.if-escape.false c.in_ok-rest-2.ensures

pub returns : goal.returns
returns c = passed_end c.loop-j.invariant c.loop-j-test.false
