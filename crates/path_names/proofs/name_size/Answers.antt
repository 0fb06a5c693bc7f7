use native.Mathlib.Omega.{arith}
use Rattle.escapes.specs.LeftLaws.{size_bounds}
use Rattle.path_names.proofs.Measure.{half_end, size_end, measuring_byte, measuring_escape}
use Rattle.path_names.proofs.name_size.Goals as goal

pub overflow_add-i : goal.overflow_add-i
overflow_add-i c = omega (arith, (size_bounds c.escape_at-e.ensures).1)

pub loop-i-smaller-then-b-eq-BACKSLASH : goal.loop-i-smaller-then-b-eq-BACKSLASH
loop-i-smaller-then-b-eq-BACKSLASH c = omega (arith, (size_bounds c.escape_at-e.ensures).0)

pub loop-i-preserved-then-b-eq-BACKSLASH : goal.loop-i-preserved-then-b-eq-BACKSLASH
loop-i-preserved-then-b-eq-BACKSLASH c =
    rw c.is_half-half.ensures (
    measuring_escape c.args.name.now c.loop-i.invariant c.loop-i-test.true
    c.if-b-eq-BACKSLASH.true c.escape_at-e.ensures c.point_size-size.ensures.0 c.point_size-size.ensures.1
    )

pub loop-i-preserved : goal.loop-i-preserved
loop-i-preserved c =
    measuring_byte c.args.name.now c.loop-i.invariant c.loop-i-test.true
    c.if-b-eq-BACKSLASH.false c.byte_size-size.ensures.0 c.byte_size-size.ensures.1

pub returns-clause-half_value : goal.returns-clause-half_value
returns-clause-half_value c = half_end c.args.name.now c.loop-i.invariant c.loop-i-test.false

pub returns-clause-size_value : goal.returns-clause-size_value
returns-clause-size_value c = size_end c.args.name.now c.loop-i.invariant c.loop-i-test.false
