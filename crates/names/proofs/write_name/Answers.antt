use mathlib.Core.Path.{ap, ◌∙◌}
use native.Mathlib.Omega.{arith}
use lib.ListN.{length}
use Rattle.escapes.specs.LeftLaws.{size_bounds}
use Rattle.names.proofs.Write.{writing_start, writing_end, byte_room, writing_byte, point_room, writing_escape}
use Rattle.names.proofs.write_name.Goals as goal

pub loop-j-init : goal.loop-j-init
loop-j-init c = writing_start c.requires (λ k. (c.type_inv.name k).fits)

pub put-end-requires : goal.put-end-requires
put-end-requires c =
    omega (
      arith,
      ap length (c.as_bytes.ensures ∙ c.in_utf8-code.ensures),
      point_room c.loop-j.invariant c.loop-j-test.true c.if-b-eq-BACKSLASH.true c.escape_at-e.ensures,
    )

pub overflow_add-j : goal.overflow_add-j
overflow_add-j c = omega (arith, (size_bounds c.escape_at-e.ensures).1)

pub loop-j-smaller-then-b-eq-BACKSLASH : goal.loop-j-smaller-then-b-eq-BACKSLASH
loop-j-smaller-then-b-eq-BACKSLASH c = omega (arith, (size_bounds c.escape_at-e.ensures).0)

pub loop-j-preserved-then-b-eq-BACKSLASH : goal.loop-j-preserved-then-b-eq-BACKSLASH
loop-j-preserved-then-b-eq-BACKSLASH c =
    writing_escape c.loop-j.invariant c.loop-j-test.true c.if-b-eq-BACKSLASH.true c.escape_at-e.ensures
    (rw (c.as_bytes.ensures, c.in_utf8-code.ensures) at c.put-end.ensures)

pub put-end-requires-else-b-eq-BACKSLASH : goal.put-end-requires-else-b-eq-BACKSLASH
put-end-requires-else-b-eq-BACKSLASH c = byte_room c.loop-j.invariant c.loop-j-test.true c.if-b-eq-BACKSLASH.false

pub loop-j-preserved : goal.loop-j-preserved
loop-j-preserved c =
    writing_byte c.loop-j.invariant c.loop-j-test.true c.if-b-eq-BACKSLASH.false c.put-end-else-b-eq-BACKSLASH.ensures

pub returns-clause-written : goal.returns-clause-written
returns-clause-written c = writing_end c.loop-j.invariant c.loop-j-test.false
