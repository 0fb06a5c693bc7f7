use native.Mathlib.Omega.{arith}
use Rattle.std.specs.Prelude.{◌≡◌}
use Rattle.encoding.proofs.RowLaws.{from_start, from_end, has_byte_at, under_it, over_it}
use Rattle.encoding.proofs.TablesRight.{rows_right}
use Rattle.encoding.proofs.row_of.Goals as goal

pub loop-row-init : goal.loop-row-init
loop-row-init c = from_start c.args.b

pub returns-then-row-b : goal.returns-then-row-b
returns-then-row-b c = has_byte_at rows_right c.args.b c.loop-row.row-index _ c.loop-row-test.true c.loop-row.invariant c.if-row-b.true c.if-b-row.true

pub returns-then-b-row : goal.returns-then-b-row
returns-then-b-row c = under_it rows_right c.args.b c.loop-row.row-index _ c.loop-row-test.true c.loop-row.invariant c.if-row-b.false

pub loop-row-preserved : goal.loop-row-preserved
loop-row-preserved c = over_it rows_right c.args.b c.loop-row.row-index _ c.loop-row-test.true c.loop-row.invariant c.if-b-row.false

pub returns : goal.returns
returns c = let z : c.loop-row.row-index ≡ 8 = omega arith in from_end c.args.b (rw z at c.loop-row.invariant)
