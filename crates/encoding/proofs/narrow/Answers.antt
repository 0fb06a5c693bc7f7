-- `encoding::narrow` meets its contract: the bounds are those of the first row, which has exactly the bytes below 80. Assumes nothing.
use Rattle.encoding.proofs.RowLaws.{by_first}
use Rattle.encoding.proofs.TablesRight.{rows_right}
use Rattle.encoding.proofs.narrow.Goals as goal

pub returns-then-first-b : goal.returns-then-first-b
returns-then-first-b c = by_first rows_right c.args.b
