-- `encoding::class` meets its contract: the entry at `b` is the class of `b`, since the table is right. Assumes nothing.
use native.Mathlib.Omega.{arith}
use Rattle.encoding.proofs.TablesRight.{classes_right}
use Rattle.encoding.proofs.class.Goals as goal

pub returns : goal.returns
returns c = classes_right.entry c.args.b (omega arith)
