-- `brackets::pass_block` meets its contract: with fewer closing brackets than are open the depth is a sum. Assumes nothing.
use mathlib.Core.Path.{ap}
use native.Mathlib.Omega.{arith}
use Rattle.blocks.specs.declared.Counted.{Counted}
use Rattle.brackets.proofs.Words.{passed_counted}
use Rattle.brackets.proofs.pass_block.Goals as goal

pub returns-then-closed-depth : goal.returns-then-closed-depth
returns-then-closed-depth c =
    let block = c.args.block in
    passed_counted (omega arith) (omega arith) block.apart
    (ap (λ (x : Counted). x.opened) block.counted_is) (ap (λ (x : Counted). x.closed) block.counted_is) c.if-closed-depth.true
