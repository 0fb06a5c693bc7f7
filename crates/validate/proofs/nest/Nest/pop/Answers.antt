-- `validate::nest::Nest::pop` meets its contract: the last of the row is left out. Assumes nothing.
use Rattle.std.proofs.Common.{arith}
use Rattle.validate.proofs.NestLaws.{stack_last, stack_depth}
use Rattle.validate.proofs.nest.Nest.pop.Goals as goal

pub overflow_sub-self : goal.overflow_sub-self
overflow_sub-self c = omega (arith, stack_depth c.self.inside.kinds c.self.inside.depth c.self.invariant c.self.view_is)

pub returns : goal.returns
returns c =
    let long = stack_depth c.self.inside.kinds c.self.inside.depth c.self.invariant c.self.view_is in
    (rw (← c.self.view_is, stack_last c.self.inside.kinds c.self.inside.depth c.self.invariant (omega arith)), omega arith)
