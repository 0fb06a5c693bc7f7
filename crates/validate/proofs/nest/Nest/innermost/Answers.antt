-- `validate::nest::Nest::innermost` meets its contract: the last of the row is the first of the stack. Assumes nothing.
use Rattle.validate.proofs.NestLaws.{stack_last}
use Rattle.validate.proofs.nest.Nest.innermost.Goals as goal

pub returns-then-self-eq0 : goal.returns-then-self-eq0
returns-then-self-eq0 c = rw (← c.self.view_is, c.if-self-eq0.true)

pub returns : goal.returns
returns c = rw (← c.self.view_is, stack_last c.self.inside.kinds c.self.inside.depth c.self.invariant c.if-self-eq0.false)
