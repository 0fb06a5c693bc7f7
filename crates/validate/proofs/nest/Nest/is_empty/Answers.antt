-- `validate::nest::Nest::is_empty` meets its contract: the stack is as long as the depth says. Assumes nothing.
use Rattle.validate.proofs.NestLaws.{stack_depth, empty_by}
use Rattle.validate.proofs.nest.Nest.is_empty.Goals as goal

pub returns : goal.returns
returns c = empty_by _ _ (stack_depth c.self.inside.kinds c.self.inside.depth c.self.invariant c.self.view_is)
