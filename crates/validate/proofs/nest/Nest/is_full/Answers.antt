-- `validate::nest::Nest::is_full` meets its contract: the stack is as long as the depth says. Assumes nothing.
use Rattle.validate.proofs.NestLaws.{stack_depth, full_by}
use Rattle.validate.proofs.nest.Nest.is_full.Goals as goal

pub returns : goal.returns
returns c = full_by _ _ (stack_depth c.self.inside.kinds c.self.inside.depth c.self.invariant c.self.view_is)
