-- `validate::nest::Nest::push` meets its contract: the kind is written after the others. Assumes nothing.
use Rattle.std.proofs.Common.{arith, length-set}
use Rattle.validate.specs.declared.nest.Kind.{Kind}
use Rattle.validate.proofs.NestLaws.{stack_push, stack_depth}
use Rattle.validate.proofs.nest.Nest.push.Goals as goal

pub bounds-self-inside-self-inside : goal.bounds-self-inside-self-inside
bounds-self-inside-self-inside c = omega (arith, stack_depth c.self.inside.kinds c.self.inside.depth c.self.invariant c.self.view_is)

pub invariant_of-self : goal.invariant_of-self
invariant_of-self c = omega (arith, length-set {A = Kind}, stack_depth c.self.inside.kinds c.self.inside.depth c.self.invariant c.self.view_is)

pub returns : goal.returns
returns c =
    let room = stack_depth c.self.inside.kinds c.self.inside.depth c.self.invariant c.self.view_is in
    rw (← c.self.view_is) (stack_push c.self.inside.kinds c.self.inside.depth c.args.kind (omega arith))
