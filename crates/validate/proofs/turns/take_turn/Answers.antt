-- `validate::turns::take_turn` meets its contract, by what is due. Assumes nothing.
use Rattle.validate.proofs.turns.take_turn.Goals as goal

pub returns-in-Name : goal.returns-in-Name
returns-in-Name c = rw c.in-Name.is (c.name.ensures c.args.nest.now)
