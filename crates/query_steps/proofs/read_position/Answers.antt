-- `query_steps::read_position` meets its contract: the digits are a position of the grammar, and the brackets are closed behind it. Assumes nothing.
use Rattle.std.proofs.Common.{rules}
use Rattle.query_steps.proofs.Parts.{position_taken, position_open}
use Rattle.query_steps.proofs.read_position.Goals as goal

pub returns-in_err-end : goal.returns-in_err-end
returns-in_err-end c = search (rules, position_open c.position-digits.ensures)

pub returns : goal.returns
returns c = position_taken c.position-digits.ensures c.in_ok-end.ensures
