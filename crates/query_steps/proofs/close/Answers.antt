-- `query_steps::close` meets its contract: blanks leave the reading as it is, the closing bracket ends the step, and any
-- other byte is dead. Assumes nothing.
use Rattle.std.proofs.Common.{rules}
use Rattle.query_steps.proofs.Parts.{close_end, close_other, close_taken}
use Rattle.query_steps.proofs.close.Goals as goal

pub returns-in-Some-eq93 : goal.returns-in-Some-eq93
returns-in-Some-eq93 c = close_taken c.skip_blanks-end.ensures (search rules) (search rules)

pub returns-in_default : goal.returns-in_default
returns-in_default c = close_other c.skip_blanks-end.ensures (search rules) (search rules)

pub returns-in_default-2 : goal.returns-in_default-2
returns-in_default-2 c = close_end c.skip_blanks-end.ensures (search rules)
