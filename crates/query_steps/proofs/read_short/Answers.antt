-- `query_steps::read_short` meets its contract: `*` ends the step at once, and else the shorthand name is the step's. Assumes nothing.
use Rattle.std.proofs.Common.{rules}
use Rattle.query_steps.proofs.Parts.{short_end, short_every, short_taken}
use Rattle.query_steps.proofs.read_short.Goals as goal

pub returns-in-Some-eq42 : goal.returns-in-Some-eq42
returns-in-Some-eq42 c d g = short_every _ d (search rules) (search rules)

pub returns-in_ok-end-in-Some : goal.returns-in_ok-end-in-Some
returns-in_ok-end-in-Some c d g = short_taken _ d (search rules) g c.in_ok-end-in-Some.ensures

pub returns-in-None : goal.returns-in-None
returns-in-None c d g = short_end _ d (search rules)
