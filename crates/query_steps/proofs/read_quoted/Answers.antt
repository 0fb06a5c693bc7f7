-- `query_steps::read_quoted` meets its contract: the name is spelt up to its quote, and the brackets are closed behind it. Assumes nothing.
use Rattle.std.proofs.Common.{rules}
use Rattle.query_steps.proofs.Parts.{quoted_open, quoted_taken}
use Rattle.query_steps.proofs.read_quoted.Goals as goal

pub returns-in_err-end : goal.returns-in_err-end
returns-in_err-end c = search (rules, quoted_open)

pub returns : goal.returns
returns c x z = quoted_taken c.in_ok-stop.ensures x z c.in_ok-end.ensures
