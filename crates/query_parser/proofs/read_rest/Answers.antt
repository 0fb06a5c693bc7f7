use Rattle.query_parser.proofs.DeadBytes.{rest_end}
use Rattle.query_parser.proofs.read_rest.Goals as goal

pub returns : goal.returns
returns c = rest_end c.loop-i.invariant c.loop-i-test.false
