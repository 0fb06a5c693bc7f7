-- `query_steps::read_deep` meets its contract: an opening bracket leads into the brackets, and else `*` or a name is due. Assumes nothing.
use Rattle.std.proofs.Common.{rules}
use Rattle.query_steps.proofs.Parts.{deep_bracket}
use Rattle.query_steps.proofs.read_deep.Goals as goal

pub returns-in-Some-eq91 : goal.returns-in-Some-eq91
returns-in-Some-eq91 c = deep_bracket _ (search rules) (search rules) _ c.read_bracket.ensures
