-- `moves::Moves::follow` meets its contract: six bits of the byte's word. Assumes nothing.
use Rattle.std.proofs.Common.{rules}
use Rattle.moves.proofs.MoveLaws.{open_leads, leads_follows}
use Rattle.moves.proofs.Moves.follow.Goals as goal

pub returns : goal.returns
returns c = leads_follows (open_leads c.args.self.now.leads) _ _ (search rules)
