-- The sum's carries, against the even places, are on behind the odd runs. Assumes nothing.
use Rattle.std.proofs.Common.{refl}
use Rattle.blocks.proofs.Escape.{escaped_law}
use Rattle.blocks.proofs.escaped.Goals as goal

pub returns : goal.returns
returns c = escaped_law c.args.backslashes c.args.odd _ refl
