-- `brackets::without` meets its contract: xor with one bit that is on turns it off and leaves the others. Assumes nothing.
use Rattle.brackets.proofs.Words.{cleared}
use Rattle.brackets.proofs.without.Goals as goal

pub returns : goal.returns
returns c = cleared c.args.w c.args.i c.ranges.w.fits c.requires.i_bound c.requires.w_value
