-- `brackets::next_level` meets its contract: an opening bracket is one more, a closing one is one less. Assumes nothing.
use mathlib.Core.Path.{sym, ◌∙◌}
use Rattle.brackets.proofs.Words.{opens_one, closes_one}
use Rattle.brackets.proofs.next_level.Goals as goal

pub returns-then-has : goal.returns-then-has
returns-then-has c = opens_one _ _ (sym c.has.ensures ∙ c.if-has.true) c.requires.1

pub returns : goal.returns
returns c = closes_one _ _ (sym c.has.ensures ∙ c.if-has.false) c.requires.1
