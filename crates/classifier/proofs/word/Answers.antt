-- The two loads are rows that have the flags as their columns, and the transpose turns them. Assumes nothing.
use Rattle.classifier.proofs.Gather.{gathered}
use mathlib.Core.Path.{◌∙◌}
use Rattle.classifier.proofs.word.Goals as goal

pub returns : goal.returns
returns c = record {
  flags = λ g packed i h. c.transpose.ensures i h ∙ gathered _ _ _ c.load8-even.ensures c.load8-odd.ensures g packed i h;
}
