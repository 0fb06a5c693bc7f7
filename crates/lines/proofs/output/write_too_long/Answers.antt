-- The word is the line with its line feed. Assumes nothing.
use borrow.Author.Rules.{rules}
use Rattle.lines.specs.Lines.{line}
use Rattle.text.specs.PutLaws.{printed}
use Rattle.lines.proofs.output.write_too_long.Goals as goal

pub returns : goal.returns
unfolding line
returns c = printed c.write_word.ensures (search rules)
