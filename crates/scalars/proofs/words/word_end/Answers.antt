-- `scalars::words::word_end` meets its contract, by the first letter. Assumes nothing.
use Rattle.std.proofs.Common.{rules}
use Rattle.encoding.proofs.ReadsLaws.{reads_so}
use Rattle.scalars.specs.Scalars.{true_name, null_name, false_name, word_begins, word_wrong}
use Rattle.scalars.proofs.words.word_end.Goals as goal

pub returns-in-116 : goal.returns-in-116
returns-in-116 c = reads_so (word_begins c.requires.0 true_name c.in-116.is) _ c.letters_end.ensures

pub returns-in-110 : goal.returns-in-110
returns-in-110 c = reads_so (word_begins c.requires.0 null_name c.in-110.is) _ c.letters_end-in-110.ensures

pub returns-in-102 : goal.returns-in-102
returns-in-102 c = reads_so (word_begins c.requires.0 false_name c.in-102.is) _ c.letters_end-in-102.ensures

pub returns-in_default : goal.returns-in_default
returns-in_default c = word_wrong c.requires.0 c.requires.1 c.requires.2 (search rules) (search rules) (search rules)
