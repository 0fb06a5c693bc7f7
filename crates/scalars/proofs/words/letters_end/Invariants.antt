-- `scalars::words::letters_end` meets its contract, letter by letter. The loop's invariant: the letters passed stand there, and those that are
-- left are due. Assumes nothing.
use Rattle.std.proofs.Common.{◌+◌, true, drop}
use Rattle.json_text.specs.Led.{Led}
use Rattle.scalars.specs.Words.{letters_due}
use Rattle.scalars.proofs.words.letters_end.Given as goal

abbrev pub invariant-loop-i : goal.invariant-loop-i
invariant-loop-i l = Led l.s l.at (letters_due l.letters) (letters_due (drop l.i l.letters)) true (l.at + l.i)
