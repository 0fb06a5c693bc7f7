-- What is left at pair i completes the lines, and each turn writes the line of one pair. Assumes nothing.
use Rattle.lines.specs.Lines.{pair_lines}
use Rattle.lines.specs.LineLaws.{Left}
use Rattle.lines.proofs.output.write_pairs.Given as goal

abbrev pub invariant-loop-i : goal.invariant-loop-i
invariant-loop-i l = Left l.i l.pairs l.list (pair_lines 0 l.pairs l.list) l.at l.initial.out l.end l.out
