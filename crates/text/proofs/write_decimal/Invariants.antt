-- The digits of what is left, put before those that are written, are all digits put. Assumes nothing.
use Rattle.text.specs.DigitLaws.{Digits}
use Rattle.text.proofs.write_decimal.Given as goal

abbrev pub invariant-loop-i : goal.invariant-loop-i
invariant-loop-i l = Digits l.number l.at l.initial.out l.rest l.i l.out
