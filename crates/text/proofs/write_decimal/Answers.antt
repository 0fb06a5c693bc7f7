use native.Mathlib.Omega.{arith}
use Rattle.text.specs.DigitLaws.{digits_start, digits_next}
use Rattle.text.proofs.write_decimal.Goals as goal

pub loop-i-init : goal.loop-i-init
loop-i-init c = digits_start (omega (arith, c.digit_count.ensures))

pub loop-i-preserved : goal.loop-i-preserved
loop-i-preserved c = digits_next c.loop-i.invariant c.loop-i-test.true (omega arith)
