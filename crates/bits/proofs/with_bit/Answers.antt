-- A bit is set by a word that has it alone, or the mask stays as it is. Assumes nothing.
use mathlib.Core.Path.{sym}
use mathlib.Core.Bool.{or-false}
use Rattle.bits.specs.Laws.{bit_with}
use Rattle.bits.proofs.with_bit.Goals as goal

pub returns-then-on : goal.returns-then-on
returns-then-on c = rw c.if-on.true (λ i. bit_with 16 _ _ i c.requires)

pub returns : goal.returns
returns c = rw c.if-on.false (λ i. sym (or-false _))
