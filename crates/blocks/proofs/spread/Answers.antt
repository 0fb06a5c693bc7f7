-- All bits are on in the one word, and none in the other. Assumes nothing.
use Rattle.bits.specs.Laws.{bit_ones, bit-zero}
use Rattle.std.proofs.Common.{sym, ◌∙◌}
use Rattle.blocks.proofs.spread.Goals as goal

pub returns-then-b : goal.returns-then-b
returns-then-b c i h = bit_ones 64 i h ∙ sym c.if-b.true

pub returns-else-b : goal.returns-else-b
returns-else-b c i h = bit-zero i ∙ sym c.if-b.false
