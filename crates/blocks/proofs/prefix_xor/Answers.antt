-- Six doublings of a window of one bit reach over 64. Assumes nothing.
use Rattle.blocks.proofs.Parity.{prefix_law}
use Rattle.blocks.specs.Parts.{parity}
use Rattle.bits.specs.Bits.{bit}
use Rattle.std.proofs.Common.{false, sym, ap, ◌∙◌, add-one}
use Rattle.blocks.proofs.prefix_xor.Goals as goal

pub returns : goal.returns
returns c i h = prefix_law c.args.x i h ∙ ap (parity false (λ j. bit j c.args.x)) (sym (add-one i))
