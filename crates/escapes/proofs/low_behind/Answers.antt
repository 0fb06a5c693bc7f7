-- No high half, too few bytes for another escape, or what the bytes after six begin with. Assumes nothing.
use mathlib.Core.Path.{◌∙◌}
use native.Mathlib.Omega.{arith}
use Rattle.std.proofs.lemmas.Slice.{between_to_end}
use Rattle.escapes.proofs.Escapes.{pair_none, pair_short, pair_low}
use Rattle.escapes.proofs.low_behind.Goals as goal

pub returns-then-unit-ne-HIGH : goal.returns-then-unit-ne-HIGH
returns-then-unit-ne-HIGH c = pair_none _ (λ e. c.if-unit-ne-HIGH.true (rw c.requires e))

pub returns-in_err-get : goal.returns-in_err-get
returns-in_err-get c = rw c.from_residual.ensures (pair_short _ (omega (arith, c.in_err-get.ensures.lookup.0)))

pub returns : goal.returns
returns c =
    let s = c.args.written.now in
    let rest = c.in_ok-get.ensures.lookup.0.2 ∙ between_to_end s 6 _ (omega arith) in
    pair_low s (rw c.requires at c.if-unit-ne-HIGH.false) _ (rw rest at c.low_half.ensures)
