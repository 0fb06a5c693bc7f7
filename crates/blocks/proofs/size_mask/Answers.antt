-- 2 ^ n - 1 has a bit for each place below n. Assumes nothing.
use Rattle.blocks.proofs.Sort.{mask_short}
use Rattle.std.proofs.Common.{ℕ, ◌-◌, ap, arith, pow_pos}
use Rattle.blocks.proofs.size_mask.Goals as goal

pub overflow_sub-result : goal.overflow_sub-result
overflow_sub-result c = omega (arith, pow_pos c.args.n, mask_short c.args.n c.requires)

pub returns : goal.returns
returns c = ap (λ (x : ℕ). x - 1) (mask_short c.args.n c.requires)
