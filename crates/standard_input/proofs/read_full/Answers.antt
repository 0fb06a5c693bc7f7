-- Each read goes on where the one before it ended.
use Rattle.std.proofs.Common.{◌-◌, length, rules, subst}
use Rattle.std.specs.Io.KnownBytes.{Consumes}
use Rattle.std.proofs.KnownBytes.{Consumes-trans}
use Rattle.standard_input.proofs.Overwritten.{take-put_mid_both}
use Rattle.standard_input.proofs.read_full.Goals as goal

pub loop-size-preserved : goal.loop-size-preserved
loop-size-preserved g c =
    let size = c.loop-size.size in
    let room = length c.loop-size.buffer - size in
    let before = c.loop-size.invariant in
    let joined = take-put_mid_both size room c.in_ok-more.more c.loop-size.buffer c.read.new.buf before.1 c.in_ok-more.ensures.bound.0 in
    (search rules, search rules, subst (Consumes _ _) joined (Consumes-trans _ _ _ _ _ before.2 c.in_ok-more.ensures.bytes.0))
