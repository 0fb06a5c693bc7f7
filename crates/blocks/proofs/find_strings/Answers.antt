-- The quotes at places that no odd run escapes, their parity, and the last place; or none of them. Assumes nothing.
use Rattle.std.proofs.Common.{arith}
use Rattle.blocks.proofs.StringsFound.{found_by_runs, found_none}
use Rattle.blocks.proofs.find_strings.Goals as goal

pub returns-then-quotes-backslashes-eq0 : goal.returns-then-quotes-backslashes-eq0
returns-then-quotes-backslashes-eq0 c = found_none _ _ _ _ _ c.if-quotes-backslashes-eq0.true c.spread.ensures

pub returns : goal.returns
returns c =
    let escapes = c.escaped-e.ensures in
    let parities = c.prefix_xor.ensures in
    let fills = c.spread-2.ensures in
    found_by_runs _ _ _ _ _ _ _ (omega arith) escapes parities fills _ c.has.ensures
