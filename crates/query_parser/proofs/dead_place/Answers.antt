-- `query_parser::dead_place` meets its contract: the first byte is dead, or what stands behind it has the dead byte, or nothing has.
-- Assumes nothing.
use Rattle.std.proofs.Common.{rules}
use Rattle.query_parser.proofs.DeadBytes.{empty_place, other_place, whole_place, dead_place_is}
use Rattle.query_parser.proofs.dead_place.Goals as goal

pub returns-in_default : goal.returns-in_default
returns-in_default c = other_place _ (search rules) (search rules)

pub returns-in_default-2 : goal.returns-in_default-2
returns-in_default-2 c = empty_place _ (search rules)

pub returns-in-Ok : goal.returns-in-Ok
returns-in-Ok c = whole_place _ (search rules) (search rules) c.in-Ok.ensures

pub returns-in-Err : goal.returns-in-Err
returns-in-Err c = dead_place_is _ (search rules) (search rules) c.in-Err.ensures
