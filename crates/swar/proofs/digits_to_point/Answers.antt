-- `swar::digits_to_point` meets its contract: it stays where it is, or passes those of eight bytes that stand before the first that is no digit.
-- Assumes nothing.
use native.Mathlib.Omega.{arith}
use Rattle.lanes.specs.Stops.{first_within}
use Rattle.swar.specs.Passing.{at_start, passed_first}
use Rattle.swar.proofs.digits_to_point.Goals as goal

pub returns-then-s-at-lt8 : goal.returns-then-s-at-lt8
returns-then-s-at-lt8 c = at_start c.requires

pub returns-then-not-has_point : goal.returns-then-not-has_point
returns-then-not-has_point c = at_start c.requires

pub overflow_add-result : goal.overflow_add-result
overflow_add-result c = omega (arith, first_within c.zero_bytes.ensures)

pub returns : goal.returns
returns c = passed_first c.type_inv.s c.load8-x.ensures c.stops.ensures (at_start c.requires) (omega arith) c.zero_bytes.ensures
