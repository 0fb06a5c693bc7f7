-- `find::read_value` meets its contract: what the finder found stands inside the record, and on refusal the part is empty. Assumes nothing.
use mathlib.Core.Path.{refl}
use native.Mathlib.Omega.{arith}
use Rattle.encoding.specs.RefusalLaws.{some_ground}
use Rattle.find.proofs.Answered.{found_inside, part_read, part_empty, part_there}
use Rattle.find.proofs.read_value.Goals as goal

pub slice_bounds-result-count : goal.slice_bounds-result-count
slice_bounds-result-count c = (found_inside _ _ c.in-Ok.ensures refl).0

pub slice_bounds-result-start : goal.slice_bounds-result-start
slice_bounds-result-start c = omega (arith, found_inside _ _ c.in-Ok.ensures refl)

pub slice_bounds-result-end : goal.slice_bounds-result-end
slice_bounds-result-end c = omega (arith, found_inside _ _ c.in-Ok.ensures refl)

pub returns-in-Ok : goal.returns-in-Ok
returns-in-Ok c =
    record {
      result_value = part_read _ _ c.in-Ok.ensures;
      behind = record { block_is = refl; offset_is = rw (part_there _ _ c.in-Ok.ensures refl) (omega arith) };
    }

pub returns-in-Err : goal.returns-in-Err
returns-in-Err c =
    let (start, part) = part_empty _ _ c.in-Err.ensures (some_ground _) in
    record {
      result_value = part;
      behind = record { block_is = refl; offset_is = rw (← start) (omega arith) };
    }
