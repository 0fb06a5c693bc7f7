-- `path::write_found` meets its contract: the check of the record decides first, then the descent, and then what it left in the slots.
-- Assumes nothing.
use Rattle.std.proofs.lemmas.Result.{err_from_is_err_and}
use Rattle.path.proofs.Answering.{answered_record, writes_refused, writes_none, reaches}
use Rattle.path.proofs.write_found.Goals as goal

pub returns-in_err-check_record : goal.returns-in_err-check_record
returns-in_err-check_record c =
    let p = err_from_is_err_and c.from_residual.result c.from_residual.ensures.1 in
    rw (p.1, p.2) (writes_refused _ _ _ _ c.in_err-check_record.ensures)

pub trace_from-requires : goal.trace_from-requires
trace_from-requires c = (answered_record c.in_ok-check_record.ensures).1.bytes

pub returns-in_default : goal.returns-in_default
returns-in_default c = writes_none _ _ _ (answered_record c.in_ok-check_record.ensures).1 c.in_default.ensures

pub write_reached-requires : goal.write_reached-requires
write_reached-requires c =
    let there = (answered_record c.in_ok-check_record.ensures).1 in
    (rw c.links.ensures.kept (reaches _ _ there c.in-Some.ensures), c.links.ensures.few, there.bytes)
