-- Refused by the query, or by the record, or neither. Assumes nothing.
use Rattle.std.proofs.lemmas.Result.{err_from_is_err_and}
use Rattle.lister.proofs.Laws.{query_refused, record_refused, both_taken}
use Rattle.lister.proofs.admit.Goals as goal

pub returns-in_err-steps : goal.returns-in_err-steps
returns-in_err-steps c =
    let e = err_from_is_err_and c.from_residual.result c.from_residual.ensures.1 in
    rw (e.1, e.2) (query_refused _ _ _ c.in_err-steps.ensures)

pub returns-in_err-check_record : goal.returns-in_err-check_record
returns-in_err-check_record c =
    let e = err_from_is_err_and c.from_residual-in_err-check_record.result c.from_residual-in_err-check_record.ensures.1 in
    rw (e.1, e.2) (record_refused _ _ _ c.in_ok-steps.ensures c.in_err-check_record.ensures)

pub returns : goal.returns
returns c = both_taken _ _ _ c.in_ok-steps.ensures c.in_ok-check_record.ensures
