-- `find::find` meets its contract: the check of the record decides first, and then the descent. Assumes nothing.
use Rattle.std.proofs.lemmas.Result.{err_from_is_err_and}
use Rattle.find.proofs.Answered.{answered_record, finds_refused, finds_end}
use Rattle.find.proofs.find.Goals as goal

pub returns-in_err-check_record : goal.returns-in_err-check_record
returns-in_err-check_record c =
    let p = err_from_is_err_and c.from_residual.result c.from_residual.ensures.1 in
    rw (p.1, p.2) (finds_refused _ _ _ c.in_err-check_record.ensures)

pub find_from-requires : goal.find_from-requires
find_from-requires c = (answered_record c.in_ok-check_record.ensures).1.bytes

pub returns : goal.returns
returns c =
    rw c.ok_or.ensures.value
    (finds_end _ _ (answered_record c.in_ok-check_record.ensures).1 c.find_from.result c.find_from.ensures)
