-- `bound::bound_pile` meets its contract: refused as the query is, or what its steps say of the frames; the record beside it is taken.
-- Assumes nothing.
use Rattle.bound.proofs.Laws.{query_refused, query_taken}
use Rattle.bound.proofs.bound_pile.Goals as goal

pub returns-in-Err : goal.returns-in-Err
returns-in-Err c = query_refused _ _ c.in-Err.ensures c.number.ensures

pub returns-in-Ok : goal.returns-in-Ok
returns-in-Ok c = query_taken _ _ c.in-Ok.ensures _ c.frames_of-frames.ensures c.is_some.ensures c.unwrap_or.ensures
