-- `trace::trace_from` meets its contract: the keeper of the descent starts with no link, and takes those that it is told. Assumes nothing.
use Rattle.trace.proofs.Held.{traces_from}
use Rattle.trace.proofs.trace_from.Goals as goal

pub returns : goal.returns
returns c =
    traces_from _ _ c.clear.new.self _ c.seek_from.result c.clear.ensures c.seek_from.ensures.finds c.seek_from.ensures.keeps
