-- Refused, or the tally of all nodes, as the walk gives it. Assumes nothing.
use Rattle.lister.specs.AnswersLaws.{record_short, countable, listed_all}
use Rattle.woodcrock.proofs.listing.list_by.Goals as goal

pub walk-requires-clause-record_len_bound : goal.walk-requires-clause-record_len_bound
walk-requires-clause-record_len_bound g c = record_short c.in-Ok.ensures

pub conclude-requires : goal.conclude-requires
conclude-requires g c = countable c.in-Ok.ensures c.walk.ensures

pub returns-in-Ok : goal.returns-in-Ok
returns-in-Ok g c = listed_all c.in-Ok.ensures c.walk.ensures c.conclude.ensures
