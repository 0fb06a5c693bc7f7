-- Past the bytes that are neither quotes nor backslashes a quote ends the name; from any other place on the string's end is sought.
-- Assumes nothing.
use Rattle.scan.proofs.Names.{name_closed, name_on}
use Rattle.scan.proofs.name_end.Goals as goal

pub returns-then-s-q-eq-QUOTE : goal.returns-then-s-q-eq-QUOTE
returns-then-s-q-eq-QUOTE c = name_closed c.run-q.ensures c.if-q-s.true c.if-s-q-eq-QUOTE.true

pub returns : goal.returns
returns c = name_on c.run-q.ensures c.string_end.ensures
