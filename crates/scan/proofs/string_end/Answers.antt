use mathlib.Core.Path.{sym}
use Rattle.scan.proofs.Laws.{string_out, string_closed, string_on}
use Rattle.scan.proofs.string_end.Goals as goal

pub returns-then-q-s : goal.returns-then-q-s
returns-then-q-s c = string_out c.loop-at.invariant c.run-q.ensures c.if-q-s.true

pub returns-then-not-escaped : goal.returns-then-not-escaped
returns-then-not-escaped c =
    string_closed c.loop-at.invariant c.run-q.ensures c.if-q-s.false (sym c.if-not-escaped.ensures)

pub loop-at-preserved : goal.loop-at-preserved
loop-at-preserved c =
    string_on c.loop-at.invariant c.run-q.ensures c.if-q-s.false (sym c.if-not-escaped.ensures)
