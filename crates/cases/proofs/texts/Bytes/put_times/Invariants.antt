-- `cases::texts::Bytes::put_times` meets its contract. The loop's invariant: there are at least as many bytes as before it. Assumes nothing.
use Rattle.std.proofs.Common.{◌≤◌}
use Rattle.cases.proofs.texts.Bytes.put_times.Given as goal

abbrev pub invariant-loop : goal.invariant-loop
invariant-loop g l = l.initial.self.size ≤ l.self.size
