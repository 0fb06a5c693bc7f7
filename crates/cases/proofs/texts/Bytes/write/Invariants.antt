-- `cases::texts::Bytes::write` ends: each piece leaves less of the text, which is the measure. Assumes nothing.
use Rattle.std.proofs.Common.{length}
use Rattle.cases.proofs.texts.Bytes.write.Given as goal

abbrev pub decreases-loop-rest : goal.decreases-loop-rest
decreases-loop-rest g l = length l.rest
