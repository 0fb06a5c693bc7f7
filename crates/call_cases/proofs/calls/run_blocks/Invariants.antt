-- `call_cases::calls::run_blocks` ends: each block leaves less of the record, which is the measure. Assumes nothing.
use Rattle.std.proofs.Common.{length}
use Rattle.call_cases.proofs.calls.run_blocks.Given as goal

abbrev pub decreases-loop-rest : goal.decreases-loop-rest
decreases-loop-rest g l = length l.rest
