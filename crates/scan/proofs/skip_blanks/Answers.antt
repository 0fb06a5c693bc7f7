-- A run of bytes up to the space, before a byte above it, is all the blanks that stand there. Assumes nothing.
use Rattle.scan.proofs.Laws.{run_blanks}
use Rattle.scan.proofs.skip_blanks.Goals as goal

pub returns : goal.returns
returns c = run_blanks c.gap_run.ensures
