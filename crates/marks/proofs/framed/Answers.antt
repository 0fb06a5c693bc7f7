-- One more where the marks differ. Assumes nothing.
use Rattle.marks.proofs.Hits.{frames_same, frames_more}
use Rattle.marks.proofs.framed.Goals as goal

pub returns-then-around-marks : goal.returns-then-around-marks
returns-then-around-marks c = frames_same _ _ _ c.if-around-marks.true

pub returns : goal.returns
returns c = frames_more _ _ _ c.if-around-marks.false
