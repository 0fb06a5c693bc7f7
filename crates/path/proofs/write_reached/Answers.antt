-- `path::write_reached` meets its contract: what the links are measured as decides, and then they are written. Assumes nothing.
use Rattle.std.proofs.lemmas.Result.{err_from_is_err_and}
use Rattle.path.proofs.Answering.{reached_within, writes_half, writes_too_long, path_fits, writes_all}
use Rattle.path.proofs.write_reached.Goals as goal

pub measure-requires : goal.measure-requires
measure-requires c = (reached_within _ _ c.requires.0, c.requires.1, c.requires.2)

pub returns-in_err-size : goal.returns-in_err-size
returns-in_err-size c =
    let p = err_from_is_err_and c.from_residual.result c.from_residual.ensures.1 in
    rw (p.1, p.2) (writes_half _ _ _ c.requires.0 c.in_err-size.ensures)

pub returns-then-size-buffer : goal.returns-then-size-buffer
returns-then-size-buffer c = writes_too_long _ _ _ c.requires.0 c.in_ok-size.ensures c.if-size-buffer.true

pub write_labels-requires : goal.write_labels-requires
write_labels-requires c = (
  reached_within _ _ c.requires.0,
  path_fits _ _ _ c.requires.0 c.in_ok-size.ensures c.if-size-buffer.false,
)

pub returns : goal.returns
returns c = writes_all _ _ _ c.requires.0 c.in_ok-size.ensures c.if-size-buffer.false c.write_labels.ensures
