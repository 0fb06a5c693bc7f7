-- `scalars::byte_at` meets its contract, test by test. Assumes nothing.
use Rattle.std.proofs.Common.{le-ltb}
use Rattle.scalars.specs.Among.{among_one, byte, nothing}
use Rattle.scalars.proofs.byte_at.Goals as goal

pub returns-then-at-s : goal.returns-then-at-s
returns-then-at-s c = byte c.if-at-s.true (among_one _ _)

pub returns-else-at-s : goal.returns-else-at-s
returns-else-at-s c = rw (le-ltb _ _ c.if-at-s.false) (nothing c.if-at-s.false)
