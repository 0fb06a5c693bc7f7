-- `query_escapes::hex_at` meets its contract: what is said of a byte is said of the one at the place, and from the query's end on there is
-- none. Assumes nothing.
use Rattle.std.proofs.Common.{refl, arith}
use Rattle.std.proofs.Math.ListN.{get_or-eq_default}
use Rattle.query_escapes.specs.Scans.{none}
use Rattle.query_escapes.specs.ScansLaws.{handed}
use Rattle.query_escapes.proofs.hex_at.Goals as goal

pub returns-in_err-byte_at : goal.returns-in_err-byte_at
returns-in_err-byte_at c =
    let e = get_or-eq_default c.args.query.now 0 c.in_err-byte_at.ensures.0 in
    rw (handed _ c.from_residual.ensures.1 c.in_err-byte_at.ensures.1) (none (λ l h. omega arith) (λ l h. omega arith) (λ l h. omega arith), refl)
