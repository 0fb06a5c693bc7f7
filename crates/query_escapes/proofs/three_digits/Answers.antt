-- `query_escapes::three_digits` meets its contract: a digit, and two more. Assumes nothing.
use Rattle.std.proofs.Common.{refl}
use Rattle.query_escapes.specs.Scans.{Part}
use Rattle.query_escapes.specs.ScansLaws.{handed, read_as}
use Rattle.query_escapes.proofs.Digits.{on_digits}
use Rattle.query_escapes.proofs.Parts.{no_digit, passed, as_part}
use Rattle.query_escapes.proofs.three_digits.Goals as goal

pub returns-in_err-hex_at : goal.returns-in_err-hex_at
returns-in_err-hex_at c =
    rw (handed _ c.from_residual.ensures.1 c.in_err-hex_at.ensures.1) (no_digit (λ x. refl) c.requires c.in_err-hex_at.ensures.0)

pub returns : goal.returns
returns c =
    let y = on_digits 2 c.in_ok-hex_at.ensures.1 in
    let p = y.is in
    read_as (Part _ _ _ _) (Part _ _ _ _) _
    (λ ok n r. passed c.in_ok-hex_at.ensures.0 y (λ h. as_part (λ rest s (z, w, e). (y.tree, z, w, cc)) r)) c.two_digits.ensures
