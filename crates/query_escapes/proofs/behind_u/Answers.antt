-- `query_escapes::behind_u` meets its contract: a D and what may follow it, another digit and three more, or a dead byte. Assumes nothing.
use Rattle.std.proofs.Common.{refl, arith}
use Rattle.query.specs.Escapes.{usual, put_hex_char}
use Rattle.query_escapes.specs.Scans.{Part}
use Rattle.query_escapes.specs.ScansLaws.{handed, read_as}
use Rattle.query_escapes.proofs.Digits.{on_first_d, on_not_d}
use Rattle.query_escapes.proofs.Parts.{no_digit, passed, as_part}
use Rattle.query_escapes.proofs.behind_u.Goals as goal

pub returns-in_err-hex_at : goal.returns-in_err-hex_at
returns-in_err-hex_at c =
    rw (handed _ c.from_residual.ensures.1 c.in_err-hex_at.ensures.1) (no_digit (λ x. refl) c.requires c.in_err-hex_at.ensures.0)

pub returns-in-13 : goal.returns-in-13
returns-in-13 c =
    let x = on_first_d c.in_ok-hex_at.ensures.1 c.in-13.is in
    let p = x.is in
    read_as (Part _ _ _ _) (Part _ _ _ _) _
    (λ ok n r. passed c.in_ok-hex_at.ensures.0 x (λ h. as_part (λ rest s f. let (y, e) = f x.tree in (y, cc)) r)) c.behind_d.ensures

pub returns-in_default : goal.returns-in_default
unfolding put_hex_char
returns-in_default c =
    let x = on_not_d c.in_ok-hex_at.ensures.1 (λ e. omega arith) in
    let p = x.is in
    read_as (Part _ _ _ _) (Part _ _ _ _) _
    (λ ok n r. passed c.in_ok-hex_at.ensures.0 x (λ h. as_part (λ rest s (y, z, w, e). (usual x.tree y z w, cc)) r)) c.three_digits.ensures
