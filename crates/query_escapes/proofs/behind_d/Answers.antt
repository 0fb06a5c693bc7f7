-- `query_escapes::behind_d` meets its contract: by the digit there, no half, a pair, or a dead byte. Assumes nothing.
use Rattle.std.proofs.Common.{refl, arith}
use Rattle.query.specs.Escapes.{below, pair, put_hex_char}
use Rattle.query_escapes.specs.Scans.{Part}
use Rattle.query_escapes.specs.ScansLaws.{handed, read_as}
use Rattle.query_escapes.proofs.Digits.{stop_behind_d, on_below, on_high}
use Rattle.query_escapes.proofs.Parts.{no_digit, refused, passed, as_part}
use Rattle.query_escapes.proofs.behind_d.Goals as goal

pub returns-in_err-hex_at : goal.returns-in_err-hex_at
returns-in_err-hex_at c =
    rw (handed _ c.from_residual.ensures.1 c.in_err-hex_at.ensures.1) (no_digit (λ x. refl) c.requires c.in_err-hex_at.ensures.0)

pub returns-in-0-to-7 : goal.returns-in-0-to-7
unfolding put_hex_char
returns-in-0-to-7 c =
    let y = on_below c.in_ok-hex_at.ensures.1 (omega arith) in
    let p = y.is in
    read_as (Part _ _ _ _) (Part _ _ _ _) _
    (λ ok n r. passed c.in_ok-hex_at.ensures.0 y (λ h. as_part (λ rest s (z, w, e) x. (below x y.tree z w, cc)) r)) c.two_digits.ensures

pub returns-in-8-to-11 : goal.returns-in-8-to-11
unfolding put_hex_char
returns-in-8-to-11 c =
    let y = on_high c.in_ok-hex_at.ensures.1 (omega arith) (omega arith) in
    let p = y.is in
    read_as (Part _ _ _ _) (Part _ _ _ _) _
    (λ ok n r. passed c.in_ok-hex_at.ensures.0 y (λ h. as_part (λ rest s (z, w, l, e) x. (pair (x, y.tree, z, w) l, cc)) r)) c.high_digits.ensures

pub returns-in_default : goal.returns-in_default
returns-in_default c = refused c.requires (stop_behind_d c.in_ok-hex_at.ensures.1 (omega arith))
