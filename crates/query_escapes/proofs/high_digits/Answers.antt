-- `query_escapes::high_digits` meets its contract: two digits and a low half, or the first of them that is dead. Assumes nothing.
use Rattle.std.proofs.Common.{refl, ◌≡◌, ◌+◌, arith}
use Rattle.query_escapes.specs.Scans.{Part}
use Rattle.query_escapes.specs.ScansLaws.{handed, read_as}
use Rattle.query_escapes.proofs.Digits.{on_high_digits}
use Rattle.query_escapes.proofs.Parts.{no_digit, passed, as_part}
use Rattle.query_escapes.proofs.high_digits.Goals as goal

pub returns-in_err-hex_at : goal.returns-in_err-hex_at
returns-in_err-hex_at c =
    rw (handed _ c.from_residual.ensures.1 c.in_err-hex_at.ensures.1) (no_digit (λ x. refl) c.requires c.in_err-hex_at.ensures.0)

pub returns-in_err-hex_at-2 : goal.returns-in_err-hex_at-2
returns-in_err-hex_at-2 c =
    rw (handed _ c.from_residual-in_err-hex_at-2.ensures.1 c.in_err-hex_at-2.ensures.1)
    (passed c.in_ok-hex_at.ensures.0 (on_high_digits 1 c.in_ok-hex_at.ensures.1) (λ h. no_digit (λ x. refl) h c.in_err-hex_at-2.ensures.0))

pub returns : goal.returns
returns c =
    let z = on_high_digits 1 c.in_ok-hex_at.ensures.1 in
    let w = on_high_digits 0 c.in_ok-hex_at-2.ensures.1 in
    let p = z.is in
    let q = w.is in
    let e : c.args.at + 2 ≡ c.args.at + 1 + 1 = omega arith in
    read_as (Part _ _ _ _) (Part _ _ _ _) _
    (λ ok n r. passed c.in_ok-hex_at.ensures.0 z
    (λ h. passed c.in_ok-hex_at-2.ensures.0 w (λ k. as_part (λ rest s (l, e). (z.tree, w.tree, l, cc)) r)))
    (rw (e) at c.low_half.ensures)
