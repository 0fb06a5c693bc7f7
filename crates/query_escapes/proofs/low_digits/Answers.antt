-- `query_escapes::low_digits` meets its contract: a D, a digit from C to F and two more, or the first of them that is dead. Assumes nothing.
use Rattle.std.proofs.Common.{refl, arith}
use Rattle.query_escapes.specs.Scans.{Part}
use Rattle.query_escapes.specs.ScansLaws.{handed, read_as}
use Rattle.query_escapes.proofs.Digits.{stop_low_d, stop_low_digit, on_low_d, on_low}
use Rattle.query_escapes.proofs.Parts.{no_digit, refused, passed, as_part}
use Rattle.query_escapes.proofs.low_digits.Goals as goal

pub returns-in_err-hex_at : goal.returns-in_err-hex_at
returns-in_err-hex_at c =
    rw (handed _ c.from_residual.ensures.1 c.in_err-hex_at.ensures.1) (no_digit (λ x. refl) c.requires c.in_err-hex_at.ensures.0)

pub returns-then-branch-ne13 : goal.returns-then-branch-ne13
returns-then-branch-ne13 c = refused c.requires (stop_low_d c.in_ok-hex_at.ensures.1 c.if-branch-ne13.true)

pub returns-in_err-hex_at-2 : goal.returns-in_err-hex_at-2
returns-in_err-hex_at-2 c =
    rw (handed _ c.from_residual-in_err-hex_at-2.ensures.1 c.in_err-hex_at-2.ensures.1)
    (passed c.in_ok-hex_at.ensures.0 (on_low_d c.in_ok-hex_at.ensures.1 c.if-branch-ne13.false)
    (λ h. no_digit (λ x. refl) h c.in_err-hex_at-2.ensures.0))

pub returns-in-12-to-15 : goal.returns-in-12-to-15
returns-in-12-to-15 c =
    let x = on_low_d c.in_ok-hex_at.ensures.1 c.if-branch-ne13.false in
    let y = on_low c.in_ok-hex_at-2.ensures.1 (omega arith) in
    let p = x.is in
    let q = y.is in
    read_as (Part _ _ _ _) (Part _ _ _ _) _
    (λ ok n r. passed c.in_ok-hex_at.ensures.0 x
    (λ h. passed c.in_ok-hex_at-2.ensures.0 y (λ k. as_part (λ rest s (z, w, e). ((x.tree, y.tree, z, w), cc)) r)))
    c.two_digits.ensures

pub returns-in_default : goal.returns-in_default
returns-in_default c =
    passed c.in_ok-hex_at.ensures.0 (on_low_d c.in_ok-hex_at.ensures.1 c.if-branch-ne13.false)
    (λ h. refused h (stop_low_digit c.in_ok-hex_at-2.ensures.1 (λ l m. omega arith)))

pub returns-in_default-2 : goal.returns-in_default-2
returns-in_default-2 c =
    passed c.in_ok-hex_at.ensures.0 (on_low_d c.in_ok-hex_at.ensures.1 c.if-branch-ne13.false)
    (λ h. refused h (stop_low_digit c.in_ok-hex_at-2.ensures.1 (λ l m. omega arith)))
