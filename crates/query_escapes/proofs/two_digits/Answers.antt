-- `query_escapes::two_digits` meets its contract: each of the two is a digit, or dead. Assumes nothing.
use Rattle.std.proofs.Common.{refl, ◌≡◌, ◌+◌, arith}
use Rattle.query_escapes.specs.ScansLaws.{handed}
use Rattle.query_escapes.proofs.Digits.{on_digits}
use Rattle.query_escapes.proofs.Parts.{no_digit, passed, ended}
use Rattle.query_escapes.proofs.two_digits.Goals as goal

pub returns-in_err-hex_at : goal.returns-in_err-hex_at
returns-in_err-hex_at c =
    rw (handed _ c.from_residual.ensures.1 c.in_err-hex_at.ensures.1) (no_digit (λ x. refl) c.requires c.in_err-hex_at.ensures.0)

pub returns-in_err-hex_at-2 : goal.returns-in_err-hex_at-2
returns-in_err-hex_at-2 c =
    rw (handed _ c.from_residual-in_err-hex_at-2.ensures.1 c.in_err-hex_at-2.ensures.1)
    (passed c.in_ok-hex_at.ensures.0 (on_digits 1 c.in_ok-hex_at.ensures.1) (λ h. no_digit (λ x. refl) h c.in_err-hex_at-2.ensures.0))

pub returns : goal.returns
returns c =
    let z = on_digits 1 c.in_ok-hex_at.ensures.1 in
    let w = on_digits 0 c.in_ok-hex_at-2.ensures.1 in
    let p = z.is in
    let q = w.is in
    let e : c.args.at + 2 ≡ c.args.at + 1 + 1 = omega arith in
    rw (e) (passed c.in_ok-hex_at.ensures.0 z (λ h. ended c.in_ok-hex_at-2.ensures.0 w (z.tree, w.tree, cc)))
