-- `query_escapes::low_half` meets its contract: a backslash, a `u` and the digits, or the first of them that is dead. Assumes nothing.
use Rattle.std.proofs.Common.{sym, ◌∙◌}
use Rattle.query_escapes.specs.Scans.{Part}
use Rattle.query_escapes.specs.ScansLaws.{handed, read_as}
use Rattle.query_escapes.proofs.Letters.{stop_backslash, stop_u, on_backslash, on_u}
use Rattle.query_escapes.proofs.Parts.{cut, refused, passed, as_part}
use Rattle.query_escapes.proofs.low_half.Goals as goal

pub returns-in_err-byte_at : goal.returns-in_err-byte_at
returns-in_err-byte_at c = rw (handed _ c.from_residual.ensures.1 c.in_err-byte_at.ensures.1) (cut c.requires c.in_err-byte_at.ensures.0)

pub returns-then-branch-ne-BACKSLASH : goal.returns-then-branch-ne-BACKSLASH
returns-then-branch-ne-BACKSLASH c = refused c.requires (stop_backslash (λ e. c.if-branch-ne-BACKSLASH.true (c.in_ok-byte_at.ensures.1 ∙ e)))

pub returns-in_err-byte_at-2 : goal.returns-in_err-byte_at-2
returns-in_err-byte_at-2 c =
    rw (handed _ c.from_residual-in_err-byte_at-2.ensures.1 c.in_err-byte_at-2.ensures.1)
    (passed c.in_ok-byte_at.ensures.0 (on_backslash (sym c.in_ok-byte_at.ensures.1 ∙ c.if-branch-ne-BACKSLASH.false))
    (λ h. cut h c.in_err-byte_at-2.ensures.0))

pub returns-then-branch-ne117 : goal.returns-then-branch-ne117
returns-then-branch-ne117 c =
    passed c.in_ok-byte_at.ensures.0 (on_backslash (sym c.in_ok-byte_at.ensures.1 ∙ c.if-branch-ne-BACKSLASH.false))
    (λ h. refused h (stop_u (λ e. c.if-branch-ne117.true (c.in_ok-byte_at-2.ensures.1 ∙ e))))

pub returns : goal.returns
returns c =
    let p = on_backslash (sym c.in_ok-byte_at.ensures.1 ∙ c.if-branch-ne-BACKSLASH.false) in
    let q = on_u (sym c.in_ok-byte_at-2.ensures.1 ∙ c.if-branch-ne117.false) in
    let m = p.is in
    let n = q.is in
    read_as (Part _ _ _ _) (Part _ _ _ _) _
    (λ ok n r. passed c.in_ok-byte_at.ensures.0 p (λ h. passed c.in_ok-byte_at-2.ensures.0 q (λ k. as_part (λ rest s (l, e). (l, cc)) r)))
    c.low_digits.ensures
