use mathlib.Core.Path.{refl}
use mathlib.Core.Bool.{true, false}
use native.Mathlib.Omega.{arith}
use Rattle.std.proofs.lemmas.Result.{err_from_is_err_and}
use Rattle.encoding.specs.RowTable.{narrow_below}
use Rattle.encoding.proofs.Utf8At.{reads_at, scanned_moved}
use Rattle.encoding.specs.WideRun.{over, narrow, broken, more}
use Rattle.encoding.proofs.WideRunLaws.{wide_at}
use Rattle.encoding.proofs.Scans.{at_wrong}
use Rattle.encoding.proofs.code_points.Goals as goal

pub loop-i-init : goal.loop-i-init
loop-i-init c = λ ok r q. q

pub returns-then-narrow : goal.returns-then-narrow
returns-then-narrow c = c.loop-i.invariant true _ (narrow (narrow_below c.narrow.ensures c.if-narrow.true))

pub returns-in_default : goal.returns-in_default
returns-in_default c =
    let inside = c.loop-i-test.true in
    c.loop-i.invariant false _
    (broken (wide_at inside c.narrow.ensures c.if-narrow.false) (at_wrong inside c.in_default.ensures))

pub returns-in_err-i : goal.returns-in_err-i
returns-in_err-i c =
    let p = err_from_is_err_and c.from_residual.result c.from_residual.ensures.1 in
    rw (p.1, p.2)
    (c.loop-i.invariant _ _ (broken (wide_at c.loop-i-test.true c.narrow.ensures c.if-narrow.false) c.in_err-i.ensures))

pub loop-i-smaller : goal.loop-i-smaller
loop-i-smaller c = omega (arith, scanned_moved (reads_at c.in_ok-i.ensures) refl)

pub loop-i-preserved : goal.loop-i-preserved
loop-i-preserved c =
    λ ok r q.
    c.loop-i.invariant ok r
    (more (wide_at c.loop-i-test.true c.narrow.ensures c.if-narrow.false) c.in_ok-i.ensures q)

pub returns : goal.returns
returns c = c.loop-i.invariant true _ (over c.loop-i-test.false)
