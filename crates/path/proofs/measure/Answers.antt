use native.Mathlib.Omega.{arith}
use Rattle.std.proofs.lemmas.Result.{err_from_is_err_and}
use Rattle.path.specs.SlotsLaws.{within_at}
use Rattle.path.proofs.Turns.{measured_none, measured_half, measured_more, measured_all}
use Rattle.path.proofs.measure.Goals as goal

pub loop-i-init : goal.loop-i-init
loop-i-init c = measured_none _ _

pub label_size-requires : goal.label_size-requires
label_size-requires c = (within_at _ _ _ (omega arith) c.requires.0, c.requires.2)

pub returns-in_err-size : goal.returns-in_err-size
returns-in_err-size c =
    let p = err_from_is_err_and c.from_residual.result c.from_residual.ensures.1 in
    rw (p.1, p.2) (measured_half _ _ c.loop-i-test.true c.loop-i.invariant.inside c.in_err-size.ensures c.loop-i.invariant)

pub overflow_add-size : goal.overflow_add-size
overflow_add-size c = record { fits = omega (arith, c.loop-i.invariant.small, c.in_ok-size.ensures.small, c.requires.1) }

pub loop-i-preserved : goal.loop-i-preserved
loop-i-preserved c = measured_more _ _ c.loop-i-test.true c.loop-i.invariant.inside c.in_ok-size.ensures c.loop-i.invariant

pub returns : goal.returns
returns c = measured_all _ _ c.loop-i-test.false c.loop-i.invariant
