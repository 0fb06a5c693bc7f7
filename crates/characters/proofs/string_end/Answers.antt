use Rattle.std.proofs.Common.{true, refl, arith}
use Rattle.std.proofs.lemmas.Result.{err_from_is_err_and}
use Rattle.swar.specs.KindLaws.{not_plain}
use Rattle.json_text.specs.Machine.{in_string}
use Rattle.json_text.specs.Led.{led_here}
use Rattle.characters.specs.Strings.{led_plain, string_closed, string_open, string_on, string_wrong}
use Rattle.characters.proofs.string_end.Goals as goal

pub loop-i-init : goal.loop-i-init
loop-i-init c = (λ f. led_plain (led_here _ _ (in_string f) c.requires) c.run-i.ensures.passed, c.run-i.ensures.stop)

pub returns-then-s-i-eq34 : goal.returns-then-s-i-eq34
returns-then-s-i-eq34 c = λ f. string_closed (c.loop-i.invariant.0 f) c.loop-i-test.true c.if-s-i-eq34.true

pub character_end-requires : goal.character_end-requires
character_end-requires c =
    let inside = c.loop-i-test.true in
    (inside, not_plain (c.loop-i.invariant.1 inside), c.if-s-i-eq34.false)

pub returns-in_err-end : goal.returns-in_err-end
returns-in_err-end c =
    let p = err_from_is_err_and c.from_residual.result c.from_residual.ensures.1 in
    rw (p.1, p.2) (λ f. string_wrong (c.loop-i.invariant.0 f) c.in_err-end.ensures)

pub rest_run-i-requires : goal.rest_run-i-requires
rest_run-i-requires c = (c.in_ok-end.ensures.led true).within

pub loop-i-smaller : goal.loop-i-smaller
loop-i-smaller c = omega (arith, c.in_ok-end.ensures.moved refl, c.rest_run-i.ensures.passed.forward)

pub loop-i-preserved : goal.loop-i-preserved
loop-i-preserved c = (λ f. led_plain (string_on (c.loop-i.invariant.0 f) c.in_ok-end.ensures) c.rest_run-i.ensures.passed, c.rest_run-i.ensures.stop)

pub returns : goal.returns
returns c = λ f. string_open (c.loop-i.invariant.0 f) c.loop-i-test.false
