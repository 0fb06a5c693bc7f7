use Rattle.std.proofs.Common.{◌≡◌, ◌+◌, length, arith}
use Rattle.json_text.specs.Machine.{after}
use Rattle.json_text.specs.Led.{led_here}
use Rattle.std.proofs.lemmas.List.{drop_more, drop_all}
use Rattle.scalars.specs.Words.{letter_led, letter_dead}
use Rattle.scalars.proofs.words.letters_end.Goals as goal

pub loop-i-init : goal.loop-i-init
loop-i-init c = let start : c.args.at + 0 ≡ c.args.at = omega arith in rw start (led_here _ _ _ c.requires)

pub returns-then-not-byte_at : goal.returns-then-not-byte_at
returns-then-not-byte_at c =
    let due = rw (drop_more c.args.letters.now c.loop-i.i 0 c.loop-i-test.true) at c.loop-i.invariant in
    letter_dead due c.if-not-byte_at.ensures after

pub loop-i-preserved : goal.loop-i-preserved
loop-i-preserved c =
    let due = rw (drop_more c.args.letters.now c.loop-i.i 0 c.loop-i-test.true) at c.loop-i.invariant in
    let next : c.args.at + (c.loop-i.i + 1) ≡ c.args.at + c.loop-i.i + 1 = omega arith in
    rw next (letter_led due c.if-not-byte_at.ensures)

pub returns : goal.returns
returns c =
    let all : c.loop-i.i ≡ length c.args.letters.now = omega arith in
    let led = rw (drop_all c.loop-i.i c.args.letters.now c.loop-i-test.false) at c.loop-i.invariant in
    rw (← all) led
