use Rattle.swar.specs.Passing.{at_start}
use Rattle.scalars.specs.Numbers.{digit_more, digits_stop}
use Rattle.scalars.proofs.numbers.digits_end.Goals as goal

pub loop-from-init : goal.loop-from-init
loop-from-init c = at_start c.requires

pub returns-then-not-digit_at : goal.returns-then-not-digit_at
returns-then-not-digit_at c = digits_stop c.digit_at.ensures c.loop-from.invariant c.if-not-digit_at.true

pub returns-then-not-digit_at-2 : goal.returns-then-not-digit_at-2
returns-then-not-digit_at-2 c =
    let one = digit_more c.digit_at.ensures c.loop-from.invariant c.if-not-digit_at.false in
    digits_stop c.digit_at-in-loop-from.ensures one c.if-not-digit_at-2.true

pub returns-then-not-digit_at-3 : goal.returns-then-not-digit_at-3
returns-then-not-digit_at-3 c =
    let one = digit_more c.digit_at.ensures c.loop-from.invariant c.if-not-digit_at.false in
    let two = digit_more c.digit_at-in-loop-from.ensures one c.if-not-digit_at-2.false in
    digits_stop c.digit_at-in-loop-from-2.ensures two c.if-not-digit_at-3.true

pub returns-then-not-digit_at-4 : goal.returns-then-not-digit_at-4
returns-then-not-digit_at-4 c =
    let one = digit_more c.digit_at.ensures c.loop-from.invariant c.if-not-digit_at.false in
    let two = digit_more c.digit_at-in-loop-from.ensures one c.if-not-digit_at-2.false in
    let three = digit_more c.digit_at-in-loop-from-2.ensures two c.if-not-digit_at-3.false in
    digits_stop c.digit_at-in-loop-from-3.ensures three c.if-not-digit_at-4.true

pub loop-from-preserved : goal.loop-from-preserved
loop-from-preserved c =
    let one = digit_more c.digit_at.ensures c.loop-from.invariant c.if-not-digit_at.false in
    let two = digit_more c.digit_at-in-loop-from.ensures one c.if-not-digit_at-2.false in
    let three = digit_more c.digit_at-in-loop-from-2.ensures two c.if-not-digit_at-3.false in
    digit_more c.digit_at-in-loop-from-3.ensures three c.if-not-digit_at-4.false
