use lib.Bits.{or_lt}
use native.Mathlib.Omega.{arith}
use Rattle.brackets.proofs.Words.{counting_starts, counting_none, counting_found, counting_on, next_lt, next_on, counting_falls}
use Rattle.brackets.proofs.find_closing.Goals as goal

pub loop-left-init : goal.loop-left-init
loop-left-init c = counting_starts (or_lt 64 _ _ c.ranges.opening.fits c.ranges.closing.fits) c.requires.0

pub without-left-requires : goal.without-left-requires
without-left-requires c =
    let v = c.loop-left.invariant in
    let some = c.loop-left-test.true in
    record {
      i_bound = next_lt v some c.lowest-i.ensures;
      w_value = next_on v some c.lowest-i.ensures;
    }

pub next_level-level-requires : goal.next_level-level-requires
next_level-level-requires c =
    let v = c.loop-left.invariant in
    (next_lt v c.loop-left-test.true c.lowest-i.ensures, v.some, omega (arith, v.few, v.small))

pub returns-then-level-eq0 : goal.returns-then-level-eq0
returns-then-level-eq0 c = counting_found c.loop-left.invariant c.loop-left-test.true c.lowest-i.ensures c.next_level-level.ensures c.if-level-eq0.true

pub loop-left-smaller : goal.loop-left-smaller
loop-left-smaller c = counting_falls c.loop-left.invariant c.loop-left-test.true c.lowest-i.ensures c.without-left.ensures

pub loop-left-preserved : goal.loop-left-preserved
loop-left-preserved c =
    counting_on c.loop-left.invariant c.loop-left-test.true c.lowest-i.ensures c.next_level-level.ensures
    c.without-left.ensures c.if-level-eq0.false

pub returns : goal.returns
returns c = counting_none c.loop-left.invariant c.loop-left-test.false
