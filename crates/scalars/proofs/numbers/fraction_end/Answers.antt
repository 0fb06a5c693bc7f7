-- `scalars::numbers::fraction_end` meets its contract: without a point, and at a point, after which a digit has to stand. Assumes nothing.
use Rattle.scalars.specs.Numbers.{point_within, fraction_none, fraction_empty, fraction_some}
use Rattle.scalars.proofs.numbers.fraction_end.Goals as goal

pub returns-then-not-byte_at : goal.returns-then-not-byte_at
returns-then-not-byte_at c = fraction_none c.requires c.if-not-byte_at.ensures

pub many_digits_end-end-requires : goal.many_digits_end-end-requires
many_digits_end-end-requires c = point_within c.if-not-byte_at.ensures

pub returns-then-end-behind : goal.returns-then-end-behind
returns-then-end-behind c = fraction_empty c.if-not-byte_at.ensures c.many_digits_end-end.ensures c.if-end-behind.true

pub returns : goal.returns
returns c = fraction_some c.if-not-byte_at.ensures c.many_digits_end-end.ensures c.if-end-behind.false
