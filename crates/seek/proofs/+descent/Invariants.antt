-- The two halves of the descent meet their contracts. The levels that may still be opened fall by one with each container that is entered.
-- The loop's invariant: an item is ahead, whatever items stand there, and nothing was kept yet. Assumes nothing.
use Rattle.std.proofs.Common.{◌≡◌, ◌+◌, ◌-◌, length}
use Rattle.seek.proofs.Turns.{Going}
use Rattle.seek.proofs.+descent.Given as goal

-- the measures: twice the levels left, and one more for items
abbrev pub decreases-seek_inside : goal.decreases-seek_inside
decreases-seek_inside g l = l.levels + l.levels + 1

abbrev pub decreases-seek_value : goal.decreases-seek_value
decreases-seek_value g l = l.levels + l.levels

abbrev pub invariant-seek_inside-loop-end : goal.invariant-seek_inside-loop-end
invariant-seek_inside-loop-end g l = Going l.record l.offset l.at l.object l.levels l.ahead l.position × (l.keeper ≡ l.initial.keeper)

abbrev pub decreases-seek_inside-loop-end : goal.decreases-seek_inside-loop-end
decreases-seek_inside-loop-end g l = length l.record - l.ahead
