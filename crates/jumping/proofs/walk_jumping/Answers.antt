use mathlib.Core.Path.{◌∙◌}
use Rattle.pile.proofs.PileLaws.{clear_sized}
use Rattle.jumping.proofs.Root.{running_starts, running_on, walk_ends}
use Rattle.jumping.proofs.walk_jumping.Goals as goal

pub loop-a-init : goal.loop-a-init
loop-a-init c = (running_starts c.start-a.ensures, c.new-leaper.ensures)

pub turn-requires : goal.turn-requires
turn-requires c =
    let still = c.loop-a.invariant.0 in
    record {
      at_in_bounds = rw c.loop-a.invariant.1 still.inside;
      depth_le_max_depth = (still.room, still.few, still.in_container);
    }

pub shape_of-list-then-a-eq0 : goal.shape_of-list-then-a-eq0
shape_of-list-then-a-eq0 c = c.turn.auto.list ∙ c.loop-a.invariant.0.size_is

pub returns-then-a-eq0 : goal.returns-then-a-eq0
returns-then-a-eq0 c = walk_ends c.loop-a.invariant.0 (rw c.loop-a.invariant.1 at c.turn.ensures.turns) c.start-a.ensures clear_sized c.if-a-eq0.true

pub loop-a-smaller : goal.loop-a-smaller
loop-a-smaller c = (rw c.loop-a.invariant.1 at c.turn.ensures.turns).fewer

pub loop-a-preserved : goal.loop-a-preserved
loop-a-preserved c = (
  running_on c.loop-a.invariant.0 (rw c.loop-a.invariant.1 at c.turn.ensures.turns) c.turn.auto.list c.if-a-eq0.false,
  c.turn.ensures.same_record ∙ c.loop-a.invariant.1,
)
