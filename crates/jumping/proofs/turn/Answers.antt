-- Either way the callee keeps what is ahead; a turn at an item leaves no item or goes on, and one after a value goes on. Assumes nothing.
use mathlib.Core.Path.{refl}
use Rattle.jumping.proofs.Root.{onward_from, fewer_item, fewer_past}
use Rattle.jumping.proofs.turn.Goals as goal

pub past-requires : goal.past-requires
past-requires c = record {
  record_len_bound = (c.args.leaper.now.record_len_bound, c.requires.at_in_bounds);
  depth_le_max_depth = (c.requires.depth_le_max_depth.0, c.requires.depth_le_max_depth.1, c.requires.depth_le_max_depth.2 c.if-not-a.true);
}

pub returns-then-not-a : goal.returns-then-not-a
returns-then-not-a c =
    let went = c.past.ensures in
    let passed = c.if-not-a.true in
    record {
      turns = record {
        fewer = fewer_past c.args.a.now c.requires.at_in_bounds went.onward passed went.farther;
        inside = went.onward.inside;
        in_container = went.onward.in_container;
        room = went.onward.room;
        few = went.onward.few;
        keeps = λ x h whole y. went.keeps x whole (y.passed passed);
      };
      same_record = refl;
    }

pub coming-v-requires : goal.coming-v-requires
coming-v-requires c = record {
  at_in_bounds = c.requires.at_in_bounds;
  item_value = (c.if-not-a.false, c.requires.depth_le_max_depth.0);
}

pub value-requires : goal.value-requires
value-requires c = record {
  at_in_bounds = c.coming-v.ensures.within;
  depth_le_max_depth = (c.requires.depth_le_max_depth.0, c.requires.depth_le_max_depth.1);
}

pub returns : goal.returns
returns c =
    let went = c.value.ensures.passes_value in
    record {
      turns = record {
        fewer =
            fewer_item c.args.a.now c.requires.at_in_bounds (onward_from c.coming-v.ensures.onward went.onward)
            (c.if-not-a.false);
        inside = went.onward.inside;
        in_container = went.onward.in_container;
        room = went.onward.room;
        few = went.onward.few;
        keeps = λ x h whole y. went.keeps x whole (c.coming-v.ensures.due x h whole _ y);
      };
      same_record = c.value.ensures.same_record;
    }
