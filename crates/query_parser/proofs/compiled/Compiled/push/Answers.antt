-- `query_parser::compiled::Compiled::push` meets its contract: one step more changes one bit of each mask and one operand, and what was held
-- stays. Assumes nothing.
use Rattle.std.proofs.Common.{refl}
use Rattle.query_parser.specs.Compiles.{takes_every, takes_name, takes_position}
use Rattle.query_parser.proofs.Masks.{added, kept, held_more}
use Rattle.query_parser.proofs.compiled.Compiled.push.Goals as goal
use Rattle.query_parser.proofs.compiled.Compiled.push.Goals.{in-Every, in-Name, in-Position}

pub returns : goal.returns
returns c =
    let old = c.args.self.now.kinds in
    elim c.match-found.branch [
      | in-Every w ↦ rw w.kinds-is (record {
        held = held_more _ _ _ _ _ _ _ _ _ _ _ _ c.with_bit-kinds.ensures
            (added takes_every w.in-Every.is refl _ _ _ w.with_bit-kinds-in-Every.ensures)
            (kept takes_name w.in-Every.is refl old.named old.count)
            (kept takes_position w.in-Every.is refl old.positioned old.count) c.requires;
      })
      | in-Name w ↦ rw w.kinds-is (record {
        held = held_more _ _ _ _ _ _ _ _ _ _ _ _ c.with_bit-kinds.ensures
            (kept takes_every w.in-Name.is refl old.every old.count)
            (added takes_name w.in-Name.is refl _ _ _ w.with_bit-kinds-in-Name.ensures)
            (kept takes_position w.in-Name.is refl old.positioned old.count) c.requires;
      })
      | in-Position w ↦ rw w.kinds-is (record {
        held = held_more _ _ _ _ _ _ _ _ _ _ _ _ c.with_bit-kinds.ensures
            (kept takes_every w.in-Position.is refl old.every old.count)
            (kept takes_name w.in-Position.is refl old.named old.count)
            (added takes_position w.in-Position.is refl _ _ _ w.with_bit-kinds-in-Position.ensures) c.requires;
      })
    ]
