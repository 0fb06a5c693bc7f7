-- A step takes a member by `*` or by its name; where no step with a name has a mark, no name is looked at. Assumes nothing.
use native.Mathlib.Omega.{arith}
use Rattle.encoding.specs.BytesLaws.{part_is}
use Rattle.marks.proofs.NextMarks.{member_every, member_named, named_live}
use Rattle.marks.proofs.taking.taking_escaped.Goals as goal

pub returns-then-asked-eq0 : goal.returns-then-asked-eq0
returns-then-asked-eq0 c = λ kinds e n m points spells. rw (← e) (member_every _ kinds _ _ points (rw n c.if-asked-eq0.true))

pub chosen-requires : goal.chosen-requires
chosen-requires c = record {
  count_le_max_steps = c.requires.count_le_max_steps.0;
  at_hand = (omega arith, named_live _ _ _ c.requires.count_le_max_steps.1);
}

pub returns : goal.returns
returns c =
    let chosen = rw (part_is _ _ c.args.«record».now c.requires.x_le_y.0) at c.chosen.ensures in
    λ kinds e n m points spells. rw (← e) (member_named _ kinds _ _ points _ _ spells.decoded (rw (m, n) chosen))
