-- A step takes a member by `*` or by its name; where no step with a name has a mark, no name is looked at. Assumes nothing.
use native.Mathlib.Omega.{arith}
use Rattle.encoding.specs.BytesLaws.{part_is}
use Rattle.marks.proofs.NextMarks.{member_every, member_named, named_live, fits_named}
use Rattle.marks.proofs.taking.taking_member.Goals as goal

pub returns-then-live-eq0 : goal.returns-then-live-eq0
returns-then-live-eq0 c = λ points is. member_every _ _ _ _ points c.if-live-eq0.true

pub chosen-requires : goal.chosen-requires
chosen-requires c = record {
  count_le_max_steps = c.requires.fits.few;
  at_hand = (omega arith, named_live _ _ _ (fits_named _ _ c.requires.fits));
}

pub returns : goal.returns
returns c =
    let chosen = rw (part_is _ _ c.args.«record».now c.requires.x_le_y.0) at c.chosen.ensures in
    λ points is. member_named _ _ _ _ points _ _ is chosen
