-- `path::write_label` meets its contract: a position is written with the bracket before it and the one after it, and a name with two bytes
-- on either side. Assumes nothing.
use Rattle.encoding.specs.BytesLaws.{part_is}
use Rattle.path.proofs.Labels.{bracket_fits, digits_fit, position_written, opening_fits, name_fits, closing_fits, name_written}
use Rattle.path.proofs.write_label.Goals as goal

pub write_byte-inner-requires : goal.write_byte-inner-requires
write_byte-inner-requires c = bracket_fits _ _ (rw c.in-Position.is at c.requires.1)

pub write_field-requires : goal.write_field-requires
write_field-requires c = digits_fit _ _ (rw c.in-Position.is at c.requires.1) c.write_byte-inner.ensures

pub returns-in-Position : goal.returns-in-Position
returns-in-Position c =
    rw c.in-Position.is (position_written _ _ (rw c.in-Position.is at c.requires.1) c.write_byte-inner.ensures c.write_field.ensures)

pub write_word-start-requires : goal.write_word-start-requires
write_word-start-requires c = opening_fits _ _ _ (rw c.in-Name.is at c.requires.1)

pub write_name-end-requires : goal.write_name-end-requires
write_name-end-requires c =
    let within = rw c.in-Name.is at c.requires.0 in
    rw (part_is _ _ c.args.«record».now within.1) (name_fits _ _ _ (rw c.in-Name.is at c.requires.1) c.write_word-start.ensures)

pub write_word-requires : goal.write_word-requires
write_word-requires c =
    let within = rw c.in-Name.is at c.requires.0 in
    closing_fits _ _ _ (rw c.in-Name.is at c.requires.1) c.write_word-start.ensures
    (rw (part_is _ _ c.args.«record».now within.1) at c.write_name-end.ensures)

pub returns-in-Name : goal.returns-in-Name
returns-in-Name c =
    let within = rw c.in-Name.is at c.requires.0 in
    rw c.in-Name.is
    (name_written _ _ _ (rw c.in-Name.is at c.requires.1) c.write_word-start.ensures
    (rw (part_is _ _ c.args.«record».now within.1) at c.write_name-end.ensures) c.write_word.ensures)
