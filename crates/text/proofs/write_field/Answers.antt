-- The number is written, and then the byte. Assumes nothing.
use Rattle.text.specs.PutLaws.{written_both}
use Rattle.text.proofs.write_field.Goals as goal

pub returns : goal.returns
returns c = written_both c.write_decimal-end.ensures c.write_byte.ensures c.requires
