-- `validate::check_record` meets its contract: ground 4 goes before the check of the text. Assumes nothing.
use Rattle.std.proofs.Common.{◌∙◌}
use Rattle.validate.proofs.CheckLaws.{too_long, short_enough}
use Rattle.validate.proofs.check_record.Goals as goal

pub returns-then-record-gt-MAX_BYTES : goal.returns-then-record-gt-MAX_BYTES
returns-then-record-gt-MAX_BYTES c = too_long _ c.if-record-gt-MAX_BYTES.true

pub returns : goal.returns
returns c = c.check_text.ensures ∙ short_enough _ c.if-record-gt-MAX_BYTES.false
