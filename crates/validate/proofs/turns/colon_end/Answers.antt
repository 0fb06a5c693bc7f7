-- `validate::turns::colon_end` meets its contract: the colon stands at once, or after the blanks, or is missing there. Assumes nothing.
use Rattle.json_text.specs.Machine.{colon}
use Rattle.json_text.specs.Led.{led_here}
use Rattle.scalars.specs.Blanks.{at_colon, led_blanks}
use Rattle.validate.proofs.TurnLaws.{colon_there, colon_missing}
use Rattle.validate.proofs.turns.colon_end.Goals as goal

pub returns-then-byte_at : goal.returns-then-byte_at
returns-then-byte_at c = colon_there (led_here _ _ colon c.requires) c.if-byte_at.ensures

pub returns-then-not-byte_at : goal.returns-then-not-byte_at
returns-then-not-byte_at c =
    let blanks = c.blank_run-place.ensures in
    colon_missing (led_blanks at_colon (led_here _ _ colon c.requires) blanks.passed) c.if-not-byte_at.ensures blanks.stop

pub returns : goal.returns
returns c = colon_there (led_blanks at_colon (led_here _ _ colon c.requires) c.blank_run-place.ensures.passed) c.if-not-byte_at.ensures
