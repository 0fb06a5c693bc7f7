-- The line is its word and its two numbers, each with the byte after it. Assumes nothing.
use Rattle.encoding.specs.Ascii.{ascii}
use Rattle.text.specs.Decimal.{decimal}
use Rattle.lines.specs.LineLaws.{line_first, line_second, line_third, line_written}
use Rattle.lines.proofs.output.write_refusal.Goals as goal

pub write_word-first-requires : goal.write_word-first-requires
write_word-first-requires c = line_first (ascii "refused") (decimal c.args.ground) (decimal c.args.place) c.requires

pub write_field-second-requires : goal.write_field-second-requires
write_field-second-requires c =
    line_second
    (ascii "refused") (decimal c.args.ground) (decimal c.args.place)
    c.requires c.write_word-first.ensures

pub write_field-requires : goal.write_field-requires
write_field-requires c =
    line_third
    (ascii "refused") (decimal c.args.ground) (decimal c.args.place)
    c.requires c.write_word-first.ensures c.write_field-second.ensures

pub returns : goal.returns
returns c =
    line_written
    (ascii "refused") (decimal c.args.ground) (decimal c.args.place)
    c.requires c.write_word-first.ensures c.write_field-second.ensures c.write_field.ensures
