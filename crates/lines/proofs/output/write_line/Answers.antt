-- The line is its three fields, each with the byte after it. Assumes nothing.
use Rattle.text.specs.Decimal.{decimal}
use Rattle.lines.specs.LineLaws.{line_first, line_second, line_third, line_written}
use Rattle.lines.proofs.output.write_line.Goals as goal

pub write_field-second-requires : goal.write_field-second-requires
write_field-second-requires c = line_first (decimal c.args.number) (decimal c.args.first) (decimal c.args.end) c.requires

pub write_field-third-requires : goal.write_field-third-requires
write_field-third-requires c =
    line_second
    (decimal c.args.number) (decimal c.args.first) (decimal c.args.end)
    c.requires c.write_field-second.ensures

pub write_field-requires : goal.write_field-requires
write_field-requires c =
    line_third
    (decimal c.args.number) (decimal c.args.first) (decimal c.args.end)
    c.requires c.write_field-second.ensures c.write_field-third.ensures

pub returns : goal.returns
returns c =
    line_written
    (decimal c.args.number) (decimal c.args.first) (decimal c.args.end)
    c.requires c.write_field-second.ensures c.write_field-third.ensures c.write_field.ensures
