-- `query_parser::compiled::decode` meets its contract: `*` takes no operand, a name is decoded in the buffer and its bounds there are its
-- operand, and a position is its own operand. Assumes nothing.
use Rattle.std.proofs.Common.{rules, arith, drop, ◌-◌, length-drop}
use Rattle.std.proofs.lemmas.List.{length-take}
use Rattle.encoding.specs.BytesLaws.{part_is}
use Rattle.query_parser.proofs.Entries.{every_found, position_found, name_stands, name_found}
use Rattle.query_parser.proofs.compiled.decode.Goals as goal

pub returns-in-Every : goal.returns-in-Every
returns-in-Every c = every_found _ _ c.in-Every.is

pub returns-in-Name : goal.returns-in-Name
returns-in-Name c =
    let s = name_stands _ c.args.found c.in-Name.is c.requires in
    name_found _ _ c.in-Name.is (rw (part_is _ _ c.args.query.now s.0) at c.write_name-end.ensures.written)
    (omega (arith, c.write_name-end.ensures.upper_bound, s.0, s.1, length-drop c.in-Name.start c.args.query.now, length-take (c.in-Name.stop - c.in-Name.start) (drop c.in-Name.start c.args.query.now)))
    s.2 (search rules)

pub returns-in-Position : goal.returns-in-Position
returns-in-Position c = position_found _ _ c.in-Position.is
