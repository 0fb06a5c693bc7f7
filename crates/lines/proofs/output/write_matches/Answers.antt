-- The text is the word, the number of pairs with a line feed, and the lines of the pairs. Assumes nothing.
use Rattle.lines.specs.LineLaws.{matches_first, matches_second, matches_third, matches_written}
use Rattle.lines.proofs.output.write_matches.Goals as goal

pub write_word-first-requires : goal.write_word-first-requires
write_word-first-requires c = matches_first c.args.pairs c.args.list.now c.requires.room

pub write_field-second-requires : goal.write_field-second-requires
write_field-second-requires c =
    matches_second
    c.args.pairs c.args.list.now
    c.requires.room c.write_word-first.ensures

pub write_pairs-requires : goal.write_pairs-requires
write_pairs-requires c = record {
  pairs_in_bounds = c.requires.pairs_in_bounds;
  room = matches_third c.args.pairs c.args.list.now c.requires.room c.write_word-first.ensures c.write_field-second.ensures;
}

pub returns : goal.returns
returns c =
    matches_written
    c.args.pairs c.args.list.now
    c.requires.room c.write_word-first.ensures c.write_field-second.ensures c.write_pairs.ensures
