-- The padded part is sorted as a full block; the mask cuts the words to its size, and past its end no quote is counted. Assumes nothing.
use Rattle.blocks.proofs.Sort.{quotes_cut, strings_cut, opening_cut, closing_cut, inside_cut, odd_cut}
use Rattle.std.proofs.Common.{◌∙◌}
use Rattle.blocks.proofs.sort_short.Goals as goal

pub returns : goal.returns
returns c =
    let short = c.requires in
    let pad = c.padded.ensures in
    let sorted = c.sort_full-full.ensures.sorted in
    let mask = c.size_mask-mask.ensures in
    record {
      quotes_are = quotes_cut _ _ short pad _ _ _ sorted _ mask;
      strings_are = strings_cut _ _ short pad _ _ _ sorted _ mask;
      opening_are = opening_cut _ _ short pad _ _ _ sorted _ mask;
      closing_are = closing_cut _ _ short pad _ _ _ sorted _ mask;
      inside_is = inside_cut _ _ short pad _ _ _ sorted;
      odd_is = c.odd_after.ensures ∙ odd_cut _ _ short pad _ _ _ sorted;
    }
