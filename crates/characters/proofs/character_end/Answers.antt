-- `characters::character_end` meets its contract: as far as the moves lead, by the reading of code points, by that of an escape, or at a
-- control byte. Assumes nothing.
use Rattle.std.proofs.Common.{◌+◌}
use Rattle.encoding.specs.RowTable.{narrow_below}
use Rattle.encoding.specs.WideRun.{WideRun}
use Rattle.encoding.proofs.ReadsLaws.{reads_so}
use Rattle.encoding.proofs.WideRunLaws.{wide_at}
use Rattle.json_text.specs.Machine.{escaping, in_string}
use Rattle.characters.specs.Strings.{LedBoth, Character, wide_characters, escaped_character, wrong_character}
use Rattle.characters.proofs.character_end.Goals as goal

pub returns-then-end-at : goal.returns-then-end-at
returns-then-end-at c = record { moved = λ e. c.if-end-at.true; led = c.characters_end-end.ensures.led }

pub returns-then-not-narrow : goal.returns-then-not-narrow
returns-then-not-narrow c =
    let s = c.args.s.now in
    let at = c.args.at in
    reads_so {P = WideRun s at} {Q = Character s at} (λ ok r. wide_characters (wide_at c.requires.0 c.narrow.ensures c.if-not-narrow.true)) _
    c.code_points.ensures

pub returns-then-s-at-eq92 : goal.returns-then-s-at-eq92
returns-then-s-at-eq92 c =
    let s = c.args.s.now in
    let at = c.args.at in
    reads_so {P = LedBoth s (at + 1) escaping in_string} {Q = Character s at} (λ ok r. escaped_character c.requires.0 c.if-s-at-eq92.true) _
    c.escape_end.ensures

pub returns : goal.returns
returns c =
    wrong_character c.requires.0 c.requires.1 c.requires.2 (narrow_below c.narrow.ensures c.if-not-narrow.false) c.if-s-at-eq92.false
