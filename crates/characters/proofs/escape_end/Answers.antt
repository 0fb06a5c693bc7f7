-- `characters::escape_end` meets its contract: at the end of the bytes, at a letter, at a `u` and at any other byte. Assumes nothing.
use Rattle.std.proofs.Common.{refl, true, false, ◌+◌, get_or, arith, rules}
use Rattle.encoding.proofs.ReadsLaws.{reads_so}
use Rattle.json_text.specs.Machine.{escaping, hex_due, in_string}
use Rattle.json_text.specs.Led.{led_here, led_end}
use Rattle.scalars.specs.Among.{Among, this, other, no_more}
use Rattle.moves.specs.Moves.{escape_letters}
use Rattle.characters.specs.Strings.{LedBoth, escape_letter, escape_wrong, escape_hex}
use Rattle.characters.proofs.escape_end.Goals as goal

pub returns-then-at-s : goal.returns-then-at-s
returns-then-at-s c = λ f. led_end (led_here _ _ (escaping f) c.requires) (in_string f) c.if-at-s.true refl

pub returns-in-34 : goal.returns-in-34
returns-in-34 c =
    let letter : Among escape_letters (get_or c.args.s.now c.args.at 0) true = grind (arith, this, other) in
    λ f. escape_letter c.if-at-s.false f letter

pub returns-in-117 : goal.returns-in-117
returns-in-117 c =
    let s = c.args.s.now in
    let at = c.args.at in
    reads_so {P = LedBoth s (at + 1) (hex_due 3) in_string} {Q = LedBoth s at escaping in_string}
    (λ ok r p f. escape_hex c.if-at-s.false f c.in-117.is (p f)) _ c.hex_end.ensures

pub returns-in_default : goal.returns-in_default
returns-in_default c =
    let none : Among escape_letters (get_or c.args.s.now c.args.at 0) false = search (rules, other, no_more) depth 12 in
    λ f. escape_wrong c.if-at-s.false f none (search rules)
