-- A worked example: the strings of the record { " a " : " \ " " } and word two of its one block, computed from the definitions. Assumes nothing.
use Rattle.std.specs.Prelude.{◌≡◌, refl, false, [], ◌∷◌}
use Rattle.std.proofs.Math.Bool.{xor}
use Rattle.bits.specs.Bits.{number, digit}
use Rattle.blocks.specs.Words.{odd_before, real_quote, odd_quotes, in_string, block_size, strings_word}
use Rattle.classifier.specs.Classes.{byte_at, is_backslash}
use Rattle.json_text.specs.Grammar as G
use Rattle.json_text.specs.Grammar.{Tree, text}
use Rattle.strings.specs.Strings.{strings}

escaped_quote : Tree
escaped_quote = record {
  before = [];
  value =
      G.container G.object
      (G.items {k = G.object} []
      (record { chars = G.high (record { byte = 0x61; ok = tt }) ∷ []; before = []; after = [] })
      (G.string (G.escaped G.quote ∷ []))
      (G.end []));
  after = [];
}

written : text escaped_quote ≡ 0x7B ∷ 0x22 ∷ 0x61 ∷ 0x22 ∷ 0x3A ∷ 0x22 ∷ 0x5C ∷ 0x22 ∷ 0x22 ∷ 0x7D ∷ []
unfolding escaped_quote text
written = refl

-- the name from 1 to 3 and the value from 5 to 8
two_strings : strings escaped_quote ≡ record { first = 1; last = 3 } ∷ record { first = 5; last = 8 } ∷ []
unfolding escaped_quote strings
two_strings = refl

word_two_of_it : strings_word false false (text escaped_quote) ≡ 0b0011100110
unfolding escaped_quote text strings_word number digit in_string odd_quotes real_quote odd_before is_backslash byte_at block_size xor
word_two_of_it = refl
