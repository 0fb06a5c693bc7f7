-- Worked examples: trees of texts, by computing.
use Rattle.std.specs.Prelude.{◌≡◌, refl, List, [], ◌∷◌}
use Rattle.std.proofs.Math.Option.{some, none}
use Rattle.encoding.specs.Bytes as B
use Rattle.encoding.specs.Hex as H
use Rattle.encoding.specs.Utf8 as U
use Rattle.json_text.specs.Grammar as G
use Rattle.json_text.specs.Grammar.{Char, Name, Value, Tree}
use Rattle.json_text.specs.TreeOf.{tree_of}

-- a value with no blanks around it
abbrev alone : Value → Tree
alone v = record { before = []; value = v; after = [] }

-- a name with no blanks around its colon
abbrev tight : List Char → Name
tight cs = record { chars = cs; before = []; after = [] }

abbrev M : Char
M = G.mid (record { byte = 0x4D; ok = tt })

-- a number of one digit that is not 0
abbrev digit : B.In 0x31 0x39 → Value
digit d = G.number G.unsigned (G.whole d []) G.nofrac G.noexp

abbrev one : Value
one = digit (record { byte = 0x31; ok = tt })

abbrev two : Value
two = digit (record { byte = 0x32; ok = tt })

-- {"M":1,"M":2}
name_twice : tree_of (0x7B ∷ 0x22 ∷ 0x4D ∷ 0x22 ∷ 0x3A ∷ 0x31 ∷ 0x2C ∷ 0x22 ∷ 0x4D ∷ 0x22 ∷ 0x3A ∷ 0x32 ∷ 0x7D ∷ []) ≡
    some (alone (G.container G.object (G.items [] (tight (M ∷ [])) one (G.more [] [] (tight (M ∷ [])) two (G.end [])))))
unfolding tree_of
name_twice = refl

-- [1,]
comma_last : tree_of (0x5B ∷ 0x31 ∷ 0x2C ∷ 0x5D ∷ []) ≡ none
unfolding tree_of
comma_last = refl

-- "M\"M"
escaped_quote : tree_of (0x22 ∷ 0x4D ∷ 0x5C ∷ 0x22 ∷ 0x4D ∷ 0x22 ∷ []) ≡ some (alone (G.string (M ∷ G.escaped G.quote ∷ M ∷ [])))
unfolding tree_of
escaped_quote = refl

-- one code point of two bytes, as itself and as an escape
code_point : tree_of (0x22 ∷ 0xC3 ∷ 0xA9 ∷ 0x5C ∷ 0x75 ∷ 0x30 ∷ 0x30 ∷ 0x65 ∷ 0x39 ∷ 0x22 ∷ []) ≡
    some
    (alone
    (G.string
    (G.wide (U.c2_df (record { byte = 0xC3; ok = tt }) (record { byte = 0xA9; ok = tt })) ∷
    G.unicode
    (H.digit (record { byte = 0x30; ok = tt }))
    (H.digit (record { byte = 0x30; ok = tt }))
    (H.lower (record { byte = 0x65; ok = tt }))
    (H.digit (record { byte = 0x39; ok = tt })) ∷ [])))
unfolding tree_of
code_point = refl

-- a tail byte with no first byte
stray_tail : tree_of (0x22 ∷ 0xA9 ∷ 0x22 ∷ []) ≡ none
unfolding tree_of
stray_tail = refl

-- -1.2E+1
number : tree_of (0x2D ∷ 0x31 ∷ 0x2E ∷ 0x32 ∷ 0x45 ∷ 0x2B ∷ 0x31 ∷ []) ≡
    some
    (alone
    (G.number
    G.minus
    (G.whole (record { byte = 0x31; ok = tt }) [])
    (G.frac (record { byte = 0x32; ok = tt }) [])
    (G.exp G.big G.positive (record { byte = 0x31; ok = tt }) [])))
unfolding tree_of
number = refl

-- 01
zero-first : tree_of (0x30 ∷ 0x31 ∷ []) ≡ none
unfolding tree_of
zero-first = refl

-- blanks wherever they may stand: around the value, both sides of each bracket, comma and colon
blanks_everywhere : tree_of
    (0x20 ∷ 0x5B ∷ 0x09 ∷ 0x7B ∷ 0x0A ∷ 0x22 ∷ 0x4D ∷ 0x22 ∷ 0x0D ∷ 0x3A ∷ 0x20 ∷ 0x31 ∷
    0x09 ∷ 0x7D ∷ 0x0A ∷ 0x2C ∷ 0x0D ∷ 0x20 ∷ 0x5B ∷ 0x20 ∷ 0x5D ∷ 0x09 ∷ 0x5D ∷ 0x0A ∷ []) ≡
    some
    (record {
      before = B.space ∷ [];
      value = G.container G.array
          (G.items
          (B.tab ∷ [])
          tt
          (G.container G.object
          (G.items (B.feed ∷ []) (record { chars = M ∷ []; before = B.return ∷ []; after = B.space ∷ [] }) one (G.end (B.tab ∷ []))))
          (G.more (B.feed ∷ []) (B.return ∷ B.space ∷ []) tt (G.container G.array (G.empty (B.space ∷ []))) (G.end (B.tab ∷ []))));
      after = B.feed ∷ [];
    })
unfolding tree_of
blanks_everywhere = refl
