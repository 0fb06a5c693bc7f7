-- Code points of strings, by computing: each text is a record that is one string.
use Rattle.std.specs.Prelude.{◌≡◌, refl, List, [], ◌∷◌, ℕ}
use Rattle.std.proofs.Math.Option.{Option, some, none}
use Rattle.encoding.specs.Ascii.{ascii}
use Rattle.json_text.specs.Grammar as G
use Rattle.json_text.specs.Grammar.{Value, Tree}
use Rattle.json_text.specs.Points.{points_of}
use Rattle.json_text.specs.TreeOf.{tree_of}

-- the code points of a value that is a string, and of a record that is one

unfoldable value_points : Value → Option (List ℕ)
unfolding points_of
value_points (G.literal l) = none
value_points (G.number g n f e) = none
value_points (G.string cs) = some (points_of cs)
value_points (G.container k is) = none

unfoldable tree_points : Option Tree → Option (List ℕ)
unfolding value_points
tree_points none = none
tree_points (some t) = value_points t.value

unfoldable points_in : List ℕ → Option (List ℕ)
unfolding tree_of tree_points
points_in s = tree_points (tree_of s)

-- digits of either case
letters : points_in (ascii "\"l\\u006Ft\\u006f\"") ≡ some (0x6C ∷ 0x6F ∷ 0x74 ∷ 0x6F ∷ [])
unfolding points_in
letters = refl

-- each escape of two bytes
short_ones : points_in (ascii "\"\\\"\\\\\\/\\b\\f\\n\\r\\t\"") ≡
    some (0x22 ∷ 0x5C ∷ 0x2F ∷ 0x08 ∷ 0x0C ∷ 0x0A ∷ 0x0D ∷ 0x09 ∷ [])
unfolding points_in
short_ones = refl

-- an escaped backslash before a `u`
not_unicode : points_in (ascii "\"\\\\u0041\"") ≡ some (0x5C ∷ 0x75 ∷ 0x30 ∷ 0x30 ∷ 0x34 ∷ 0x31 ∷ [])
unfolding points_in
not_unicode = refl

-- the least pair and the greatest
pairs : points_in (ascii "\"\\ud800\\uDC00\\udbff\\udfff\"") ≡ some (0x10000 ∷ 0x10FFFF ∷ [])
unfolding points_in
pairs = refl

-- a low half before a high one
turned : points_in (ascii "\"\\uDC00\\ud800\"") ≡ some (0xDC00 ∷ 0xD800 ∷ [])
unfolding points_in
turned = refl

-- a high half before a pair
before_a_pair : points_in (ascii "\"\\ud83d\\ud83d\\ude00\"") ≡ some (0xD83D ∷ 0x1F600 ∷ [])
unfolding points_in
before_a_pair = refl

-- halves with something between them
apart : points_in (ascii "\"\\ud83d \\ude00\"") ≡ some (0xD83D ∷ 0x20 ∷ 0xDE00 ∷ [])
unfolding points_in
apart = refl

-- code points of one to four bytes, as themselves
as_themselves :
    points_in (0x22 ∷ 0x7F ∷ 0xC3 ∷ 0xA9 ∷ 0xE2 ∷ 0x82 ∷ 0xAC ∷ 0xEF ∷ 0xBF ∷ 0xBF ∷ 0xF0 ∷ 0x9F ∷ 0x98 ∷ 0x80 ∷ 0x22 ∷ []) ≡
    some (0x7F ∷ 0xE9 ∷ 0x20AC ∷ 0xFFFF ∷ 0x1F600 ∷ [])
unfolding points_in
as_themselves = refl
