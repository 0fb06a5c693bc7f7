-- The strings of a record: every member name and every string value, by the places of their quotes.
use mathlib.Core.List.{List, [], ◌∷◌, ◌++◌, Memᴰ}
use Rattle.std.specs.Prelude.{ℕ, ◌+◌, ◌<◌, ◌≤◌, length}
use Rattle.json_text.specs.Grammar.{Char, put_chars, Kind, array, object, Key, Value, literal, number}
use Rattle.json_text.specs.Grammar.{string, container, Items, empty, items, More, end, more, Tree}
use Rattle.select.specs.Nodes.{size, key_size}

-- the places of the opening and the closing quote
pub record Quotes : Type 0 where
  pub first : ℕ
  pub last : ℕ

-- the quotes of a string whose first one stands at place a
unfoldable pub quotes_of : List Char → ℕ → Quotes
unfolding put_chars
quotes_of cs a = record { first = a; last = a + 1 + length (put_chars cs []) }

-- a member's name; before an element stands none
unfoldable pub key_strings : (k : Kind) → Key k → ℕ → List Quotes
unfolding quotes_of
key_strings array key a = []
key_strings object key a = quotes_of key.chars a ∷ []

-- the strings of a value at place a, of the items after an opening bracket, and of what follows an item
unfoldable mutual
  unfolding quotes_of key_strings size key_size

  pub value_strings : Value → ℕ → List Quotes
  value_strings (literal l) a = []
  value_strings (number g n f e) a = []
  value_strings (string cs) a = quotes_of cs a ∷ []
  value_strings (container k is) a = items_strings is (a + 1)

  pub items_strings : {k : Kind} → Items k → ℕ → List Quotes
  items_strings (empty w) a = []
  items_strings {k} (items w key v m) a =
      let b = a + length w in
      let c = b + key_size k key in
      key_strings k key b ++ (value_strings v c ++ more_strings m (c + size v))

  pub more_strings : {k : Kind} → More k → ℕ → List Quotes
  more_strings (end w) a = []
  more_strings {k} (more w w' key v m) a =
      let b = a + length w + 1 + length w' in
      let c = b + key_size k key in
      key_strings k key b ++ (value_strings v c ++ more_strings m (c + size v))

-- the strings of a record
unfoldable pub strings : Tree → List Quotes
unfolding value_strings
strings t = value_strings t.value (length t.before)

-- place i is in one of the strings: from its opening quote on, through the byte before its closing quote
pub record InOne (qs : List Quotes) (i : ℕ) : Type 0 where
  pub quotes : Quotes
  pub among : Memᴰ quotes qs
  pub from : quotes.first ≤ i
  pub before : i < quotes.last
