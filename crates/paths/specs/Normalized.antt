-- Normalized paths (RFC 9535 §2.7), as syntax trees, the bytes that they are written as, and the labels that they are made of.
use Rattle.std.specs.Prelude.{◌≡◌, List, [], ◌∷◌, ◌++◌, map, ℕ, ◌+◌, ◌-◌}
use Rattle.encoding.specs.Bytes.{In}
use Rattle.encoding.specs.Points.{point_of}
use Rattle.encoding.specs.Utf8.{Wide, put_wide}
use Rattle.json_text.specs.Grammar.{Tree}
use Rattle.query.specs.Grammar.{Position, put_position, position_of}
use Rattle.select.specs.Nodes.{Label, member, element, Node, Below, same, down, root}

-- normal-escapable, without the `u`
pub data Escapable : Type 0 where
  backspace form line carriage tabulator apostrophe backslash : Escapable

-- normal-HEXDIG = DIGIT / %x61-66
pub data LowerHex : Type 0 where
  digit : In 0x30 0x39 → LowerHex
  letter : In 0x61 0x66 → LowerHex

-- normal-hexchar = "0" "0" ( ("0" %x30-37) / ("0" %x62) / ("0" %x65-66) / ("1" normal-HEXDIG) ): the controls that have no letter of their own
pub data Control : Type 0 where
  up_to_7 : In 0x30 0x37 → Control
  b : Control
  e_to_f : In 0x65 0x66 → Control
  from_10 : LowerHex → Control

-- normal-single-quoted = normal-unescaped / ESC normal-escapable; normal-unescaped = %x20-26 / %x28-5B / %x5D-D7FF / %xE000-10FFFF, the
-- last two in two others: the bytes up to 7F, and the code points from 80 on that UTF-8 can write
pub data Char : Type 0 where
  low : In 0x20 0x26 → Char
  mid : In 0x28 0x5B → Char
  high : In 0x5D 0x7F → Char
  wide : Wide → Char
  escaped : Escapable → Char
  control : Control → Char

-- normal-selector = normal-name-selector / normal-index-selector; the latter is "0" / (DIGIT1 *DIGIT), as a position of a query is
pub data Selector : Type 0 where
  name : List Char → Selector
  index : Position → Selector

-- normalized-path = root-identifier *(normal-index-segment); the `$` needs no tree
abbrev pub Path : Type 0
Path = List Selector

-- each `put x s` is the bytes of x with s after them

abbrev pub escapable_byte : Escapable → ℕ
escapable_byte backspace = 0x62
escapable_byte form = 0x66
escapable_byte line = 0x6E
escapable_byte carriage = 0x72
escapable_byte tabulator = 0x74
escapable_byte apostrophe = 0x27
escapable_byte backslash = 0x5C

abbrev pub lower_hex_byte : LowerHex → ℕ
lower_hex_byte (digit x) = x.byte
lower_hex_byte (letter x) = x.byte

unfoldable pub put_control : Control → List ℕ → List ℕ
put_control (up_to_7 x) s = 0x30 ∷ 0x30 ∷ 0x30 ∷ x.byte ∷ s
put_control b s = 0x30 ∷ 0x30 ∷ 0x30 ∷ 0x62 ∷ s
put_control (e_to_f x) s = 0x30 ∷ 0x30 ∷ 0x30 ∷ x.byte ∷ s
put_control (from_10 x) s = 0x30 ∷ 0x30 ∷ 0x31 ∷ lower_hex_byte x ∷ s

unfoldable pub put_char : Char → List ℕ → List ℕ
unfolding put_wide put_control
put_char (low x) s = x.byte ∷ s
put_char (mid x) s = x.byte ∷ s
put_char (high x) s = x.byte ∷ s
put_char (wide p) s = put_wide p s
put_char (escaped x) s = 0x5C ∷ escapable_byte x ∷ s
put_char (control x) s = 0x5C ∷ 0x75 ∷ put_control x s

unfoldable pub put_chars : List Char → List ℕ → List ℕ
unfolding put_char
put_chars [] s = s
put_chars (c ∷ cs) s = put_char c (put_chars cs s)

-- normal-name-selector = %x27 *normal-single-quoted %x27
unfoldable pub put_selector : Selector → List ℕ → List ℕ
unfolding put_chars put_position
put_selector (name cs) s = 0x27 ∷ put_chars cs (0x27 ∷ s)
put_selector (index p) s = put_position p s

-- normal-index-segment = "[" normal-selector "]"
unfoldable pub put_path : Path → List ℕ → List ℕ
unfolding put_selector
put_path [] s = s
put_path (x ∷ xs) s = 0x5B ∷ put_selector x (0x5D ∷ put_path xs s)

unfoldable pub text : Path → List ℕ
unfolding put_path
text p = 0x24 ∷ put_path p []

-- the code point that a character stands for

abbrev pub escapable_point : Escapable → ℕ
escapable_point backspace = 0x08
escapable_point form = 0x0C
escapable_point line = 0x0A
escapable_point carriage = 0x0D
escapable_point tabulator = 0x09
escapable_point apostrophe = 0x27
escapable_point backslash = 0x5C

abbrev pub lower_hex_digit : LowerHex → ℕ
lower_hex_digit (digit x) = x.byte - 0x30
lower_hex_digit (letter x) = x.byte - 0x57

unfoldable pub control_point : Control → ℕ
control_point (up_to_7 x) = x.byte - 0x30
control_point b = 0x0B
control_point (e_to_f x) = x.byte - 0x57
control_point (from_10 x) = 0x10 + lower_hex_digit x

unfoldable pub char_point : Char → ℕ
unfolding point_of control_point
char_point (low x) = x.byte
char_point (mid x) = x.byte
char_point (high x) = x.byte
char_point (wide p) = point_of p
char_point (escaped x) = escapable_point x
char_point (control x) = control_point x

-- what a selector stands for: a member by its name's code points, or an element by its position
unfoldable pub selector_label : Selector → Label
unfolding char_point position_of
selector_label (name cs) = member (map char_point cs)
selector_label (index p) = element (position_of p)

-- s is the normalized path that is made of these labels, in their order
pub record NormalizedPath (labels : List Label) (s : List ℕ) : Type 0 where
  pub path : Path
  pub labels_are : map selector_label path ≡ labels
  pub written : text path ≡ s

-- the labels on the way from p down to n
unfoldable pub labels_on : {p n : Node} → Below p n → List Label
labels_on same = []
labels_on (down l h c) = labels_on h ++ (l ∷ [])

-- s is the normalized path of the node n of a record
pub record PathOf (t : Tree) (n : Node) (s : List ℕ) : Type 0 where
  pub node : Below (root t) n
  pub path : NormalizedPath (labels_on node) s
