-- The part of RFC 9535 that is taken (document 01, "The part of RFC 9535"), as syntax trees and the bytes that they are written as.
use Rattle.std.specs.Prelude.{◌≡◌, List, [], ◌∷◌, map, Bool, true, false, ℕ, ◌≤◌}
use Rattle.encoding.specs.Bytes.{In, put_in, Blanks, put_blanks}
use Rattle.encoding.specs.Decimal.{value_of}
use Rattle.encoding.specs.Points.{point_of}
use Rattle.encoding.specs.Utf8.{Wide, put_wide}
use Rattle.query.specs.Escapes.{Escape, escape_byte, escape_point, HexChar, put_hex_char, hex_char_point}
use Rattle.query.specs.Steps.{Selector, Step}
use Rattle.query.specs.Steps as S

-- RFC 9535 §2.5.1.1: name-first = ALPHA / "_" / %x80-D7FF / %xE000-10FFFF; the last two are the code points from 80 on that UTF-8 can
-- write, which leaves the surrogates out
pub data First : Type 0 where
  upper : In 0x41 0x5A → First
  lower : In 0x61 0x7A → First
  underscore : First
  wide : Wide → First

-- name-char = name-first / DIGIT
pub data Later : Type 0 where
  first : First → Later
  digit : In 0x30 0x39 → Later

-- the two quotes that a quoted name may stand in
pub data Quote : Type 0 where
  single double : Quote

abbrev pub quote_byte : Quote → ℕ
quote_byte single = 0x27
quote_byte double = 0x22

-- the byte before the quote, and the byte after it
abbrev pub before_quote : Quote → ℕ
before_quote single = 0x26
before_quote double = 0x21

abbrev pub after_quote : Quote → ℕ
after_quote single = 0x28
after_quote double = 0x23

-- a character of a quoted name (RFC 9535 §2.3.1.1): as itself, no control below 20, no backslash and not its own quote; or escaped
pub data Char (q : Quote) : Type 0 where
  low : In 0x20 (before_quote q) → Char q
  mid : In (after_quote q) 0x5B → Char q
  high : In 0x5D 0x7F → Char q
  wide : Wide → Char q
  own : Char q  -- its own quote; the other one is not escaped
  escaped : Escape → Char q
  unicode : HexChar → Char q

-- a position (RFC 9535 §2.3.3, without the minus sign): "0" / (DIGIT1 *DIGIT)
pub data Position : Type 0 where
  zero : Position
  digits : In 0x31 0x39 → List (In 0x30 0x39) → Position

unfoldable pub put_position : Position → List ℕ → List ℕ
unfolding put_in
put_position zero s = 0x30 ∷ s
put_position (digits d ds) s = d.byte ∷ put_in ds s

-- the number that its digits stand for
unfoldable pub position_of : Position → ℕ
unfolding put_position value_of
position_of p = value_of (put_position p [])

-- 2^53 - 1, the largest integer of RFC 9535 §2.1
abbrev pub max_position : ℕ
max_position = 9007199254740991

-- what a step takes, behind `.` or `..`: member-name-shorthand / wildcard-selector
pub data Short : Type 0 where
  star : Short
  shorthand : First → List Later → Short

-- and in brackets: name-selector / wildcard-selector / index-selector
pub data Inner : Type 0 where
  star : Inner
  quoted : (q : Quote) → List (Char q) → Inner
  position : (p : Position) → position_of p ≤ max_position → Inner

-- a plain step, or a deep one, written with `..`
pub data Depth : Type 0 where
  plain deep : Depth

pub data Segment : Type 0 where
  dotted : Depth → Short → Segment
  bracketed : Depth → Blanks → Inner → Blanks → Segment

-- a step with the blanks before it
pub record Spaced : Type 0 where
  pub before : Blanks
  pub segment : Segment

-- `$` and then steps; the `$` needs no tree
abbrev pub Query : Type 0
Query = List Spaced

-- each `put x s` is the bytes of x with s after them

unfoldable pub put_first : First → List ℕ → List ℕ
unfolding put_wide
put_first (upper x) s = x.byte ∷ s
put_first (lower x) s = x.byte ∷ s
put_first underscore s = 0x5F ∷ s
put_first (wide p) s = put_wide p s

unfoldable pub put_later : Later → List ℕ → List ℕ
unfolding put_first
put_later (first x) s = put_first x s
put_later (digit x) s = x.byte ∷ s

unfoldable pub put_laters : List Later → List ℕ → List ℕ
unfolding put_later
put_laters [] s = s
put_laters (c ∷ cs) s = put_later c (put_laters cs s)

unfoldable pub put_char : {q : Quote} → Char q → List ℕ → List ℕ
unfolding put_wide put_hex_char
put_char (low x) s = x.byte ∷ s
put_char (mid x) s = x.byte ∷ s
put_char (high x) s = x.byte ∷ s
put_char (wide p) s = put_wide p s
put_char {q} own s = 0x5C ∷ quote_byte q ∷ s
put_char (escaped e) s = 0x5C ∷ escape_byte e ∷ s
put_char (unicode x) s = 0x5C ∷ 0x75 ∷ put_hex_char x s

unfoldable pub put_chars : {q : Quote} → List (Char q) → List ℕ → List ℕ
unfolding put_char
put_chars [] s = s
put_chars (c ∷ cs) s = put_char c (put_chars cs s)

unfoldable pub put_short : Short → List ℕ → List ℕ
unfolding put_first put_laters
put_short star s = 0x2A ∷ s
put_short (shorthand x cs) s = put_first x (put_laters cs s)

unfoldable pub put_inner : Inner → List ℕ → List ℕ
unfolding put_chars put_position
put_inner star s = 0x2A ∷ s
put_inner (quoted q cs) s = quote_byte q ∷ put_chars cs (quote_byte q ∷ s)
put_inner (position p small) s = put_position p s

-- before a shorthand name or `*`; `..` alone stands before brackets
unfoldable pub put_dots : Depth → List ℕ → List ℕ
put_dots plain s = 0x2E ∷ s
put_dots deep s = 0x2E ∷ 0x2E ∷ s

unfoldable pub put_deep : Depth → List ℕ → List ℕ
put_deep plain s = s
put_deep deep s = 0x2E ∷ 0x2E ∷ s

unfoldable pub put_segment : Segment → List ℕ → List ℕ
unfolding put_blanks put_short put_inner put_dots put_deep
put_segment (dotted d x) s = put_dots d (put_short x s)
put_segment (bracketed d w i w') s = put_deep d (0x5B ∷ put_blanks w (put_inner i (put_blanks w' (0x5D ∷ s))))

unfoldable pub put_spaced : Spaced → List ℕ → List ℕ
unfolding put_blanks put_segment
put_spaced x s = put_blanks x.before (put_segment x.segment s)

unfoldable pub put_query : Query → List ℕ → List ℕ
unfolding put_spaced
put_query [] s = s
put_query (x ∷ xs) s = put_spaced x (put_query xs s)

unfoldable pub text : Query → List ℕ
unfolding put_query
text t = 0x24 ∷ put_query t []

-- s is a query of the grammar
pub record QueryText (s : List ℕ) : Type 0 where
  pub tree : Query
  pub written : text tree ≡ s

-- the code points of a name

unfoldable pub first_point : First → ℕ
unfolding point_of
first_point (upper x) = x.byte
first_point (lower x) = x.byte
first_point underscore = 0x5F
first_point (wide p) = point_of p

unfoldable pub later_point : Later → ℕ
unfolding first_point
later_point (first x) = first_point x
later_point (digit x) = x.byte

unfoldable pub char_point : {q : Quote} → Char q → ℕ
unfolding point_of hex_char_point
char_point (low x) = x.byte
char_point (mid x) = x.byte
char_point (high x) = x.byte
char_point (wide p) = point_of p
char_point {q} own = quote_byte q
char_point (escaped e) = escape_point e
char_point (unicode x) = hex_char_point x

unfoldable pub short_points : First → List Later → List ℕ
unfolding first_point later_point
short_points x cs = first_point x ∷ map later_point cs

unfoldable pub quoted_points : {q : Quote} → List (Char q) → List ℕ
unfolding char_point
quoted_points cs = map char_point cs

-- what a written step is: a name is its code points
abbrev pub is_deep : Depth → Bool
is_deep plain = false
is_deep deep = true

unfoldable pub short_selector : Short → Selector
unfolding short_points
short_selector star = S.every
short_selector (shorthand x cs) = S.name (short_points x cs)

unfoldable pub inner_selector : Inner → Selector
unfolding quoted_points position_of
inner_selector star = S.every
inner_selector (quoted q cs) = S.name (quoted_points cs)
inner_selector (position p small) = S.position (position_of p)

unfoldable pub segment_step : Segment → Step
unfolding short_selector inner_selector
segment_step (dotted d x) = record { deep = is_deep d; selector = short_selector x }
segment_step (bracketed d w i w') = record { deep = is_deep d; selector = inner_selector i }

-- the steps of a query, in order
unfoldable pub steps_of : Query → List Step
unfolding segment_step
steps_of [] = []
steps_of (x ∷ xs) = segment_step x.segment ∷ steps_of xs
