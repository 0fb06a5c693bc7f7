-- The query grammar as a machine that takes one byte at a time: from each control state, the bytes that lead on, and where to.
use Rattle.std.specs.Prelude.{List, [], ◌∷◌, Bool, true, false, ◌&&◌, ℕ, zero, suc, ◌+◌, ◌*◌, leb}
use Rattle.encoding.specs.Utf8.{Second, any_tail, after_e0, after_ed, after_f0, after_f4, second_low, second_high}
use Rattle.query.specs.Grammar.{Quote, single, double, quote_byte, before_quote, after_quote, max_position, Depth, plain, deep}

-- which name is being read: a shorthand one, or one in quotes
pub data Home : Type 0 where
  short : Home
  quoted : Quote → Home

-- in an escape of a quoted name, which of its bytes is due
pub data Due : Type 0 where
  kind : Due  -- the one behind the backslash
  first : Due  -- the first digit behind `\u`
  behind_d_of : Due  -- the digit behind `\uD`
  digits : ℕ → Due  -- a hexadecimal digit, and then so many more
  high_digits_of : ℕ → Due  -- the same in a high half, and then a low half
  low_backslash low_u low_d low_digit : Due  -- of the low half: its backslash, its `u`, its D, and the digit from C to F behind it

pub data Control : Type 0 where
  root : Control  -- `$` is due
  done : Control  -- after `$`, or after a step that ends with its last byte
  gap : Control  -- after blanks before a step
  dotted : Depth → Control  -- after `.` or `..`
  opened : Control  -- in brackets, before the name, the position or `*`
  closing : Control  -- in brackets, after it
  in_position : ℕ → Control  -- in a position whose digits so far stand for this number
  inside : Home → Control  -- in a name
  in_escape : Due → Quote → Control  -- in an escape of a quoted name
  tail_due : Second → ℕ → Home → Control  -- in a code point of a name: its second byte is due, and then so many of 80-BF

-- a state of the machine; dead: no query begins so
pub data State : Type 0 where
  dead : State
  at : Control → State

-- the bytes of a range, and where they lead
pub record Rule : Type 0 where
  pub low : ℕ
  pub high : ℕ
  pub to : Control

abbrev pub range : ℕ → ℕ → Control → Rule
range l h c = record { low = l; high = h; to = c }

abbrev pub only : ℕ → Control → Rule
only b c = range b b c

abbrev pub blank_rules : Control → List Rule → List Rule
blank_rules c rs = only 0x20 c ∷ only 0x09 c ∷ only 0x0A c ∷ only 0x0D c ∷ rs

-- the first byte of a code point, by the rows of document 01 after the first
abbrev pub wide_rules : Home → List Rule → List Rule
wide_rules h rs =
    range 0xC2 0xDF (tail_due any_tail 0 h) ∷
    range 0xE0 0xE0 (tail_due after_e0 1 h) ∷
    range 0xE1 0xEC (tail_due any_tail 1 h) ∷
    range 0xED 0xED (tail_due after_ed 1 h) ∷
    range 0xEE 0xEF (tail_due any_tail 1 h) ∷
    range 0xF0 0xF0 (tail_due after_f0 2 h) ∷
    range 0xF1 0xF3 (tail_due any_tail 2 h) ∷
    range 0xF4 0xF4 (tail_due after_f4 2 h) ∷ rs

-- name-first (RFC 9535 §2.5.1.1)
abbrev pub letter_rules : List Rule → List Rule
letter_rules rs = range 0x41 0x5A (inside short) ∷ range 0x61 0x7A (inside short) ∷ only 0x5F (inside short) ∷ rs

abbrev pub first_rules : List Rule → List Rule
first_rules rs = wide_rules short (letter_rules rs)

-- what begins a step, and that with blanks before it
abbrev pub step_rules : List Rule
step_rules = only 0x2E (dotted plain) ∷ only 0x5B opened ∷ []

abbrev pub begin_rules : List Rule
begin_rules = blank_rules gap step_rules

-- what `.` and `..` may stand before, besides a shorthand name
abbrev pub dot_rule : Depth → Rule
dot_rule plain = only 0x2E (dotted deep)
dot_rule deep = only 0x5B opened

abbrev pub dot_rules : Depth → List Rule
dot_rules d = only 0x2A done ∷ dot_rule d ∷ []

-- a rule that is there only where the test holds
unfoldable pub rule_if : Bool → Rule → List Rule → List Rule
rule_if true r rs = r ∷ rs
rule_if false r rs = rs

-- a number within the maximum
abbrev pub fits : ℕ → Bool
fits n = leb n max_position

-- one digit more behind those that stand for v: of the digits below n, those with which the number fits
unfoldable pub digit_rules : (v n : ℕ) → List Rule
unfolding rule_if
digit_rules v zero = []
digit_rules v (suc d) = rule_if (fits (v * 10 + d)) (only (0x30 + d) (in_position (v * 10 + d))) (digit_rules v d)

-- behind a first 0 there is none
unfoldable pub more_digits : ℕ → List Rule
unfolding digit_rules
more_digits zero = []
more_digits (suc v) = digit_rules (suc v) 10

-- `*`, the quotes that begin a name in brackets, and the first digit of a position
abbrev pub inner_rules : List Rule
inner_rules = only 0x2A closing ∷ only 0x27 (inside (quoted single)) ∷ only 0x22 (inside (quoted double)) ∷ digit_rules 0 10

-- the bytes below 80 of a quoted name, its closing quote, and the backslash of an escape
abbrev pub char_rules : Quote → List Rule
char_rules q =
    range 0x20 (before_quote q) (inside (quoted q)) ∷ range (after_quote q) 0x5B (inside (quoted q)) ∷
    range 0x5D 0x7F (inside (quoted q)) ∷ only (quote_byte q) closing ∷ only 0x5C (in_escape kind q) ∷ []

-- behind the backslash of an escape
abbrev pub kind_rules : Quote → List Rule
kind_rules q =
    only 0x62 (inside (quoted q)) ∷ only 0x66 (inside (quoted q)) ∷ only 0x6E (inside (quoted q)) ∷
    only 0x72 (inside (quoted q)) ∷ only 0x74 (inside (quoted q)) ∷ only 0x2F (inside (quoted q)) ∷
    only 0x5C (inside (quoted q)) ∷ only (quote_byte q) (inside (quoted q)) ∷ only 0x75 (in_escape first q) ∷ []

-- a hexadecimal digit
abbrev pub hex_rules : Control → List Rule
hex_rules c = range 0x30 0x39 c ∷ range 0x41 0x46 c ∷ range 0x61 0x66 c ∷ []

-- behind a digit, with so many more due, of the last four and of a high half

abbrev pub digits_due : ℕ → Quote → Control
digits_due zero q = inside (quoted q)
digits_due (suc n) q = in_escape (digits n) q

abbrev pub high_digits_due : ℕ → Quote → Control
high_digits_due zero q = in_escape low_backslash q
high_digits_due (suc n) q = in_escape (high_digits_of n) q

abbrev pub escape_rules : Due → Quote → List Rule
escape_rules kind q = kind_rules q
escape_rules first q =
    range 0x30 0x39 (in_escape (digits 2) q) ∷ range 0x41 0x43 (in_escape (digits 2) q) ∷
    range 0x45 0x46 (in_escape (digits 2) q) ∷ range 0x61 0x63 (in_escape (digits 2) q) ∷
    range 0x65 0x66 (in_escape (digits 2) q) ∷ only 0x44 (in_escape behind_d_of q) ∷ only 0x64 (in_escape behind_d_of q) ∷ []
escape_rules behind_d_of q =
    range 0x30 0x37 (in_escape (digits 1) q) ∷ range 0x38 0x39 (in_escape (high_digits_of 1) q) ∷
    range 0x41 0x42 (in_escape (high_digits_of 1) q) ∷ range 0x61 0x62 (in_escape (high_digits_of 1) q) ∷ []
escape_rules (digits n) q = hex_rules (digits_due n q)
escape_rules (high_digits_of n) q = hex_rules (high_digits_due n q)
escape_rules low_backslash q = only 0x5C (in_escape low_u q) ∷ []
escape_rules low_u q = only 0x75 (in_escape low_d q) ∷ []
escape_rules low_d q = only 0x44 (in_escape low_digit q) ∷ only 0x64 (in_escape low_digit q) ∷ []
escape_rules low_digit q = range 0x43 0x46 (in_escape (digits 1) q) ∷ range 0x63 0x66 (in_escape (digits 1) q) ∷ []

-- after a code point's second byte
abbrev pub tails_due : ℕ → Home → Control
tails_due zero h = inside h
tails_due (suc n) h = tail_due any_tail n h

-- what each control state takes: the first rule that has the byte
abbrev pub rules : Control → List Rule
rules root = only 0x24 done ∷ []
rules done = begin_rules
rules gap = begin_rules
rules (dotted d) = first_rules (dot_rules d)
rules opened = blank_rules opened inner_rules
rules closing = blank_rules closing (only 0x5D done ∷ [])
rules (in_position v) = blank_rules closing (only 0x5D done ∷ more_digits v)
rules (inside short) = first_rules (range 0x30 0x39 (inside short) ∷ begin_rules)
rules (inside (quoted q)) = wide_rules (quoted q) (char_rules q)
rules (in_escape d q) = escape_rules d q
rules (tail_due p n h) = range (second_low p) (second_high p) (tails_due n h) ∷ []

abbrev pub takes : Rule → ℕ → Bool
takes r b = leb r.low b && leb b r.high

unfoldable pub pick : List Rule → ℕ → State
pick [] b = dead
pick (r ∷ rs) b = elim (takes r b) [ true ↦ at r.to | false ↦ pick rs b ]

unfoldable pub step : State → ℕ → State
unfolding pick more_digits
step dead b = dead
step (at c) b = pick (rules c) b

unfoldable pub run : State → List ℕ → State
unfolding step
run st [] = st
run st (b ∷ s) = run (step st b) s

-- how many bytes the machine takes before it is dead
unfoldable pub place : State → List ℕ → ℕ
unfolding step
place st [] = 0
place st (b ∷ s) = elim (step st b) [ dead ↦ 0 | at c ↦ suc (place (at c) s) ]

-- where a query may end
abbrev pub final : Control → Bool
final root = false
final done = true
final gap = false
final (dotted d) = false
final opened = false
final closing = false
final (in_position v) = false
final (inside short) = true
final (inside (quoted q)) = false
final (in_escape d q) = false
final (tail_due p n h) = false

abbrev pub accept : State → Bool
accept dead = false
accept (at c) = final c

abbrev pub start : State
start = at root
