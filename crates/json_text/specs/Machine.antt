-- The record grammar as a machine that takes one byte at a time: a control state, the stack of the containers around it, and the room left.
use Rattle.std.specs.Prelude.{List, [], ◌∷◌, Bool, true, false, ◌&&◌, ℕ, zero, suc, leb}
use Rattle.std.proofs.Math.Option.{Option, some, none}
use Rattle.encoding.specs.Utf8.{Second, any_tail, after_e0, after_ed, after_f0, after_f4, second_low, second_high}
use Rattle.json_text.specs.Grammar.{Kind, array, object, opening, closing}
use Rattle.json_text.specs.Room.{Room, left, endless, wider}

-- what is due next
pub data Ctl : Type 0 where
  item : Kind → Bool → Ctl  -- an item of such a container; true: or its closing bracket; a lone value is due as an array's item is
  colon : Ctl  -- the colon after a name
  after : Ctl  -- what follows a value
  in_string : Bool → Ctl  -- a character of a string or its closing quote; true: of a member's name
  escaping : Bool → Ctl  -- what follows a backslash
  hex_due : ℕ → Bool → Ctl  -- a hexadecimal digit, and then so many more
  tail_due : Second → ℕ → Bool → Ctl  -- a code point's second byte, and then so many of 80-BF
  word_due : ℕ → List ℕ → Ctl  -- this letter of a literal name, and then these
  after_minus after_zero in_int after_point in_frac after_e after_sign in_exp : Ctl  -- the parts of a number

-- a value that is no array's item: the root, and what follows a colon
abbrev pub value_due : Ctl
value_due = item array false

-- the kinds of the containers around, the innermost first
abbrev pub Stack : Type 0
Stack = List Kind

abbrev pub top : Stack → Option Kind
top [] = none
top (x ∷ k) = some x

abbrev pub pop : Stack → Stack
pop [] = []
pop (x ∷ k) = k

-- where the machine is; dead: no text of the grammar begins so
pub data State : Type 0 where
  dead : State
  at : Ctl → Stack → Room → State

abbrev pub entered : Kind → Stack → Room → State
entered x k (left zero) = dead
entered x k (left (suc n)) = at (item x true) (x ∷ k) (left n)
entered x k endless = at (item x true) (x ∷ k) endless

-- which bytes a control state takes and where they lead
pub data Rule : Type 0 where
  one : ℕ → Ctl → Rule  -- a byte, and what is due after it
  span : ℕ → ℕ → Ctl → Rule  -- the bytes of a range
  opens : Kind → Rule  -- the opening bracket of a container
  closes : Kind → Rule  -- the closing bracket of the container around

abbrev pub lowest : Rule → ℕ
lowest (one n c) = n
lowest (span lo hi c) = lo
lowest (opens x) = opening x
lowest (closes x) = closing x

abbrev pub highest : Rule → ℕ
highest (one n c) = n
highest (span lo hi c) = hi
highest (opens x) = opening x
highest (closes x) = closing x

abbrev pub takes : Rule → ℕ → Bool
takes r b = leb (lowest r) b && leb b (highest r)

abbrev pub apply : Rule → Stack → Room → State
apply (one n c) k ρ = at c k ρ
apply (span lo hi c) k ρ = at c k ρ
apply (opens x) k ρ = entered x k ρ
apply (closes x) k ρ = at after (pop k) (wider ρ)

abbrev pub blank_rules : Ctl → List Rule → List Rule
blank_rules c rs = one 0x20 c ∷ one 0x0A c ∷ one 0x0D c ∷ one 0x09 c ∷ rs

abbrev pub close_rules : Bool → Kind → List Rule
close_rules true x = closes x ∷ []
close_rules false x = []

-- what may follow an item in a container, or the value of the text
abbrev pub separator_rules : Option Kind → List Rule
separator_rules none = []
separator_rules (some x) = one 0x2C (item x false) ∷ closes x ∷ []

abbrev pub after_rules : Option Kind → List Rule
after_rules o = blank_rules after (separator_rules o)

abbrev pub exponent_rules : List Rule → List Rule
exponent_rules rs = one 0x65 after_e ∷ one 0x45 after_e ∷ rs

abbrev pub hex_rules : Ctl → List Rule
hex_rules c = span 0x30 0x39 c ∷ span 0x41 0x46 c ∷ span 0x61 0x66 c ∷ []

-- after the closing quote
abbrev pub closed : Bool → Ctl
closed true = colon
closed false = after

-- what each control state takes: the first rule that has the byte
abbrev pub rules : Ctl → Option Kind → List Rule
rules (item array f) o =
    span 0x31 0x39 in_int ∷
    blank_rules (item array f)
    (one 0x30 after_zero ∷ one 0x2D after_minus ∷ one 0x22 (in_string false) ∷
    one 0x66 (word_due 0x61 (0x6C ∷ 0x73 ∷ 0x65 ∷ [])) ∷ one 0x6E (word_due 0x75 (0x6C ∷ 0x6C ∷ [])) ∷ one 0x74 (word_due 0x72 (0x75 ∷ 0x65 ∷ [])) ∷
    opens array ∷ opens object ∷ close_rules f array)
rules (item object f) o = blank_rules (item object f) (one 0x22 (in_string true) ∷ close_rules f object)
rules colon o = blank_rules colon (one 0x3A value_due ∷ [])
rules after o = after_rules o
rules (in_string f) o =
    span 0x20 0x21 (in_string f) ∷ span 0x23 0x5B (in_string f) ∷ span 0x5D 0x7F (in_string f) ∷
    one 0x22 (closed f) ∷ one 0x5C (escaping f) ∷
    span 0xC2 0xDF (tail_due any_tail 0 f) ∷
    span 0xE0 0xE0 (tail_due after_e0 1 f) ∷ span 0xE1 0xEC (tail_due any_tail 1 f) ∷
    span 0xED 0xED (tail_due after_ed 1 f) ∷ span 0xEE 0xEF (tail_due any_tail 1 f) ∷
    span 0xF0 0xF0 (tail_due after_f0 2 f) ∷ span 0xF1 0xF3 (tail_due any_tail 2 f) ∷ span 0xF4 0xF4 (tail_due after_f4 2 f) ∷ []
rules (escaping f) o =
    one 0x22 (in_string f) ∷ one 0x5C (in_string f) ∷ one 0x2F (in_string f) ∷ one 0x62 (in_string f) ∷
    one 0x66 (in_string f) ∷ one 0x6E (in_string f) ∷ one 0x72 (in_string f) ∷ one 0x74 (in_string f) ∷
    one 0x75 (hex_due 3 f) ∷ []
rules (hex_due zero f) o = hex_rules (in_string f)
rules (hex_due (suc n) f) o = hex_rules (hex_due n f)
rules (tail_due p zero f) o = span (second_low p) (second_high p) (in_string f) ∷ []
rules (tail_due p (suc n) f) o = span (second_low p) (second_high p) (tail_due any_tail n f) ∷ []
rules (word_due b []) o = one b after ∷ []
rules (word_due b (b' ∷ bs)) o = one b (word_due b' bs) ∷ []
rules after_minus o = span 0x31 0x39 in_int ∷ one 0x30 after_zero ∷ []
rules after_zero o = one 0x2E after_point ∷ exponent_rules (after_rules o)
rules in_int o = span 0x30 0x39 in_int ∷ one 0x2E after_point ∷ exponent_rules (after_rules o)
rules after_point o = span 0x30 0x39 in_frac ∷ []
rules in_frac o = span 0x30 0x39 in_frac ∷ exponent_rules (after_rules o)
rules after_e o = span 0x30 0x39 in_exp ∷ one 0x2B after_sign ∷ one 0x2D after_sign ∷ []
rules after_sign o = span 0x30 0x39 in_exp ∷ []
rules in_exp o = span 0x30 0x39 in_exp ∷ after_rules o

unfoldable pub pick : List Rule → ℕ → Stack → Room → State
pick [] b k ρ = dead
pick (r ∷ rs) b k ρ = elim (takes r b) [ true ↦ apply r k ρ | false ↦ pick rs b k ρ ]

unfoldable pub step : State → ℕ → State
unfolding pick
step dead b = dead
step (at c k ρ) b = pick (rules c (top k)) b k ρ

unfoldable pub run : State → List ℕ → State
unfolding step
run st [] = st
run st (b ∷ s) = run (step st b) s

-- where a value may be at its end
abbrev pub final : Ctl → Bool
final (item x f) = false
final colon = false
final after = true
final (in_string f) = false
final (escaping f) = false
final (hex_due n f) = false
final (tail_due p n f) = false
final (word_due b bs) = false
final after_minus = false
final after_zero = true
final in_int = true
final after_point = false
final in_frac = true
final after_e = false
final after_sign = false
final in_exp = true

abbrev pub is_empty : Stack → Bool
is_empty [] = true
is_empty (x ∷ k) = false

abbrev pub accept : State → Bool
accept dead = false
accept (at c k ρ) = final c && is_empty k

abbrev pub start : Room → State
start ρ = at value_due [] ρ
