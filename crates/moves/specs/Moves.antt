-- The inside of a string by a table of moves: the word of a byte has six bits for each state of a reader, which are the state after the byte.
-- Where a table leads, the record grammar's machine goes; a table need not lead everywhere.
use Rattle.std.specs.Prelude.{◌≡◌, List, [], ◌∷◌, Bool, true, false, ◌&&◌, ℕ, ◌+◌, ◌*◌, ◌/◌, ◌%◌, ◌^◌, ◌≤◌, ◌<◌, leb, eqb, length, get_or, drop, map}
use Rattle.std.specs.Int.Bits.{bit_and, bit_or}
use Rattle.std.specs.List.{flat_map, zip}
use Rattle.encoding.specs.Utf8.{rows}
use Rattle.encoding.specs.RowTable.{stored}
use Rattle.encoding.specs.declared.tables.Row.{Row}
use Rattle.encoding.specs.Utf8Steps as U
use Rattle.encoding.specs.Utf8Steps.{Due, row_at}
use Rattle.json_text.specs.Room.{Room}
use Rattle.json_text.specs.Machine.{Ctl, in_string, escaping, tail_due, Stack, at, step}
use Rattle.encoding.specs.Utf8.{any_tail, after_e0, after_ed, after_f0, after_f4}
use Rattle.json_text.specs.Led.{Led}

-- what is due of a code point from 80 (hexadecimal) on, inside a string
abbrev pub tails : Due → Bool → Ctl
tails U.one f = tail_due any_tail 0 f
tails U.two f = tail_due any_tail 1 f
tails U.three f = tail_due any_tail 2 f
tails U.due_e0 f = tail_due after_e0 1 f
tails U.due_ed f = tail_due after_ed 1 f
tails U.due_f0 f = tail_due after_f0 2 f
tails U.due_f4 f = tail_due after_f4 2 f

-- where a reader of a string stands: between two characters, after a backslash, or inside a code point from 80 (hexadecimal) on
pub data Stand : Type 0 where
  between escape : Stand
  point : Due → Stand

abbrev pub inside : Stand → Bool → Ctl
inside between f = in_string f
inside escape f = escaping f
inside (point d) f = tails d f

-- its state: the first of its bits in a word, odd between two characters alone
abbrev pub state_of : Stand → ℕ
state_of (point U.one) = 6
state_of (point U.two) = 12
state_of (point U.three) = 18
state_of (point U.due_e0) = 24
state_of (point U.due_ed) = 30
state_of (point U.due_f0) = 36
state_of (point U.due_f4) = 42
state_of escape = 48
state_of between = 57

-- the machine goes from p to q by the byte b
abbrev pub Goes : (p : Stand) (b : ℕ) (q : Stand) → Type 0
Goes p b q = (f : Bool) (k : Stack) (ρ : Room) → step (at (inside p f) k ρ) b ≡ at (inside q f) k ρ

-- the bytes of a range lead from one stand to another
pub record Move : Type 0 where
  pub low : ℕ
  pub high : ℕ
  pub from : Stand
  pub to : Stand

abbrev pub move : ℕ → ℕ → Stand → Stand → Move
move l h p q = record { low = l; high = h; from = p; to = q }

-- a word x is added where it is due
abbrev pub or_if : Bool → (w x : ℕ) → ℕ
or_if true w x = bit_or w x
or_if false w x = w

-- the word of the byte b, with a move and with moves added
abbrev pub with_move : (low high from to b w : ℕ) → ℕ
with_move low high from to b w = or_if (leb low b && leb b high) w (to * 2 ^ from % 2 ^ 64)

unfoldable pub joined : List Move → (b w : ℕ) → ℕ
joined [] b w = w
joined (m ∷ ms) b w = joined ms b (with_move m.low m.high (state_of m.from) (state_of m.to) b w)

-- to the words of a table
pub record MoveAdded (low high from to : ℕ) (t t' : List ℕ) : Type 0 where
  pub long : length t' ≡ 256
  pub each : (b : ℕ) → b < 256 → get_or t' b 0 ≡ with_move low high from to b (get_or t b 0)

pub record Added (ms : List Move) (t t' : List ℕ) : Type 0 where
  pub long : length t' ≡ 256
  pub each : (b : ℕ) → b < 256 → get_or t' b 0 ≡ joined ms b (get_or t b 0)

-- bytes that stand for themselves, up to the last of the first row of UTF-8, and the backslash
unfoldable pub plain_moves : List Move
unfolding rows
plain_moves =
    move 0x20 0x21 between between ∷
    move 0x23 0x5B between between ∷
    move 0x5D (row_at rows 0).high between between ∷
    move 0x5C 0x5C between escape ∷ []

-- the letters that stand for one character after a backslash
abbrev pub escape_letters : List ℕ
escape_letters = 0x22 ∷ 0x5C ∷ 0x2F ∷ 0x62 ∷ 0x66 ∷ 0x6E ∷ 0x72 ∷ 0x74 ∷ []

abbrev pub letter : ℕ → List Move
letter b = move b b escape between ∷ []

unfoldable pub escape_moves : List Move
escape_moves = flat_map letter escape_letters

-- after the second of so many bytes
abbrev pub after_second_of : ℕ → Stand
after_second_of n = elim (eqb n 4) [ true ↦ point U.two | false ↦ elim (eqb n 3) [ true ↦ point U.one | false ↦ between ] ]

-- a row of UTF-8: the first byte leads to a stand, and the second byte on from there
abbrev pub row_moves : Row → Stand → List Move
row_moves r p = move r.low r.high between p ∷ move r.second_low r.second_high p (after_second_of r.bytes) ∷ []

pub record RowAdded (r : Row) (state : ℕ) (t t' : List ℕ) : Type 0 where
  pub long : length t' ≡ 256
  pub leads_to_lem : (p : Stand) → state ≡ state_of p → Added (row_moves r p) t t'

-- the rows after the first, and where the first bytes of each lead
abbrev pub wide_rows : List Row
wide_rows = drop 1 (map stored rows)

abbrev pub firsts : List Stand
firsts =
    point U.one ∷ point U.due_e0 ∷ point U.two ∷ point U.due_ed ∷ point U.two ∷ point U.due_f0 ∷ point U.three ∷ point U.due_f4 ∷ []

abbrev pub wide_moves : Row × Stand → List Move
wide_moves x = row_moves x.0 x.1

unfoldable pub point_moves : List Move
point_moves = flat_map wide_moves (zip wide_rows firsts)

-- the state after the byte b at the stand p: 0 for nowhere, or that of a stand to which the machine goes
pub data Followed (p : Stand) (b : ℕ) : ℕ → Type 0 where
  lost : Followed p b 0
  went : (q : Stand) → Goes p b q → Followed p b (state_of q)

-- the words of a table lead from each stand so, and from nowhere to nowhere
pub record Leads (t : List ℕ) : Type 0 where
  pub nowhere : (b : ℕ) → b < 256 → bit_and (get_or t b 0 / 2 ^ 0) 63 ≡ 0
  pub somewhere : (p : Stand) (b : ℕ) → b < 256 → Followed p b (bit_and (get_or t b 0 / 2 ^ state_of p) 63)

-- r is the state after the byte b in a state
pub record Follows (b state r : ℕ) : Type 0 where
  pub small : r < 64
  pub nowhere : state ≡ 0 → r ≡ 0
  pub somewhere : (p : Stand) → state ≡ state_of p → Followed p b r

-- the state at place j of s, after a stand between two characters at place i: nowhere, or that of a stand to which the machine has come
pub data Arrived (s : List ℕ) (i j : ℕ) : ℕ → Type 0 where
  lost : Arrived s i j 0
  came : (q : Stand) → ((f : Bool) → Led s i (in_string f) (inside q f) true j) → Arrived s i j (state_of q)

-- from place i to place r there are whole characters
pub record Characters (s : List ℕ) (i r : ℕ) : Type 0 where
  pub led : (f : Bool) → Led s i (in_string f) (in_string f) true r

-- a reader in the state at place i, which began at place a, and has read whole characters up to place e
pub record Reader (s : List ℕ) (a i state e : ℕ) : Type 0 where
  pub within : i ≤ length s
  pub whole : Characters s a e
  pub arrived : Arrived s a i state

-- the byte at place i takes each reader, wherever it began, from one state and end to others
pub record Passes (s : List ℕ) (i state e state' e' : ℕ) : Type 0 where
  pub on : (a : ℕ) → Reader s a i state e → Reader s a (i + 1) state' e'
