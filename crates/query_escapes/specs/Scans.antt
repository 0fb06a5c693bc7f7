-- What the scan of an escape says: the character of the grammar that stands there, or the place of the dead byte; and the same of its parts.
use Rattle.std.specs.Prelude.{◌≡◌, List, ◌∷◌, Bool, true, false, ℕ, ◌-◌, ◌≤◌, ◌<◌, Option, Some, None, Result, Ok, Err, length, get_or, drop}
use Rattle.encoding.specs.declared.Dead.{Dead}
use Rattle.encoding.specs.Hex.{Hex, hex_byte}
use Rattle.query.specs.Escapes.{D, CToF, HexChar, d_byte, c_to_f_byte, put_hex_char}
use Rattle.query.specs.Grammar.{Quote, quote_byte, Char, put_char}
use Rattle.query.specs.Machine.{Due, kind, in_escape}
use Rattle.query.specs.Read.{bad, reading}

-- a place in the query, beyond `at` where a scan went on
pub record Moved (q : List ℕ) (at : ℕ) (ok : Bool) (r : ℕ) : Type 0 where
  pub within : r ≤ length q
  pub on : ok ≡ true → at < r

-- what follows the backslash of an escape, in a name between two of `quote`
pub record Escaped (q : List ℕ) (quote at : ℕ) (ok : Bool) (r : ℕ) : Type 0 where
  pub moved : Moved q at ok r
  pub stands : ok ≡ true → (x : Quote) → quote ≡ quote_byte x → (c : Char x) × (put_char c (drop r q) ≡ 0x5C ∷ drop at q)
  pub dead : ok ≡ false → (x : Quote) → quote ≡ quote_byte x → reading (in_escape kind x) at (drop at q) ≡ bad r

-- what a byte stands for as a hexadecimal digit, where it is one
pub data HexIs (b : ℕ) : Option ℕ → Type 0 where
  digit : {v : ℕ} → 0x30 ≤ b → b ≤ 0x39 → v ≡ b - 0x30 → HexIs b (Some v)
  upper : {v : ℕ} → 0x41 ≤ b → b ≤ 0x46 → v ≡ b - 0x37 → HexIs b (Some v)
  lower : {v : ℕ} → 0x61 ≤ b → b ≤ 0x66 → v ≡ b - 0x57 → HexIs b (Some v)
  none : (0x30 ≤ b → b ≤ 0x39 → ⊥) → (0x41 ≤ b → b ≤ 0x46 → ⊥) → (0x61 ≤ b → b ≤ 0x66 → ⊥) → HexIs b None

-- the byte at a place of the query, or that the query ends before it
abbrev pub ByteAt : List ℕ → ℕ → Result ℕ Dead → Type 0
ByteAt q at (Ok b) = (at < length q) × (b ≡ get_or q at 0)
ByteAt q at (Err dead) = (length q ≤ at) × (dead.at ≡ at)

-- what the byte there stands for as a hexadecimal digit, or that it is none
abbrev pub HexAt : List ℕ → ℕ → Result ℕ Dead → Type 0
HexAt q at (Ok v) = (at < length q) × HexIs (get_or q at 0) (Some v)
HexAt q at (Err dead) = HexIs (get_or q at 0) None × (dead.at ≡ at)

-- a part of an escape, from where its byte d is due; what stands there is said of the query behind it and of the query from `at` on
pub record Part (Stands : List ℕ → List ℕ → Type 0) (d : Due) (q : List ℕ) (at : ℕ) (ok : Bool) (r : ℕ) : Type 0 where
  pub moved : Moved q at ok r
  pub stands : ok ≡ true → Stands (drop r q) (drop at q)
  pub dead : ok ≡ false → (x : Quote) → reading (in_escape d x) at (drop at q) ≡ bad r

-- what stands in s, with `rest` behind it: the last two digits, and the last three
abbrev pub TwoDigits : List ℕ → List ℕ → Type 0
TwoDigits rest s = (z : Hex) × (w : Hex) × (hex_byte z ∷ hex_byte w ∷ rest ≡ s)

abbrev pub ThreeDigits : List ℕ → List ℕ → Type 0
ThreeDigits rest s = (y : Hex) × (z : Hex) × (w : Hex) × (hex_byte y ∷ hex_byte z ∷ hex_byte w ∷ rest ≡ s)

-- the digits of a low half
abbrev pub Low : Type 0
Low = D × CToF × Hex × Hex

abbrev pub put_low : Low → List ℕ → List ℕ
put_low (x, y, z, w) s = d_byte x ∷ c_to_f_byte y ∷ hex_byte z ∷ hex_byte w ∷ s

abbrev pub LowDigits : List ℕ → List ℕ → Type 0
LowDigits rest s = (l : Low) × (put_low l rest ≡ s)

-- a low half; and the last two digits of a high half with it
abbrev pub LowHalf : List ℕ → List ℕ → Type 0
LowHalf rest s = (l : Low) × (0x5C ∷ 0x75 ∷ put_low l rest ≡ s)

abbrev pub HighDigits : List ℕ → List ℕ → Type 0
HighDigits rest s = (z : Hex) × (w : Hex) × (l : Low) × (hex_byte z ∷ hex_byte w ∷ 0x5C ∷ 0x75 ∷ put_low l rest ≡ s)

-- what follows `\uD`, and what follows `\u`
abbrev pub BehindD : List ℕ → List ℕ → Type 0
BehindD rest s = (x : D) → (h : HexChar) × (put_hex_char h rest ≡ d_byte x ∷ s)

abbrev pub BehindU : List ℕ → List ℕ → Type 0
BehindU rest s = (h : HexChar) × (put_hex_char h rest ≡ s)
