-- What a scan of a query says: the part of the grammar that stands there, with the query from behind it on, and how the reading goes on.
use Rattle.std.specs.Prelude.{◌≡◌, List, Bool, true, false, ℕ, ◌+◌, ◌-◌, ◌*◌, ◌≤◌, ◌<◌, Option, Some, None, length, get_or, drop}
use Rattle.std.proofs.Math.Seq.{slice}
use Rattle.encoding.specs.Bytes.{Blank, Blanks, blank_byte, put_blanks}
use Rattle.query.specs.Grammar.{First, Later, Char, Quote, quote_byte, Depth, plain, deep, put_first, put_later, put_laters, put_char, put_chars}
use Rattle.query.specs.Grammar.{Position, put_position, position_of, max_position}
use Rattle.query.specs.Machine.{Control, dotted, opened, closing, inside, short, quoted, done}
use Rattle.query.specs.Read.{position, Reading, bad, note, reading}
use Rattle.query.proofs.Positions.{NoMore}
use Rattle.query.proofs.Spell.{spell}
use Rattle.query_escapes.specs.Scans.{Moved}

-- whether a byte is a blank
pub data BlankIs (b : ℕ) : Bool → Type 0 where
  blank : (x : Blank) → b ≡ blank_byte x → BlankIs b true
  other : ((x : Blank) → b ≡ blank_byte x → ⊥) → BlankIs b false

-- whether a byte below 80 may stand in a shorthand name: ALPHA, DIGIT, "_"
pub data NameByteIs (b : ℕ) : Bool → Type 0 where
  digit : 0x30 ≤ b → b ≤ 0x39 → NameByteIs b true
  upper : 0x41 ≤ b → b ≤ 0x5A → NameByteIs b true
  underscore : b ≡ 0x5F → NameByteIs b true
  lower : 0x61 ≤ b → b ≤ 0x7A → NameByteIs b true
  below_digits : b < 0x30 → NameByteIs b false
  below_upper : 0x39 < b → b < 0x41 → NameByteIs b false
  between_cases : 0x5A < b → (b ≡ 0x5F → ⊥) → b < 0x61 → NameByteIs b false
  above_lower : 0x7A < b → NameByteIs b false

-- from `at` to r stand blanks, and at r none
pub record Skipped (q : List ℕ) (at r : ℕ) : Type 0 where
  pub from : at ≤ r
  pub within : r ≤ length q
  pub stand : (w : Blanks) × (put_blanks w (drop r q) ≡ drop at q)
  pub next : r < length q → BlankIs (get_or q r 0) false

-- ok: letters of a name stand from `at` up to r, where the control state is k; not ok: the byte at r is dead
abbrev pub spelt : List ℕ → Control → ℕ → Bool → ℕ → Reading
spelt q k at true r = spell (slice at r q) (reading k r (drop r q))
spelt q k at false r = bad r

-- what `.` and `..` may stand before that is no name: `*`, and `.` or `[`
abbrev pub deeper_byte : Depth → ℕ
deeper_byte plain = 0x2E
deeper_byte deep = 0x5B

pub record NoName (d : Depth) (b : ℕ) : Type 0 where
  pub no_star : b ≡ 0x2A → ⊥
  pub no_deeper : b ≡ deeper_byte d → ⊥

-- one character of a shorthand name at `at`; not ok also where a byte below 80 ends the name
pub record NameChar (q : List ℕ) (at : ℕ) (ok : Bool) (r : ℕ) : Type 0 where
  pub moved : Moved q at ok r
  pub stands : ok ≡ true → (c : Later) × (put_later c (drop r q) ≡ drop at q)
  pub no_first : ok ≡ false → (d : Depth) → NoName d (get_or q at 0) → (0x30 ≤ get_or q at 0 → get_or q at 0 ≤ 0x39 → ⊥) →
      reading (dotted d) at (drop at q) ≡ bad r
  pub dead : ok ≡ false → 0x80 ≤ get_or q at 0 → reading (inside short) at (drop at q) ≡ bad r
  pub over : ok ≡ false → get_or q at 0 < 0x80 → reading (inside short) at (drop at q) ≡ reading done at (drop at q)

-- the first character of a shorthand name
pub record FirstChar (q : List ℕ) (at : ℕ) (ok : Bool) (r : ℕ) : Type 0 where
  pub moved : Moved q at ok r
  pub stands : ok ≡ true → (x : First) × (put_first x (drop r q) ≡ drop at q)
  pub dead : ok ≡ false → (d : Depth) → NoName d (get_or q at 0) → reading (dotted d) at (drop at q) ≡ bad r

-- a whole shorthand name, after which a step is done
pub record ShortName (q : List ℕ) (at : ℕ) (ok : Bool) (r : ℕ) : Type 0 where
  pub moved : Moved q at ok r
  pub stands : ok ≡ true → (x : First) × (cs : List Later) × (put_first x (put_laters cs (drop r q)) ≡ drop at q)
  pub reads : (d : Depth) → NoName d (get_or q at 0) → reading (dotted d) at (drop at q) ≡ spelt q done at ok r

-- one character, which is not its quote, of a name between two of `quote`
pub record QuotedChar (q : List ℕ) (quote at : ℕ) (ok : Bool) (r : ℕ) : Type 0 where
  pub moved : Moved q at ok r
  pub stands : ok ≡ true → (x : Quote) → quote ≡ quote_byte x → (get_or q at 0 ≡ quote → ⊥) → (c : Char x) × (put_char c (drop r q) ≡ drop at q)
  pub dead : ok ≡ false → (x : Quote) → quote ≡ quote_byte x → (get_or q at 0 ≡ quote → ⊥) → reading (inside (quoted x)) at (drop at q) ≡ bad r

-- the rest of a quoted name, up to its closing quote
pub record QuotedName (q : List ℕ) (quote at : ℕ) (ok : Bool) (r : ℕ) : Type 0 where
  pub within : r ≤ length q
  pub closed : ok ≡ true → (at ≤ r) × (r < length q) × (get_or q r 0 ≡ quote)
  pub stand : ok ≡ true → (x : Quote) → quote ≡ quote_byte x → (cs : List (Char x)) × (put_chars cs (drop r q) ≡ drop at q)
  pub reads : (x : Quote) → quote ≡ quote_byte x → reading (inside (quoted x)) at (drop at q) ≡ spelt q (inside (quoted x)) at ok r

-- DIGIT
pub record IsDigit (b : ℕ) : Type 0 where
  pub low : 0x30 ≤ b
  pub high : b ≤ 0x39

-- whether a byte is one
pub data DigitIs (b : ℕ) : Bool → Type 0 where
  is_digit : IsDigit b → DigitIs b true
  no_digit : (0x30 ≤ b → b ≤ 0x39 → ⊥) → DigitIs b false

-- what a position becomes with b as one digit more, behind those that stand for v, where b is one
pub data LeadsOn (v b : ℕ) : Option ℕ → Type 0 where
  more : {w : ℕ} → 0 < v → IsDigit b → w ≡ v * 10 + (b - 0x30) → w ≤ max_position → LeadsOn v b (Some w)
  none : NoMore v b → LeadsOn v b None

-- the position whose first digit stands at `at`: its digits up to r, which stand for v. Behind them it is whole: what is read from its first
-- digit on is what is read where the brackets are to be closed, and that the step takes position v.
pub record PositionAt (q : List ℕ) (at r v : ℕ) : Type 0 where
  pub on : at < r
  pub within : r ≤ length q
  pub stands : (p : Position) × (put_position p (drop r q) ≡ drop at q) × (position_of p ≡ v)
  pub small : v ≤ max_position
  pub reads : reading opened at (drop at q) ≡ note (position v) 0 0 (reading closing r (drop r q))
