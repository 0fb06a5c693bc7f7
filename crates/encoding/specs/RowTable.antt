-- The nine rows of UTF-8 as a table: five numbers for each (document 01, "UTF-8 is read by nine rows of permitted byte ranges").
use Rattle.std.specs.Prelude.{◌≡◌, Bool, true, false, ℕ, ◌-◌, ◌≤◌, ◌<◌, List, ◌∷◌, map, Option, Some, None}
use Rattle.std.proofs.Common.{arith}
use Rattle.encoding.specs.declared.tables.Row.{Row as Stored}
use Rattle.encoding.specs.Utf8.{Row, rows}
use Rattle.encoding.specs.CodePoint.{whole, wrong, later, due, decode_by, decoding}
use Rattle.encoding.specs.Utf8Steps.{row_at, row_hit}

-- a row as it stands in the table
abbrev pub stored : Row → Stored
stored r = record { low = r.low; high = r.high; second_low = r.second_low; second_high = r.second_high; bytes = r.bytes }

-- the table has the rows, each in its place
pub record RowTable (table : List Stored) : Type 0 where
  pub same : table ≡ map stored rows

-- of a row of the table: it has b as a first byte, and says what is due after it
pub record HasFirst (b : ℕ) (r : Stored) : Type 0 where
  pub some : 1 ≤ r.bytes
  pub reads : (s : List ℕ) → decoding (b ∷ s) ≡ later (due r.second_low r.second_high (r.bytes - 1) s)

-- the row, after the first, that has b as a first byte, or none where none has
abbrev pub RowFor : ℕ → Option Stored → Type 0
RowFor b (Some r) = HasFirst b r
RowFor b None = (s : List ℕ) → decoding (b ∷ s) ≡ wrong 0

-- whether b is a code point of one byte: one that the nine rows read whole, and below 80
pub data Narrow (b : ℕ) : Bool → Type 0 where
  one_byte : b < 0x80 → ((s : List ℕ) → decode_by rows (b ∷ s) ≡ whole 1) → Narrow b true
  more_bytes : 0x80 ≤ b → Narrow b false

module _ {b : ℕ} {r : Bool} (n : Narrow b r) where
  pub narrow_below : r ≡ true → b < 0x80
  narrow_below e = by (rw e at n)
    where
      by : Narrow b true → b < 0x80
      by (one_byte l s) = l

  pub narrow_above : r ≡ false → 0x80 ≤ b
  narrow_above e = by (rw e at n)
    where
      by : Narrow b false → 0x80 ≤ b
      by (more_bytes h) = h

-- the first row has every byte below 80 and no other, and nothing is due after one
module _ {b : ℕ} where
  pub under_first : b < (row_at rows 0).low → {r : Bool} → Narrow b r
  unfolding rows
  under_first l = absurd (omega arith)

  pub over_first : (row_at rows 0).high < b → Narrow b false
  unfolding rows
  over_first u = more_bytes (omega arith)

  pub in_first : (row_at rows 0).low ≤ b → b ≤ (row_at rows 0).high → Narrow b true
  unfolding rows due
  in_first l u = one_byte (omega arith) (λ s. row_hit b s 0 rows (omega arith) l u)
