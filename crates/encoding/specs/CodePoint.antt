-- The code point from 80 (hexadecimal) on that a text begins with, read by the rows of UTF-8
-- (document 01, "UTF-8 is read by nine rows of permitted byte ranges").
use Rattle.std.specs.Prelude.{◌≡◌, List, [], ◌∷◌, Bool, true, false, ◌&&◌, ℕ, zero, suc, ◌+◌, ◌-◌, leb, length, drop}
use Rattle.encoding.specs.Utf8.{Wide, put_wide, Row, rows}

-- what stands at the start of a text
pub data Decoding : Type 0 where
  whole : ℕ → Decoding  -- a code point of so many bytes
  wrong : ℕ → Decoding  -- a byte with which, after so many bytes before it, no code point can begin
  short : Decoding  -- fewer bytes than a code point has that begins with them

-- the same with one byte more in front
abbrev pub later : Decoding → Decoding
later (whole n) = whole (suc n)
later (wrong k) = wrong (suc k)
later short = short

-- n bytes are due, the next one from lo to hi and the others from 80 to BF
unfoldable pub due : ℕ → ℕ → ℕ → List ℕ → Decoding
due lo hi zero s = whole 0
due lo hi (suc n) [] = short
due lo hi (suc n) (b ∷ s) = elim (leb lo b && leb b hi) [ true ↦ later (due 0x80 0xBF n s) | false ↦ wrong 0 ]

-- the first byte picks the row, which says what is due after it
unfoldable pub decode_by : List Row → List ℕ → Decoding
unfolding due
decode_by rs [] = short
decode_by [] (b ∷ s) = wrong 0
decode_by (r ∷ rs) (b ∷ s) =
    elim (leb r.low b && leb b r.high) [
      | true ↦ later (due r.second_low r.second_high (r.bytes - 1) s)
      | false ↦ decode_by rs (b ∷ s)
    ]

-- by the rows after the first
unfoldable pub decoding : List ℕ → Decoding
unfolding decode_by rows
decoding s = decode_by (drop 1 rows) s

-- a text that begins with a code point from 80 on
pub record StartsWide (s : List ℕ) : Type 0 where
  pub point : Wide
  pub after : List ℕ
  pub written : put_wide point after ≡ s

-- whether a code point stands there, and the bytes up to its end, up to the wrong byte, or up to the end of the text
abbrev pub is_whole : Decoding → Bool
is_whole (whole n) = true
is_whole (wrong k) = false
is_whole short = false

abbrev pub extent : List ℕ → Decoding → ℕ
extent s (whole n) = n
extent s (wrong k) = k
extent s short = length s

-- the answer to what is read at a place of s: ok and the place after it, or not ok and the place of the wrong byte, which is the length
-- where s ends too soon
pub record Scanned (read : List ℕ → Decoding) (s : List ℕ) (place : ℕ) (ok : Bool) (at : ℕ) : Type 0 where
  pub ok_whole : ok ≡ is_whole (read (drop place s))
  pub at_extent : at ≡ place + extent (drop place s) (read (drop place s))
