-- UTF-8 (RFC 3629 §4) by the nine rows of document 01, "Words of 64 bits".
use Rattle.std.specs.Prelude.{List, [], ◌∷◌, ℕ}
use Rattle.encoding.specs.Bytes.{In}

-- UTF8-tail
abbrev pub Tail : Type 0
Tail = In 0x80 0xBF

-- a code point from 80 (hexadecimal) on: the rows after the first
pub data Wide : Type 0 where
  c2_df : In 0xC2 0xDF → Tail → Wide
  e0 : In 0xE0 0xE0 → In 0xA0 0xBF → Tail → Wide
  e1_ec : In 0xE1 0xEC → Tail → Tail → Wide
  ed : In 0xED 0xED → In 0x80 0x9F → Tail → Wide
  ee_ef : In 0xEE 0xEF → Tail → Tail → Wide
  f0 : In 0xF0 0xF0 → In 0x90 0xBF → Tail → Tail → Wide
  f1_f3 : In 0xF1 0xF3 → Tail → Tail → Tail → Wide
  f4 : In 0xF4 0xF4 → In 0x80 0x8F → Tail → Tail → Wide

-- the bytes of the code point, with s after them
unfoldable pub put_wide : Wide → List ℕ → List ℕ
put_wide (c2_df x y) s = x.byte ∷ y.byte ∷ s
put_wide (e0 x y z) s = x.byte ∷ y.byte ∷ z.byte ∷ s
put_wide (e1_ec x y z) s = x.byte ∷ y.byte ∷ z.byte ∷ s
put_wide (ed x y z) s = x.byte ∷ y.byte ∷ z.byte ∷ s
put_wide (ee_ef x y z) s = x.byte ∷ y.byte ∷ z.byte ∷ s
put_wide (f0 x y z w) s = x.byte ∷ y.byte ∷ z.byte ∷ w.byte ∷ s
put_wide (f1_f3 x y z w) s = x.byte ∷ y.byte ∷ z.byte ∷ w.byte ∷ s
put_wide (f4 x y z w) s = x.byte ∷ y.byte ∷ z.byte ∷ w.byte ∷ s

-- what may follow the first byte of a code point from 80 (hexadecimal) on: any byte of 80-BF, or fewer after E0, ED, F0, F4
pub data Second : Type 0 where
  any_tail after_e0 after_ed after_f0 after_f4 : Second

abbrev pub second_low : Second → ℕ
second_low any_tail = 0x80
second_low after_e0 = 0xA0
second_low after_ed = 0x80
second_low after_f0 = 0x90
second_low after_f4 = 0x80

abbrev pub second_high : Second → ℕ
second_high any_tail = 0xBF
second_high after_e0 = 0xBF
second_high after_ed = 0x9F
second_high after_f0 = 0xBF
second_high after_f4 = 0x8F

-- a row as numbers: the bounds of the first byte, those of the second, and how many bytes there are in all;
-- each byte after the second is from 80 to BF
pub record Row : Type 0 where
  pub low : ℕ
  pub high : ℕ
  pub second_low : ℕ
  pub second_high : ℕ
  pub bytes : ℕ

abbrev pub row : ℕ → ℕ → ℕ → ℕ → ℕ → Row
row l h l₂ h₂ n = record { low = l; high = h; second_low = l₂; second_high = h₂; bytes = n }

-- the nine rows; the first has no second byte
unfoldable pub rows : List Row
rows =
    row 0x00 0x7F 0x00 0x00 1 ∷
    row 0xC2 0xDF 0x80 0xBF 2 ∷
    row 0xE0 0xE0 0xA0 0xBF 3 ∷
    row 0xE1 0xEC 0x80 0xBF 3 ∷
    row 0xED 0xED 0x80 0x9F 3 ∷
    row 0xEE 0xEF 0x80 0xBF 3 ∷
    row 0xF0 0xF0 0x90 0xBF 4 ∷
    row 0xF1 0xF3 0x80 0xBF 4 ∷
    row 0xF4 0xF4 0x80 0x8F 4 ∷ []
