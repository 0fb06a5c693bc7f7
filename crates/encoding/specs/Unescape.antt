-- The bytes of a name with its escapes decoded, as UTF-8: a function of all bytes, for the escapes of RFC 8259 §7 and of RFC 9535 §2.3.1.1
-- alike. Places past the end read as 0.
use Rattle.std.specs.Prelude.{◌≡◌, List, [], ◌∷◌, Bool, true, false, ◌&&◌, ℕ, zero, suc, ◌-◌, ltb, eqb, length, get_or, drop}
use Rattle.encoding.specs.Hex.{four_digits}
use Rattle.encoding.specs.Points.{if_else, is_high, is_low, joined, utf8, points_in, Utf8Of}

-- a hexadecimal digit by its byte; some number below 16 for any other byte
unfoldable pub hex_value : ℕ → ℕ
hex_value b = if_else (ltb b 0x3A) (b - 0x30) (if_else (ltb b 0x47) (b - 0x37) (if_else (ltb b 0x67) (b - 0x57) 0))

-- what a backslash and this byte stand for, where the byte is no `u`: a control for b, f, n, r and t, and any other byte for itself
unfoldable pub short_point_of : ℕ → ℕ
short_point_of b =
    if_else (eqb b 0x62) 0x08
    (if_else (eqb b 0x66) 0x0C
    (if_else (eqb b 0x6E) 0x0A
    (if_else (eqb b 0x72) 0x0D
    (if_else (eqb b 0x74) 0x09 b))))

-- s begins with a backslash and a `u`: the number of its four digits
unfoldable pub unit_at : List ℕ → ℕ
unfolding hex_value
unit_at s = four_digits (hex_value (get_or s 2 0)) (hex_value (get_or s 3 0)) (hex_value (get_or s 4 0)) (hex_value (get_or s 5 0))

-- s begins with a backslash, a `u` and a low half
unfoldable pub low_at_of : List ℕ → Bool
unfolding unit_at
low_at_of s = eqb (get_or s 0 0) 0x5C && (eqb (get_or s 1 0) 0x75 && is_low (unit_at s))

-- s begins with a backslash and a `u`: a high half, with a low half right behind it
unfoldable pub pair_at : List ℕ → Bool
unfolding unit_at low_at_of
pair_at s = is_high (unit_at s) && low_at_of (drop 6 s)

-- s begins with a backslash: what the escape stands for, and how many bytes it has

unfoldable pub point_at : List ℕ → ℕ
unfolding short_point_of unit_at pair_at
point_at s =
    if_else (eqb (get_or s 1 0) 0x75)
    (if_else (pair_at s) (joined (unit_at s) (unit_at (drop 6 s))) (unit_at s))
    (short_point_of (get_or s 1 0))

unfoldable pub size_at : List ℕ → ℕ
unfolding pair_at
size_at s = if_else (eqb (get_or s 1 0) 0x75) (if_else (pair_at s) 12 6) 2

-- in at most n turns
unfoldable pub unescaped_in : ℕ → List ℕ → List ℕ
unfolding utf8 point_at size_at
unescaped_in zero s = []
unescaped_in (suc n) [] = []
unescaped_in (suc n) (b ∷ s) =
    elim (eqb b 0x5C) [
      | true ↦ utf8 (point_at (b ∷ s)) (unescaped_in n (drop (size_at (b ∷ s)) (b ∷ s)))
      | false ↦ b ∷ unescaped_in n s
    ]

unfoldable pub unescaped : List ℕ → List ℕ
unfolding unescaped_in
unescaped s = unescaped_in (length s) s

-- the code points that a name's bytes stand for
unfoldable pub spelt : List ℕ → List ℕ
unfolding unescaped points_in
spelt s = points_in (unescaped s)

-- the bytes of a name spell these code points
pub record Spells (s points : List ℕ) : Type 0 where
  pub decoded : Utf8Of (unescaped s) points

-- no backslash is among the bytes
pub data NoBackslash : List ℕ → Type 0 where
  none : NoBackslash []
  more : {b : ℕ} {s : List ℕ} → (b ≡ 0x5C → ⊥) → NoBackslash s → NoBackslash (b ∷ s)
