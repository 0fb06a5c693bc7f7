-- Code points: the one that a sequence of the nine rows is, all of them in UTF-8 and back, and the halves of a surrogate pair.
use Rattle.std.specs.Prelude.{◌≡◌, List, [], ◌∷◌, Bool, true, false, ◌&&◌, ℕ, zero, suc, ◌+◌, ◌-◌, ◌*◌, ◌/◌, ◌%◌, ◌<◌, ◌≤◌, leb, ltb}
use Rattle.encoding.specs.Utf8.{Wide, c2_df, e0, e1_ec, ed, ee_ef, f0, f1_f3, f4}

abbrev pub if_else : {A : Type 0} → Bool → A → A → A
if_else true a b = a
if_else false a b = b

-- RFC 3629 §3: the code point that two, three or four bytes are, six bits in each byte after the first

abbrev pub of_two : ℕ → ℕ → ℕ
of_two x y = (x - 0xC0) * 64 + (y - 0x80)

abbrev pub of_three : ℕ → ℕ → ℕ → ℕ
of_three x y z = (x - 0xE0) * 4096 + (y - 0x80) * 64 + (z - 0x80)

abbrev pub of_four : ℕ → ℕ → ℕ → ℕ → ℕ
of_four x y z w = (x - 0xF0) * 262144 + (y - 0x80) * 4096 + (z - 0x80) * 64 + (w - 0x80)

unfoldable pub point_of : Wide → ℕ
point_of (c2_df x y) = of_two x.byte y.byte
point_of (e0 x y z) = of_three x.byte y.byte z.byte
point_of (e1_ec x y z) = of_three x.byte y.byte z.byte
point_of (ed x y z) = of_three x.byte y.byte z.byte
point_of (ee_ef x y z) = of_three x.byte y.byte z.byte
point_of (f0 x y z w) = of_four x.byte y.byte z.byte w.byte
point_of (f1_f3 x y z w) = of_four x.byte y.byte z.byte w.byte
point_of (f4 x y z w) = of_four x.byte y.byte z.byte w.byte

-- the halves of a surrogate pair, which are no code points of their own, and the code point that a high one and a low one are together

abbrev pub is_high : ℕ → Bool
is_high u = leb 0xD800 u && leb u 0xDBFF

abbrev pub is_low : ℕ → Bool
is_low u = leb 0xDC00 u && leb u 0xDFFF

abbrev pub joined : ℕ → ℕ → ℕ
joined u v = 0x10000 + (u - 0xD800) * 0x400 + (v - 0xDC00)

-- some half is among them
pub data HasHalf : List ℕ → Type 0 where
  here : {n : ℕ} {ns : List ℕ} → 0xD800 ≤ n → n ≤ 0xDFFF → HasHalf (n ∷ ns)
  there : {n : ℕ} {ns : List ℕ} → HasHalf ns → HasHalf (n ∷ ns)

-- each is a code point or a half
pub data Ranged : List ℕ → Type 0 where
  none : Ranged []
  more : {n : ℕ} {ns : List ℕ} → n < 0x110000 → Ranged ns → Ranged (n ∷ ns)

-- a code point in UTF-8, with s after it; of a half what the same rule gives, which is the UTF-8 of no code point
unfoldable pub utf8 : ℕ → List ℕ → List ℕ
utf8 n s =
    if_else (ltb n 0x80)
    (n ∷ s)
    (if_else (ltb n 0x800)
    ((0xC0 + n / 64) ∷ (0x80 + n % 64) ∷ s)
    (if_else (ltb n 0x10000)
    ((0xE0 + n / 4096) ∷ (0x80 + n / 64 % 64) ∷ (0x80 + n % 64) ∷ s)
    ((0xF0 + n / 262144) ∷ (0x80 + n / 4096 % 64) ∷ (0x80 + n / 64 % 64) ∷ (0x80 + n % 64) ∷ s)))

unfoldable pub utf8s : List ℕ → List ℕ
unfolding utf8
utf8s [] = []
utf8s (n ∷ ns) = utf8 n (utf8s ns)

-- and back: so many bytes of a code point are due, and those before them came to a
unfoldable pub points_due : List ℕ → (due a : ℕ) → List ℕ
points_due [] d a = []
points_due (b ∷ s) zero a =
    if_else (ltb b 0x80)
    (b ∷ points_due s 0 0)
    (if_else (ltb b 0xE0)
    (points_due s 1 (b - 0xC0))
    (if_else (ltb b 0xF0) (points_due s 2 (b - 0xE0)) (points_due s 3 (b - 0xF0))))
points_due (b ∷ s) (suc zero) a = (a * 64 + (b - 0x80)) ∷ points_due s 0 0
points_due (b ∷ s) (suc (suc d)) a = points_due s (suc d) (a * 64 + (b - 0x80))

unfoldable pub points_in : List ℕ → List ℕ
unfolding points_due
points_in s = points_due s 0 0

-- the bytes are those of the code points
pub record Utf8Of (s points : List ℕ) : Type 0 where
  pub written : s ≡ utf8s points
  pub ranged : Ranged points
