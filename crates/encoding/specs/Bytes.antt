-- Bytes by their ranges, and blanks: what both grammars are written with.
use Rattle.std.specs.Prelude.{List, [], ◌∷◌, Bool, true, false, ◌&&◌, ℕ, T, leb, eqb}

-- a byte of a range, as ABNF's %xLO-HI
pub record In (lo hi : ℕ) : Type 0 where
  pub byte : ℕ
  pub ok : T (leb lo byte && leb byte hi)

-- the bytes of a list of such bytes, with s after them
unfoldable pub put_in : {lo hi : ℕ} → List (In lo hi) → List ℕ → List ℕ
put_in [] s = s
put_in (b ∷ bs) s = b.byte ∷ put_in bs s

-- a blank: the four bytes of `ws` (RFC 8259 §2) and of `B` (RFC 9535 §2.1.1)
pub data Blank : Type 0 where
  space tab feed return : Blank

abbrev pub blank_byte : Blank → ℕ
blank_byte space = 0x20
blank_byte tab = 0x09
blank_byte feed = 0x0A
blank_byte return = 0x0D

-- blanks, as many as one likes
abbrev pub Blanks : Type 0
Blanks = List Blank

-- the bytes of blanks, with s after them
unfoldable pub put_blanks : Blanks → List ℕ → List ℕ
put_blanks [] s = s
put_blanks (b ∷ bs) s = blank_byte b ∷ put_blanks bs s

-- the same numbers in the same order: bytes, or code points
unfoldable pub same_numbers : List ℕ → List ℕ → Bool
same_numbers [] [] = true
same_numbers [] (c ∷ u) = false
same_numbers (b ∷ s) [] = false
same_numbers (b ∷ s) (c ∷ u) = eqb b c && same_numbers s u
