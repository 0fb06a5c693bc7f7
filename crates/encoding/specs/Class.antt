-- The class of a byte (document 01, "The class of every byte").
use Rattle.std.specs.Prelude.{List, [], ◌∷◌, true, false, ℕ, eqb}

pub record Entry : Type 0 where
  pub byte : ℕ
  pub class : ℕ

-- the bytes that have a class of their own
abbrev pub entries : List Entry
entries =
    record { byte = 0x5B; class = 1 } ∷ record { byte = 0x7B; class = 1 } ∷
    record { byte = 0x5D; class = 2 } ∷ record { byte = 0x7D; class = 2 } ∷
    record { byte = 0x3A; class = 3 } ∷ record { byte = 0x2C; class = 4 } ∷
    record { byte = 0x22; class = 5 } ∷ record { byte = 0x5C; class = 6 } ∷
    record { byte = 0x20; class = 7 } ∷ record { byte = 0x09; class = 7 } ∷
    record { byte = 0x0A; class = 7 } ∷ record { byte = 0x0D; class = 7 } ∷ []

unfoldable pub class_in : List Entry → ℕ → ℕ
class_in [] b = 0
class_in (x ∷ xs) b = elim (eqb x.byte b) [ true ↦ x.class | false ↦ class_in xs b ]

-- 1 opening bracket, 2 closing, 3 colon, 4 comma, 5 quote, 6 backslash, 7 blank, 0 all others
unfoldable pub class_of : ℕ → ℕ
unfolding class_in
class_of b = class_in entries b
