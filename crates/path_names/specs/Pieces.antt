-- What a single code point of a name, or a single byte of it, is written as between the quotes of a normalized path.
use Rattle.std.specs.Prelude.{◌≡◌, List, [], ◌∷◌, Option, Some, None, ℕ, ◌+◌, ◌/◌, ◌%◌}
use Rattle.encoding.specs.Points.{utf8}
use Rattle.paths.specs.Normalized.{Escapable, escapable_point, escapable_byte}
use Rattle.paths.specs.Rendered.{hex_lower_of, rendered}

unfoldable pub point_piece : ℕ → List ℕ
unfolding rendered utf8
point_piece n = rendered n (utf8 n []) []

unfoldable pub byte_piece : ℕ → List ℕ
unfolding rendered
byte_piece b = rendered b (b ∷ []) []

-- a control that no letter names
unfoldable pub control_piece : ℕ → List ℕ
unfolding hex_lower_of
control_piece n = 0x5C ∷ 0x75 ∷ 0x30 ∷ 0x30 ∷ (0x30 + n / 16) ∷ hex_lower_of (n % 16) ∷ []

-- the byte behind the backslash of an escape of two bytes, or that a code point has no such escape
pub data Letter (n : ℕ) : Option ℕ → Type 0 where
  named : (x : Escapable) → n ≡ escapable_point x → Letter n (Some (escapable_byte x))
  nameless : ((x : Escapable) → n ≡ escapable_point x → ⊥) → Letter n None
