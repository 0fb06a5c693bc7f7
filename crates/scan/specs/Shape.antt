-- How texts of the record grammar look to a scanner: what no blank begins, what ends a word, and where a string's quotes are.
use Rattle.std.specs.Prelude.{◌≡◌, List, [], ◌∷◌, Bool, true, false, not, ◌&&◌, ◌||◌, ℕ, eqb}
use Rattle.encoding.specs.Class.{class_of}
use Rattle.lanes.specs.Kinds.{gap}

-- a byte that ends a literal or a number: a closing bracket, a comma or a blank
unfoldable pub ends_word_of : ℕ → Bool
unfolding class_of
ends_word_of b = eqb (class_of b) 2 || (eqb (class_of b) 4 || eqb (class_of b) 7)

-- no blank stands first, nor another byte up to the space
unfoldable pub solid : List ℕ → Bool
unfolding gap
solid [] = true
solid (b ∷ s) = not (gap b)

-- a byte stands first that closes no container
unfoldable pub starts : List ℕ → Bool
unfolding class_of
starts [] = false
starts (b ∷ s) = not (eqb (class_of b) 2)

-- a word that stands before this text ends there
unfoldable pub stopped : List ℕ → Bool
unfolding ends_word_of
stopped [] = true
stopped (b ∷ s) = ends_word_of b

-- bytes none of which ends a word
unfoldable pub wordy : List ℕ → Bool
unfolding ends_word_of
wordy [] = true
wordy (b ∷ s) = not (ends_word_of b) && wordy s

-- a piece of a string's inside: a byte that is neither quote nor backslash, or a backslash with the byte after it
pub data Piece : Type 0 where
  plain : (b : ℕ) → (eqb b 0x22 || eqb b 0x5C) ≡ false → Piece
  escaped : ℕ → Piece

unfoldable pub put_pieces : List Piece → List ℕ → List ℕ
put_pieces [] s = s
put_pieces (plain b h ∷ ps) s = b ∷ put_pieces ps s
put_pieces (escaped b ∷ ps) s = 0x5C ∷ b ∷ put_pieces ps s
