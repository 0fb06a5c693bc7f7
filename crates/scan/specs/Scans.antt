-- What the scanners promise: where a part of a checked record ends. Each says more only where the part stands there, and is safe on all bytes.
use Rattle.std.specs.Prelude.{◌≡◌, List, [], ◌∷◌, Bool, true, false, not, ℕ, ◌+◌, ◌-◌, ◌≤◌, length, drop}
use Rattle.std.proofs.Math.Seq.{slice}
use Rattle.encoding.specs.Bytes.{Blanks, put_blanks}
use Rattle.encoding.specs.Unescape.{NoBackslash}
use Rattle.json_text.specs.Grammar.{Char, Kind, array, object, Key, Value, literal, number, string, container, put_chars, put_key, put_value}
use Rattle.select.specs.Nodes.{size, key_size}
use Rattle.scan.specs.Shape.{ends_word_of, solid, stopped}

-- a byte that does not end a literal or a number
unfoldable pub is_word_byte : ℕ → Bool
unfolding ends_word_of
is_word_byte b = not (ends_word_of b)

abbrev pub IsScalar : Value → Type 0
IsScalar (literal l) = Unit {0}
IsScalar (number g n f e) = Unit {0}
IsScalar (string cs) = Unit {0}
IsScalar (container k is) = ⊥

-- the place after the blanks that stand at a
pub record EndsBlanks (s : List ℕ) (a r : ℕ) : Type 0 where
  pub onward : a ≤ r
  pub within : r ≤ length s
  pub exact : (w : Blanks) (rest : List ℕ) → drop a s ≡ put_blanks w rest → solid rest ≡ true → r ≡ a + length w

-- the place after the closing quote of a string whose opening quote stands just before a
pub record EndsString (s : List ℕ) (a r : ℕ) : Type 0 where
  pub onward : a ≤ r
  pub within : r ≤ length s
  pub exact : (cs : List Char) (rest : List ℕ) → drop a s ≡ put_chars cs (0x22 ∷ rest) → r ≡ a + length (put_chars cs []) + 1

-- the same of a name, and whether a backslash may be among its bytes
pub record EndsName (s : List ℕ) (a r : ℕ) (escaped : Bool) : Type 0 where
  pub ends : EndsString s a r
  pub bare : escaped ≡ false → NoBackslash (slice a (r - 1) s)

-- the place after a scalar
pub record EndsScalar (s : List ℕ) (a r : ℕ) : Type 0 where
  pub onward : a ≤ r
  pub within : r ≤ length s
  pub exact : (v : Value) (rest : List ℕ) → IsScalar v → drop a s ≡ put_value v rest → stopped rest ≡ true → r ≡ a + size v

abbrev pub kind_if : (is_object : Bool) → Kind
kind_if true = object
kind_if false = array

-- a member's name, as written, stands from place x to place y
abbrev pub NameAt : (k : Kind) → Key k → List ℕ → (x y : ℕ) → Type 0
NameAt array key s x y = Unit {0}
NameAt object key s x y = slice x y s ≡ put_chars key.chars []

-- it begins just after its opening quote, which stands at q
abbrev pub QuoteAt : (k : Kind) → (q x : ℕ) → Type 0
QuoteAt array q x = Unit {0}
QuoteAt object q x = x ≡ q + 1

-- the first byte of the value of an item that stands at a, where its name's bytes are, and whether a backslash may be among these
pub record EntersItem (s : List ℕ) (a : ℕ) (is_object : Bool) (v x y : ℕ) (escaped : Bool) : Type 0 where
  pub onward : a ≤ v
  pub within : v ≤ length s
  pub name_order : x ≤ y
  pub name_within : y ≤ length s
  pub exact : (w : Blanks) (key : Key (kind_if is_object)) (rest : List ℕ)
      → drop a s ≡ put_blanks w (put_key (kind_if is_object) key rest) → solid rest ≡ true
      → (v ≡ a + length w + key_size (kind_if is_object) key) × NameAt (kind_if is_object) key s x y
  pub quote : (w : Blanks) (key : Key (kind_if is_object)) (rest : List ℕ)
      → drop a s ≡ put_blanks w (put_key (kind_if is_object) key rest) → solid rest ≡ true → QuoteAt (kind_if is_object) (a + length w) x
  pub bare : escaped ≡ false → NoBackslash (slice x y s)
