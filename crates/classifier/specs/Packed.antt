-- What the classifier and its parts promise: bits that change places, flags that are packed four to a byte, and the word of each class.
use Rattle.std.specs.Prelude.{◌≡◌, Bool, false, cond, ◌&&◌, List, ℕ, ◌+◌, ◌-◌, ◌*◌, ◌%◌, ◌<◌, eqb, leb, length}
use Rattle.bits.specs.Bits.{bit}
use Rattle.classifier.specs.Classes.{byte_at, is_quote, is_backslash, is_opening, is_closing}

-- where bit i comes from when the bits under the mask change places with those k places up
unfoldable pub swap_place : (k mask i : ℕ) → ℕ
swap_place k mask i = cond (bit i mask) (k + i) (cond (leb k i && bit (i - k) mask) (i - k) i)

-- bit i is under the mask and k places above it
unfoldable pub clash : (k mask i : ℕ) → Bool
clash k mask i = bit i mask && (leb k i && bit (i - k) mask)

pub record Swapped (k mask x r : ℕ) : Type 0 where
  pub moved : (i : ℕ) → i < 64 → clash k mask i ≡ false → bit i r ≡ bit (swap_place k mask i) x

-- four flags at the places 0, 2, 4 and 6, and nothing between them
unfoldable pub spaced : (a b c d : Bool) → ℕ → Bool
spaced a b c d j = cond (eqb j 0) a (cond (eqb j 2) b (cond (eqb j 4) c (eqb j 6 && d)))

-- r has the flags of a, b, c and d, each as it is told
pub record FourFlags (told : ℕ → Bool → Type 0) (a b c d r : ℕ) : Type 0 where
  pub flag_a : Bool
  pub flag_b : Bool
  pub flag_c : Bool
  pub flag_d : Bool
  pub of_a : told a flag_a
  pub of_b : told b flag_b
  pub of_c : told c flag_c
  pub of_d : told d flag_d
  pub places : (j : ℕ) → j < 8 → bit j r ≡ spaced flag_a flag_b flag_c flag_d j

-- byte k of a class, packed: at each even place j the flag of byte 8 * j + k of the block
unfoldable pub column : (ℕ → Bool) → ℕ → ℕ → Bool
column g k j = eqb (j % 2) 0 && g (8 * j + k)

-- the first n of the 16 bytes of m are the packed flags g
pub record Packed (g : ℕ → Bool) (m : List ℕ) (n : ℕ) : Type 0 where
  pub long : length m ≡ 16
  pub bytes : (k : ℕ) → k < n → (j : ℕ) → j < 8 → bit j (byte_at m k) ≡ column g k j

-- of each class the first n bytes are the packed flags of the first 64 bytes of s
pub record PackedClasses (s quotes backslashes opening closing : List ℕ) (n : ℕ) : Type 0 where
  pub quotes_are : Packed (is_quote s) quotes n
  pub backslashes_are : Packed (is_backslash s) backslashes n
  pub opening_are : Packed (is_opening s) opening n
  pub closing_are : Packed (is_closing s) closing n

-- r is the word of the flags that are packed in the 16 bytes of m, whichever they are
pub record Unpacked (m : List ℕ) (r : ℕ) : Type 0 where
  pub flags : (g : ℕ → Bool) → Packed g m 16 → (i : ℕ) → i < 64 → bit i r ≡ g i

-- the places of quotes, backslashes and brackets among the first 64 bytes of s
pub record Classified (s : List ℕ) (quotes backslashes opening closing : ℕ) : Type 0 where
  pub quote_at : (i : ℕ) → i < 64 → bit i quotes ≡ is_quote s i
  pub backslash_at : (i : ℕ) → i < 64 → bit i backslashes ≡ is_backslash s i
  pub opening_at : (i : ℕ) → i < 64 → bit i opening ≡ is_opening s i
  pub closing_at : (i : ℕ) → i < 64 → bit i closing ≡ is_closing s i
