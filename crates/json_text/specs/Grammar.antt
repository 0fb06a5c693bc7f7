-- RFC 8259 in UTF-8, as syntax trees and the bytes that they are written as.
-- Where the RFC lets blanks stand on both sides of a bracket, a comma or a colon, the blanks are counted once, with what is around them.
use Rattle.std.specs.Prelude.{◌≡◌, List, [], ◌∷◌, ℕ, suc, max, ◌≤◌}
use Rattle.encoding.specs.Bytes.{In, put_in, Blanks, put_blanks}
use Rattle.encoding.specs.Hex.{Hex, hex_byte}
use Rattle.encoding.specs.Utf8.{Wide, put_wide}

-- §3: false / null / true
pub data Literal : Type 0 where
  false_name null_name true_name : Literal

-- §6: number = [ minus ] int [ frac ] [ exp ]
abbrev pub Digit : Type 0
Digit = In 0x30 0x39

pub data Minus : Type 0 where
  unsigned minus : Minus

-- int = zero / ( digit1-9 *DIGIT )
pub data Int : Type 0 where
  nought : Int
  whole : In 0x31 0x39 → List Digit → Int

-- frac = decimal-point 1*DIGIT
pub data Frac : Type 0 where
  nofrac : Frac
  frac : Digit → List Digit → Frac

-- exp = e [ minus / plus ] 1*DIGIT
pub data E : Type 0 where
  small big : E

pub data ExpSign : Type 0 where
  bare positive negative : ExpSign

pub data Exp : Type 0 where
  noexp : Exp
  exp : E → ExpSign → Digit → List Digit → Exp

-- §7: char = unescaped / escape ( one of eight / %x75 4HEXDIG )
pub data Escape : Type 0 where
  quote backslash slash backspace form line carriage tabulator : Escape

-- unescaped = %x20-21 / %x23-5B / %x5D-10FFFF, the last in two: the bytes up to 7F, and the code points from 80 on
pub data Char : Type 0 where
  low : In 0x20 0x21 → Char
  mid : In 0x23 0x5B → Char
  high : In 0x5D 0x7F → Char
  wide : Wide → Char
  escaped : Escape → Char
  unicode : Hex → Hex → Hex → Hex → Char

-- §4 and §5: an object's items are members, an array's are values
pub data Kind : Type 0 where
  array object : Kind

-- §4: member = string name-separator value, up to the value
pub record Name : Type 0 where
  pub chars : List Char
  pub before : Blanks
  pub after : Blanks

-- what stands before an item's value
abbrev pub Key : Kind → Type 0
Key array = Unit {0}
Key object = Name

-- §3: value = false / null / true / object / array / number / string
mutual
  pub data Value : Type 0 where
    literal : Literal → Value
    number : Minus → Int → Frac → Exp → Value
    string : List Char → Value
    container : (k : Kind) → Items k → Value

  -- what follows the opening bracket, to the closing one
  pub data Items : Kind → Type 0 where
    empty : {k : Kind} → Blanks → Items k
    items : {k : Kind} → Blanks → Key k → Value → More k → Items k

  -- what follows an item: the closing bracket, or a comma and an item
  pub data More : Kind → Type 0 where
    end : {k : Kind} → Blanks → More k
    more : {k : Kind} → Blanks → Blanks → Key k → Value → More k → More k

-- §2: JSON-text = ws value ws
pub record Tree : Type 0 where
  pub before : Blanks
  pub value : Value
  pub after : Blanks

-- each `put x s` is the bytes of x with s after them

unfoldable pub put_literal : Literal → List ℕ → List ℕ
put_literal false_name s = 0x66 ∷ 0x61 ∷ 0x6C ∷ 0x73 ∷ 0x65 ∷ s
put_literal null_name s = 0x6E ∷ 0x75 ∷ 0x6C ∷ 0x6C ∷ s
put_literal true_name s = 0x74 ∷ 0x72 ∷ 0x75 ∷ 0x65 ∷ s

unfoldable pub put_minus : Minus → List ℕ → List ℕ
put_minus unsigned s = s
put_minus minus s = 0x2D ∷ s

unfoldable pub put_int : Int → List ℕ → List ℕ
unfolding put_in
put_int nought s = 0x30 ∷ s
put_int (whole d ds) s = d.byte ∷ put_in ds s

unfoldable pub put_frac : Frac → List ℕ → List ℕ
unfolding put_in
put_frac nofrac s = s
put_frac (frac d ds) s = 0x2E ∷ d.byte ∷ put_in ds s

abbrev pub e_byte : E → ℕ
e_byte small = 0x65
e_byte big = 0x45

unfoldable pub put_exp_sign : ExpSign → List ℕ → List ℕ
put_exp_sign bare s = s
put_exp_sign positive s = 0x2B ∷ s
put_exp_sign negative s = 0x2D ∷ s

unfoldable pub put_exp : Exp → List ℕ → List ℕ
unfolding put_in put_exp_sign
put_exp noexp s = s
put_exp (exp e g d ds) s = e_byte e ∷ put_exp_sign g (d.byte ∷ put_in ds s)

abbrev pub escape_byte : Escape → ℕ
escape_byte quote = 0x22
escape_byte backslash = 0x5C
escape_byte slash = 0x2F
escape_byte backspace = 0x62
escape_byte form = 0x66
escape_byte line = 0x6E
escape_byte carriage = 0x72
escape_byte tabulator = 0x74

unfoldable pub put_char : Char → List ℕ → List ℕ
unfolding put_wide
put_char (low x) s = x.byte ∷ s
put_char (mid x) s = x.byte ∷ s
put_char (high x) s = x.byte ∷ s
put_char (wide p) s = put_wide p s
put_char (escaped x) s = 0x5C ∷ escape_byte x ∷ s
put_char (unicode x y z w) s = 0x5C ∷ 0x75 ∷ hex_byte x ∷ hex_byte y ∷ hex_byte z ∷ hex_byte w ∷ s

-- what stands between the quotes of a string
unfoldable pub put_chars : List Char → List ℕ → List ℕ
unfolding put_char
put_chars [] s = s
put_chars (c ∷ cs) s = put_char c (put_chars cs s)

-- §7: string = quotation-mark *char quotation-mark
unfoldable pub put_string : List Char → List ℕ → List ℕ
unfolding put_chars
put_string cs s = 0x22 ∷ put_chars cs (0x22 ∷ s)

-- a member's name with its colon; before an element stands nothing
unfoldable pub put_key : (k : Kind) → Key k → List ℕ → List ℕ
unfolding put_string put_blanks
put_key array key s = s
put_key object key s = put_string key.chars (put_blanks key.before (0x3A ∷ put_blanks key.after s))

abbrev pub opening : Kind → ℕ
opening array = 0x5B
opening object = 0x7B

abbrev pub closing : Kind → ℕ
closing array = 0x5D
closing object = 0x7D

unfoldable mutual
  unfolding put_blanks put_literal put_minus put_int put_frac put_exp put_string put_key

  pub put_value : Value → List ℕ → List ℕ
  put_value (literal l) s = put_literal l s
  put_value (number g n f e) s = put_minus g (put_int n (put_frac f (put_exp e s)))
  put_value (string cs) s = put_string cs s
  put_value (container k is) s = opening k ∷ put_items is s

  pub put_items : {k : Kind} → Items k → List ℕ → List ℕ
  put_items {k} (empty w) s = put_blanks w (closing k ∷ s)
  put_items {k} (items w key v m) s = put_blanks w (put_key k key (put_value v (put_more m s)))

  pub put_more : {k : Kind} → More k → List ℕ → List ℕ
  put_more {k} (end w) s = put_blanks w (closing k ∷ s)
  put_more {k} (more w w' key v m) s = put_blanks w (0x2C ∷ put_blanks w' (put_key k key (put_value v (put_more m s))))

unfoldable pub text : Tree → List ℕ
unfolding put_blanks put_value
text t = put_blanks t.before (put_value t.value (put_blanks t.after []))

-- how deep a value nests: its containers, one in the other
unfoldable mutual
  pub nesting : Value → ℕ
  nesting (literal l) = 0
  nesting (number g n f e) = 0
  nesting (string cs) = 0
  nesting (container k is) = suc (items_nesting is)

  pub items_nesting : {k : Kind} → Items k → ℕ
  items_nesting (empty w) = 0
  items_nesting (items w key v m) = max (nesting v) (more_nesting m)

  pub more_nesting : {k : Kind} → More k → ℕ
  more_nesting (end w) = 0
  more_nesting (more w w' key v m) = max (nesting v) (more_nesting m)

-- s is a JSON text
pub record JsonText (s : List ℕ) : Type 0 where
  pub tree : Tree
  pub written : text tree ≡ s

-- s is a JSON text that nests at most n deep
pub record Nested (n : ℕ) (s : List ℕ) : Type 0 where
  pub tree : Tree
  pub written : text tree ≡ s
  pub shallow : nesting tree.value ≤ n
