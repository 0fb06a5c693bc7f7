-- Parsers that undo the writers of all that holds no value: blanks, numbers, strings, keys.
use Rattle.std.specs.Prelude.{List, [], ◌∷◌, Bool, true, false, ◌&&◌, ℕ, suc, T, leb, length}
use Rattle.std.proofs.Math.Option.{Option, some, none}
use Prim.Native.Nat as N
use Rattle.encoding.specs.Bytes as B
use Rattle.encoding.specs.Bytes.{In, Blank, Blanks}
use Rattle.encoding.specs.Hex as H
use Rattle.encoding.specs.Hex.{Hex}
use Rattle.encoding.specs.Utf8 as U
use Rattle.encoding.specs.Utf8.{Tail}
use Rattle.json_text.specs.Grammar as G
use Rattle.json_text.specs.Grammar.{Digit, Minus, Int, Frac, ExpSign, E, Exp, Char, Kind, Name, Key, Value}

-- what was read with the bytes after it, or nothing
abbrev pub Got : Type 0 → Type 0
Got A = Option (A × List ℕ)

abbrev pub Parser : Type 0 → Type 0
Parser A = List ℕ → Got A

abbrev pub got : {A : Type 0} → A → Parser A
got a s = some (a, s)

abbrev pub fail : {A : Type 0} → Parser A
fail s = none

-- goes on with what was read
abbrev pub on : {A B : Type 0} → Got A → (A → Parser B) → Got B
on none f = none
on (some p) f = f p.0 p.1

-- a case of a choice by a byte: the range of the byte, and what is chosen there
pub record Case (A : Type 0) : Type 0 where
  pub low : ℕ
  pub high : ℕ
  pub choice : In low high → A

module _ {A : Type 0} where
  abbrev pub range : (lo hi : ℕ) → (In lo hi → A) → Case A
  range lo hi f = record { low = lo; high = hi; choice = f }

  abbrev pub only : ℕ → A → Case A
  only b a = range b b (λ _. a)

  unfoldable pub choose : (x : Bool) → (T x → A) → A → A
  choose true f a = f tt
  choose false f a = a

  -- the choice of the first case that has the byte b, or else a
  unfoldable pub pick : List (Case A) → A → ℕ → A
  pick [] a b = a
  pick (c ∷ cs) a b = choose (leb c.low b && leb b c.high) (λ t. c.choice (record { byte = b; ok = t })) (pick cs a b)

module _ {A : Type 0} where
  -- reads on by the case that has the first byte; where there is none, the other parser reads all
  unfoldable pub parse_by : List (Case (Parser A)) → Parser A → Parser A
  parse_by cs other [] = other []
  parse_by cs other (b ∷ s) = pick cs (λ _. other (b ∷ s)) b s

-- each `parseX f` reads an X and goes on with f

module _ {A : Type 0} where
  -- one byte of a range
  unfoldable pub parse_in : (lo hi : ℕ) → (In lo hi → Parser A) → Parser A
  parse_in lo hi f = parse_by (range lo hi f ∷ []) fail

  -- this byte
  unfoldable pub parse_byte : ℕ → Parser A → Parser A
  parse_byte b r = parse_by (only b r ∷ []) fail

  -- these bytes
  unfoldable pub parse_bytes : List ℕ → Parser A → Parser A
  parse_bytes [] r = r
  parse_bytes (b ∷ bs) r = parse_byte b (parse_bytes bs r)

  -- as many bytes as mean something
  abbrev pub many_from : Option A → List ℕ → Got (List A) → Got (List A)
  many_from none s o = got [] s
  many_from (some x) s o = on o (λ xs. got (x ∷ xs))

  unfoldable pub many : (ℕ → Option A) → Parser (List A)
  many f [] = got [] []
  many f (b ∷ s) = many_from (f b) (b ∷ s) (many f s)

-- blanks
abbrev pub blank_cases : List (Case (Option Blank))
blank_cases = only 0x20 (some B.space) ∷ only 0x09 (some B.tab) ∷ only 0x0A (some B.feed) ∷ only 0x0D (some B.return) ∷ []

unfoldable pub blank_of : ℕ → Option Blank
blank_of b = pick blank_cases none b

module _ {A : Type 0} where
  unfoldable pub parse_blanks : (Blanks → Parser A) → Parser A
  parse_blanks f s = on (many blank_of s) f

-- digits
unfoldable pub digit_of : ℕ → Option Digit
digit_of b = pick (range 0x30 0x39 some ∷ []) none b

module _ {A : Type 0} where
  unfoldable pub parse_digits : (List Digit → Parser A) → Parser A
  parse_digits f s = on (many digit_of s) f

  -- 1*DIGIT
  unfoldable pub parse_some_digits : (Digit → List Digit → Parser A) → Parser A
  parse_some_digits f = parse_in 0x30 0x39 (λ d. parse_digits (f d))

-- numbers
module _ {A : Type 0} where
  unfoldable pub parse_minus : (Minus → Parser A) → Parser A
  parse_minus f = parse_by (only 0x2D (f G.minus) ∷ []) (f G.unsigned)

  unfoldable pub parse_int : (Int → Parser A) → Parser A
  parse_int f = parse_by (only 0x30 (f G.nought) ∷ range 0x31 0x39 (λ d. parse_digits (λ ds. f (G.whole d ds))) ∷ []) fail

  unfoldable pub parse_frac : (Frac → Parser A) → Parser A
  parse_frac f = parse_by (only 0x2E (parse_some_digits (λ d ds. f (G.frac d ds))) ∷ []) (f G.nofrac)

  unfoldable pub parse_exp_sign : (ExpSign → Parser A) → Parser A
  parse_exp_sign f = parse_by (only 0x2B (f G.positive) ∷ only 0x2D (f G.negative) ∷ []) (f G.bare)

  unfoldable pub parse_power : E → (Exp → Parser A) → Parser A
  parse_power e f = parse_exp_sign (λ g. parse_some_digits (λ d ds. f (G.exp e g d ds)))

  unfoldable pub parse_exp : (Exp → Parser A) → Parser A
  parse_exp f = parse_by (only 0x65 (parse_power G.small f) ∷ only 0x45 (parse_power G.big f) ∷ []) (f G.noexp)

unfoldable pub parse_number : Parser Value
parse_number = parse_minus (λ g. parse_int (λ n. parse_frac (λ f. parse_exp (λ e. got (G.number g n f e)))))

-- strings
module _ {A : Type 0} where
  unfoldable pub parse_hex : (Hex → Parser A) → Parser A
  parse_hex f =
      parse_by
      (range 0x30 0x39 (λ x. f (H.digit x)) ∷
      range 0x41 0x46 (λ x. f (H.upper x)) ∷
      range 0x61 0x66 (λ x. f (H.lower x)) ∷ [])
      fail

  unfoldable pub parse_unicode : (Char → Parser A) → Parser A
  parse_unicode f = parse_hex (λ x. parse_hex (λ y. parse_hex (λ z. parse_hex (λ w. f (G.unicode x y z w)))))

  -- what follows a backslash
  unfoldable pub parse_escape : (Char → Parser A) → Parser A
  parse_escape f =
      parse_by
      (only 0x22 (f (G.escaped G.quote)) ∷
      only 0x5C (f (G.escaped G.backslash)) ∷
      only 0x2F (f (G.escaped G.slash)) ∷
      only 0x62 (f (G.escaped G.backspace)) ∷
      only 0x66 (f (G.escaped G.form)) ∷
      only 0x6E (f (G.escaped G.line)) ∷
      only 0x72 (f (G.escaped G.carriage)) ∷
      only 0x74 (f (G.escaped G.tabulator)) ∷
      only 0x75 (parse_unicode f) ∷ [])
      fail

  abbrev pub parse_tail : (Tail → Parser A) → Parser A
  parse_tail f = parse_in 0x80 0xBF f

  -- the closing quote, or a character
  unfoldable pub char_cases : Parser A → (Char → Parser A) → List (Case (Parser A))
  char_cases closed f =
      only 0x22 closed ∷
      only 0x5C (parse_escape f) ∷
      range 0x20 0x21 (λ x. f (G.low x)) ∷
      range 0x23 0x5B (λ x. f (G.mid x)) ∷
      range 0x5D 0x7F (λ x. f (G.high x)) ∷
      range 0xC2 0xDF (λ x. parse_tail (λ y. f (G.wide (U.c2_df x y)))) ∷
      range 0xE0 0xE0 (λ x. parse_in 0xA0 0xBF (λ y. parse_tail (λ z. f (G.wide (U.e0 x y z))))) ∷
      range 0xE1 0xEC (λ x. parse_tail (λ y. parse_tail (λ z. f (G.wide (U.e1_ec x y z))))) ∷
      range 0xED 0xED (λ x. parse_in 0x80 0x9F (λ y. parse_tail (λ z. f (G.wide (U.ed x y z))))) ∷
      range 0xEE 0xEF (λ x. parse_tail (λ y. parse_tail (λ z. f (G.wide (U.ee_ef x y z))))) ∷
      range 0xF0 0xF0 (λ x. parse_in 0x90 0xBF (λ y. parse_tail (λ z. parse_tail (λ w. f (G.wide (U.f0 x y z w)))))) ∷
      range 0xF1 0xF3 (λ x. parse_tail (λ y. parse_tail (λ z. parse_tail (λ w. f (G.wide (U.f1_f3 x y z w)))))) ∷
      range 0xF4 0xF4 (λ x. parse_in 0x80 0x8F (λ y. parse_tail (λ z. parse_tail (λ w. f (G.wide (U.f4 x y z w)))))) ∷ []

  -- characters to the closing quote, in at most n bytes
  unfoldable pub parse_chars : ℕ → (List Char → Parser A) → Parser A
  parse_chars N.zero f s = none
  parse_chars (suc n) f s = parse_by (char_cases (f []) (λ c u. parse_chars n (λ cs. f (c ∷ cs)) u)) fail s

  -- a string behind its opening quote
  unfoldable pub parse_rest : (List Char → Parser A) → Parser A
  parse_rest f s = parse_chars (length s) f s

-- what stands before an item's value
module _ {A : Type 0} where
  -- a member's name behind its characters
  unfoldable pub parse_colon : List Char → (Name → Parser A) → Parser A
  parse_colon cs f = parse_blanks (λ w. parse_byte 0x3A (parse_blanks (λ w'. f (record { chars = cs; before = w; after = w' }))))

  unfoldable pub parse_key : (k : Kind) → (Key k → Parser A) → Parser A
  parse_key G.array f = f tt
  parse_key G.object f = parse_byte 0x22 (parse_rest (λ cs. parse_colon cs f))
