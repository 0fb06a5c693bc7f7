-- Laws of the writers: `put x s` is the bytes of x alone and then s, so that places and lengths can be counted. Assumes nothing.
use Rattle.std.specs.Prelude.{◌≡◌, refl, List, [], ◌∷◌, ◌++◌, ℕ, ◌+◌, ◌<◌, length}
use Rattle.std.proofs.Common.{ap, ◌∙◌, arith}
use Rattle.encoding.specs.Bytes.{put_in, put_blanks}
use Rattle.encoding.specs.BytesLaws.{append_in, append_blanks, size, length_blanks}
use Rattle.encoding.specs.Utf8Laws.{append-wide, wide_positive}
use Rattle.json_text.specs.Grammar as G
use Rattle.json_text.specs.Grammar.{Literal, Minus, Int, Frac, ExpSign, Exp, Char, Kind, Key, opening, closing, Value, Items, More, Tree}
use Rattle.json_text.specs.Grammar.{put_literal, put_minus, put_int, put_frac, put_exp_sign, put_exp, put_char}
use Rattle.json_text.specs.Grammar.{put_chars, put_string, put_key, put_value, put_items, put_more, text}

-- bytes appended to what stands after x are appended to the whole

pub append_literal : (l : Literal) (s u : List ℕ) → put_literal l (s ++ u) ≡ put_literal l s ++ u
unfolding put_literal
append_literal G.false_name s u = refl
append_literal G.null_name s u = refl
append_literal G.true_name s u = refl

pub append_minus : (g : Minus) (s u : List ℕ) → put_minus g (s ++ u) ≡ put_minus g s ++ u
unfolding put_minus
append_minus G.unsigned s u = refl
append_minus G.minus s u = refl

pub append_int : (n : Int) (s u : List ℕ) → put_int n (s ++ u) ≡ put_int n s ++ u
unfolding put_int
append_int G.nought s u = refl
append_int (G.whole d ds) s u = ap (λ (x : List ℕ). d.byte ∷ x) (append_in ds s u)

pub append_frac : (f : Frac) (s u : List ℕ) → put_frac f (s ++ u) ≡ put_frac f s ++ u
unfolding put_frac
append_frac G.nofrac s u = refl
append_frac (G.frac d ds) s u = ap (λ (x : List ℕ). 0x2E ∷ d.byte ∷ x) (append_in ds s u)

pub append_exp_sign : (g : ExpSign) (s u : List ℕ) → put_exp_sign g (s ++ u) ≡ put_exp_sign g s ++ u
unfolding put_exp_sign
append_exp_sign G.bare s u = refl
append_exp_sign G.positive s u = refl
append_exp_sign G.negative s u = refl

pub append_exp : (e : Exp) (s u : List ℕ) → put_exp e (s ++ u) ≡ put_exp e s ++ u
unfolding put_exp
append_exp G.noexp s u = refl
append_exp (G.exp e g d ds) s u = simp (append_in ds s u, append_exp_sign g (d.byte ∷ put_in ds s) u)

pub append_char : (c : Char) (s u : List ℕ) → put_char c (s ++ u) ≡ put_char c s ++ u
unfolding put_char
append_char (G.low x) s u = refl
append_char (G.mid x) s u = refl
append_char (G.high x) s u = refl
append_char (G.wide p) s u = append-wide p s u
append_char (G.escaped x) s u = refl
append_char (G.unicode x y z w) s u = refl

pub append_chars : (cs : List Char) (s u : List ℕ) → put_chars cs (s ++ u) ≡ put_chars cs s ++ u
unfolding put_chars
append_chars [] s u = refl
append_chars (c ∷ cs) s u = ap (put_char c) (append_chars cs s u) ∙ append_char c (put_chars cs s) u

pub append_string : (cs : List Char) (s u : List ℕ) → put_string cs (s ++ u) ≡ put_string cs s ++ u
unfolding put_string
append_string cs s u = ap (λ (x : List ℕ). 0x22 ∷ x) (append_chars cs (0x22 ∷ s) u)

pub append-key : (k : Kind) (key : Key k) (s u : List ℕ) → put_key k key (s ++ u) ≡ put_key k key s ++ u
unfolding put_key
append-key G.array key s u = refl
append-key G.object key s u =
    simp (append_blanks key.after s u, append_blanks key.before (0x3A ∷ put_blanks key.after s) u, append_string key.chars)

mutual
  unfolding put_value put_items put_more

  pub append_value : (v : Value) (s u : List ℕ) → put_value v (s ++ u) ≡ put_value v s ++ u
  append_value (G.literal l) s u = append_literal l s u
  append_value (G.number g n f e) s u = simp (append_exp e s u, append_frac f, append_int n, append_minus g)
  append_value (G.string cs) s u = append_string cs s u
  append_value (G.container k is) s u = ap (λ (x : List ℕ). opening k ∷ x) (append_items is s u)

  pub append_items : {k : Kind} (is : Items k) (s u : List ℕ) → put_items is (s ++ u) ≡ put_items is s ++ u
  append_items {k} (G.empty w) s u = append_blanks w (closing k ∷ s) u
  append_items {k} (G.items w key v m) s u = simp (append-more m s u, append_value v (put_more m s) u, append-key k key, append_blanks)

  pub append-more : {k : Kind} (m : More k) (s u : List ℕ) → put_more m (s ++ u) ≡ put_more m s ++ u
  append-more {k} (G.end w) s u = append_blanks w (closing k ∷ s) u
  append-more {k} (G.more w w' key v m) s u =
      simp
      (append-more m s u, append_value v (put_more m s) u, append-key k key, append_blanks w')
      (append_blanks w (0x2C ∷ put_blanks w' (put_key k key (put_value v (put_more m s)))) u)

-- so x before s is x alone, and then s

pub chars_split : (cs : List Char) (s : List ℕ) → put_chars cs s ≡ put_chars cs [] ++ s
chars_split cs s = append_chars cs [] s

pub string_split : (cs : List Char) (s : List ℕ) → put_string cs s ≡ put_string cs [] ++ s
string_split cs s = append_string cs [] s

pub key_split : (k : Kind) (key : Key k) (s : List ℕ) → put_key k key s ≡ put_key k key [] ++ s
key_split k key s = append-key k key [] s

pub value_split : (v : Value) (s : List ℕ) → put_value v s ≡ put_value v [] ++ s
value_split v s = append_value v [] s

-- and so lengths add up

pub length_minus : (g : Minus) (s : List ℕ) → length (put_minus g s) ≡ length (put_minus g []) + length s
length_minus g s = size (put_minus g) (append_minus g) s

pub length_int : (n : Int) (s : List ℕ) → length (put_int n s) ≡ length (put_int n []) + length s
length_int n s = size (put_int n) (append_int n) s

pub length_char : (c : Char) (s : List ℕ) → length (put_char c s) ≡ length (put_char c []) + length s
length_char c s = size (put_char c) (append_char c) s

pub length_chars : (cs : List Char) (s : List ℕ) → length (put_chars cs s) ≡ length (put_chars cs []) + length s
length_chars cs s = size (put_chars cs) (append_chars cs) s

pub length_string : (cs : List Char) (s : List ℕ) → length (put_string cs s) ≡ length (put_string cs []) + length s
length_string cs s = size (put_string cs) (append_string cs) s

pub length-key : (k : Kind) (key : Key k) (s : List ℕ) → length (put_key k key s) ≡ length (put_key k key []) + length s
length-key k key s = size (put_key k key) (append-key k key) s

pub length_value : (v : Value) (s : List ℕ) → length (put_value v s) ≡ length (put_value v []) + length s
length_value v s = size (put_value v) (append_value v) s

pub length_items : {k : Kind} (is : Items k) (s : List ℕ) → length (put_items is s) ≡ length (put_items is []) + length s
length_items is s = size (put_items is) (append_items is) s

pub length_more : {k : Kind} (m : More k) (s : List ℕ) → length (put_more m s) ≡ length (put_more m []) + length s
length_more m s = size (put_more m) (append-more m) s

pub length-text : (t : Tree) → length (text t) ≡ length t.before + length (put_value t.value []) + length t.after
unfolding text
length-text t =
    omega (
      arith,
      length_blanks t.before (put_value t.value (put_blanks t.after [])),
      length_value t.value (put_blanks t.after []),
      length_blanks t.after [],
    )

-- each of these takes at least one byte

pub char_positive : (c : Char) → 0 < length (put_char c [])
unfolding put_char
char_positive (G.low x) = omega arith
char_positive (G.mid x) = omega arith
char_positive (G.high x) = omega arith
char_positive (G.wide p) = wide_positive p
char_positive (G.escaped x) = omega arith
char_positive (G.unicode x y z w) = omega arith

pub string_positive : (cs : List Char) → 0 < length (put_string cs [])
unfolding put_string
string_positive cs = omega arith

pub literal_positive : (l : Literal) → 0 < length (put_literal l [])
unfolding put_literal
literal_positive G.false_name = omega arith
literal_positive G.null_name = omega arith
literal_positive G.true_name = omega arith

pub int_positive : (n : Int) → 0 < length (put_int n [])
unfolding put_int
int_positive G.nought = omega arith
int_positive (G.whole d ds) = omega arith

pub value_positive : (v : Value) → 0 < length (put_value v [])
unfolding put_value
value_positive (G.literal l) = literal_positive l
value_positive (G.number g n f e) =
    omega (arith, length_minus g (put_int n (put_frac f (put_exp e []))), length_int n (put_frac f (put_exp e [])), int_positive n)
value_positive (G.string cs) = string_positive cs
value_positive (G.container k is) = omega arith

pub more_positive : {k : Kind} (m : More k) → 0 < length (put_more m [])
unfolding put_more
more_positive {k} (G.end w) = omega (arith, length_blanks w (closing k ∷ []))
more_positive {k} (G.more w w' key v m) = omega (arith, length_blanks w (0x2C ∷ put_blanks w' (put_key k key (put_value v (put_more m [])))))
