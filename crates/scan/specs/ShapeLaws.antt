-- Texts of the record grammar have the shapes that scanners go by. Each fact on a range of bytes is computed once over the range. Assumes nothing.
use Rattle.std.specs.Prelude.{◌≡◌, refl, List, [], ◌∷◌, ◌++◌, Bool, true, false, not, ◌&&◌, ◌||◌, ℕ, suc, T, eqb, leb}
use Rattle.std.proofs.Common.{sym, ap, ap₂, ◌∙◌, ⊎_elim, arith, le→leb, ne_eqb}
use Rattle.std.proofs.lemmas.Bool.{false≢true, not-true}
use Rattle.bits.specs.Truth.{of_T, all_below, all_at}
use Rattle.encoding.specs.Bytes as B
use Rattle.encoding.specs.Bytes.{In, put_in, Blank, Blanks, blank_byte, put_blanks}
use Rattle.encoding.specs.BytesLaws.{in_bounds}
use Rattle.encoding.specs.Class.{class_of}
use Rattle.encoding.specs.ClassLaws as Class
use Rattle.encoding.specs.Hex as H
use Rattle.encoding.specs.Hex.{Hex, hex_byte}
use Rattle.encoding.specs.Utf8 as U
use Rattle.encoding.specs.Utf8.{Wide, put_wide}
use Rattle.json_text.specs.Grammar as G
use Rattle.json_text.specs.Grammar.{Literal, Minus, Int, Frac, Exp, escape_byte, Char, Kind, Key, Value, More}
use Rattle.json_text.specs.Grammar.{put_literal, put_minus, put_int, put_frac, put_exp, put_exp_sign, put_char, put_chars, put_string, put_key, put_value, put_more}
use Rattle.lanes.specs.Kinds.{inner, gap, bare}
use Rattle.scan.specs.Scans.{is_word_byte}
use Rattle.scan.specs.Shape.{ends_word_of, solid, starts, stopped, wordy, Piece, plain, escaped, put_pieces}

-- a test that passes at every byte of a range
unfoldable passes : (lo hi : ℕ) → (ℕ → Bool) → Bool
unfolding all_below
passes lo hi p = all_below (suc hi) (λ b. not (leb lo b) || p b)

in_range : {lo hi : ℕ} (p : ℕ → Bool) → T (passes lo hi p) → (x : In lo hi) → p x.byte ≡ true
unfolding passes
in_range {lo} {hi} p t x =
    go (leb lo x.byte) (of_T (leb lo x.byte) (le→leb lo x.byte (in_bounds x).0))
    (all_at (suc hi) (λ b. not (leb lo b) || p b) t x.byte (omega (arith, (in_bounds x).1)))
  where
    go : (b : Bool) → b ≡ true → T (not b || p x.byte) → p x.byte ≡ true
    go true e h = of_T (p x.byte) h
    go false e h = absurd (false≢true e)

-- no blank begins a value or a key
int_solid : (n : Int) (s : List ℕ) → solid (put_int n s) ≡ true
unfolding put_int solid gap passes
int_solid G.nought s = refl
int_solid (G.whole x ds) s = in_range (λ b. not (gap b)) tt x

pub solid_value : (v : Value) (s : List ℕ) → solid (put_value v s) ≡ true
unfolding put_value put_literal put_minus put_string solid gap
solid_value (G.literal G.false_name) s = refl
solid_value (G.literal G.null_name) s = refl
solid_value (G.literal G.true_name) s = refl
solid_value (G.number G.unsigned n f e) s = int_solid n (put_frac f (put_exp e s))
solid_value (G.number G.minus n f e) s = refl
solid_value (G.string cs) s = refl
solid_value (G.container G.array is) s = refl
solid_value (G.container G.object is) s = refl

pub solid_key : (k : Kind) (key : Key k) (s : List ℕ) → solid s ≡ true → solid (put_key k key s) ≡ true
unfolding put_key put_string solid gap
solid_key G.array key s h = h
solid_key G.object key s h = refl

-- no closing bracket begins a value or a key
int_starts : (n : Int) (s : List ℕ) → starts (put_int n s) ≡ true
unfolding put_int starts passes class_of
int_starts G.nought s = refl
int_starts (G.whole x ds) s = in_range (λ b. not (eqb (class_of b) 2)) tt x

pub starts_value : (v : Value) (s : List ℕ) → starts (put_value v s) ≡ true
unfolding put_value put_literal put_minus put_string starts class_of
starts_value (G.literal G.false_name) s = refl
starts_value (G.literal G.null_name) s = refl
starts_value (G.literal G.true_name) s = refl
starts_value (G.number G.unsigned n f e) s = int_starts n (put_frac f (put_exp e s))
starts_value (G.number G.minus n f e) s = refl
starts_value (G.string cs) s = refl
starts_value (G.container G.array is) s = refl
starts_value (G.container G.object is) s = refl

pub starts_key : (k : Kind) (key : Key k) (s : List ℕ) → starts s ≡ true → starts (put_key k key s) ≡ true
unfolding put_key put_string starts class_of
starts_key G.array key s h = h
starts_key G.object key s h = refl

pub solid_colon : (s : List ℕ) → solid (0x3A ∷ s) ≡ true
unfolding solid gap
solid_colon s = refl

pub solid_comma : (s : List ℕ) → solid (0x2C ∷ s) ≡ true
unfolding solid gap
solid_comma s = refl

pub solid_closing : (k : Kind) (s : List ℕ) → solid (G.closing k ∷ s) ≡ true
unfolding solid gap
solid_closing G.array s = refl
solid_closing G.object s = refl

pub blank_is : (w : Blank) → gap (blank_byte w) ≡ true
unfolding gap
blank_is B.space = refl
blank_is B.tab = refl
blank_is B.feed = refl
blank_is B.return = refl

-- what follows a value ends a word
pub stopped_blanks : (w : Blanks) (s : List ℕ) → stopped s ≡ true → stopped (put_blanks w s) ≡ true
unfolding put_blanks stopped ends_word_of class_of
stopped_blanks [] s h = h
stopped_blanks (B.space ∷ w) s h = refl
stopped_blanks (B.tab ∷ w) s h = refl
stopped_blanks (B.feed ∷ w) s h = refl
stopped_blanks (B.return ∷ w) s h = refl

pub stopped_end : (w : Blanks) → stopped (put_blanks w []) ≡ true
unfolding stopped
stopped_end w = stopped_blanks w [] refl

stopped_closing : (k : Kind) (s : List ℕ) → stopped (G.closing k ∷ s) ≡ true
unfolding stopped ends_word_of class_of
stopped_closing G.array s = refl
stopped_closing G.object s = refl

stopped_comma : (s : List ℕ) → stopped (0x2C ∷ s) ≡ true
unfolding stopped ends_word_of class_of
stopped_comma s = refl

pub stopped_more : {k : Kind} (m : More k) (s : List ℕ) → stopped (put_more m s) ≡ true
unfolding put_more
stopped_more {k} (G.end w) s = stopped_blanks w (G.closing k ∷ s) (stopped_closing k s)
stopped_more {k} (G.more w w' key v m) s = stopped_blanks w (0x2C ∷ put_blanks w' (put_key k key (put_value v (put_more m s)))) (stopped_comma _)

-- literals and numbers are words
wordy-cons : (b : ℕ) (s : List ℕ) → not (ends_word_of b) ≡ true → wordy s ≡ true → wordy (b ∷ s) ≡ true
unfolding wordy
wordy-cons b s e h = ap₂ (λ (x y : Bool). x && y) e h

wordy_digit : (x : In 0x30 0x39) → not (ends_word_of x.byte) ≡ true
unfolding ends_word_of passes class_of
wordy_digit x = in_range (λ b. not (ends_word_of b)) tt x

wordy_digits : (ds : List (In 0x30 0x39)) (s : List ℕ) → wordy s ≡ true → wordy (put_in ds s) ≡ true
unfolding put_in
wordy_digits [] s h = h
wordy_digits (d ∷ ds) s h = wordy-cons d.byte (put_in ds s) (wordy_digit d) (wordy_digits ds s h)

wordy_exp : (e : Exp) → wordy (put_exp e []) ≡ true
unfolding put_exp put_exp_sign wordy ends_word_of class_of
wordy_exp G.noexp = refl
wordy_exp (G.exp G.small G.bare d ds) = wordy-cons d.byte (put_in ds []) (wordy_digit d) (wordy_digits ds [] refl)
wordy_exp (G.exp G.small G.positive d ds) = wordy-cons d.byte (put_in ds []) (wordy_digit d) (wordy_digits ds [] refl)
wordy_exp (G.exp G.small G.negative d ds) = wordy-cons d.byte (put_in ds []) (wordy_digit d) (wordy_digits ds [] refl)
wordy_exp (G.exp G.big G.bare d ds) = wordy-cons d.byte (put_in ds []) (wordy_digit d) (wordy_digits ds [] refl)
wordy_exp (G.exp G.big G.positive d ds) = wordy-cons d.byte (put_in ds []) (wordy_digit d) (wordy_digits ds [] refl)
wordy_exp (G.exp G.big G.negative d ds) = wordy-cons d.byte (put_in ds []) (wordy_digit d) (wordy_digits ds [] refl)

wordy_frac : (f : Frac) (s : List ℕ) → wordy s ≡ true → wordy (put_frac f s) ≡ true
unfolding put_frac wordy ends_word_of class_of
wordy_frac G.nofrac s h = h
wordy_frac (G.frac d ds) s h = wordy-cons d.byte (put_in ds s) (wordy_digit d) (wordy_digits ds s h)

wordy_int : (n : Int) (s : List ℕ) → wordy s ≡ true → wordy (put_int n s) ≡ true
unfolding put_int wordy ends_word_of class_of passes
wordy_int G.nought s h = h
wordy_int (G.whole x ds) s h = wordy-cons x.byte (put_in ds s) (in_range (λ b. not (ends_word_of b)) tt x) (wordy_digits ds s h)

pub wordy_literal : (l : Literal) → wordy (put_literal l []) ≡ true
unfolding put_literal wordy ends_word_of class_of
wordy_literal G.false_name = refl
wordy_literal G.null_name = refl
wordy_literal G.true_name = refl

pub wordy_number : (g : Minus) (n : Int) (f : Frac) (e : Exp) → wordy (put_minus g (put_int n (put_frac f (put_exp e [])))) ≡ true
unfolding put_minus wordy ends_word_of class_of
wordy_number G.unsigned n f e = wordy_int n (put_frac f (put_exp e [])) (wordy_frac f (put_exp e []) (wordy_exp e))
wordy_number G.minus n f e = wordy_int n (put_frac f (put_exp e [])) (wordy_frac f (put_exp e []) (wordy_exp e))

-- a byte that is passed at a glance ends no word
pub inner_word : (b : ℕ) → inner b ≡ true → is_word_byte b ≡ true
unfolding is_word_byte ends_word_of inner
inner_word b e = rw (ne_eqb (class_of b) 2 closing, ne_eqb (class_of b) 4 comma, ne_eqb (class_of b) 7 blank)
  where
    none : {x : ℕ} → inner x ≡ false → b ≡ x → ⊥
    none f q = false≢true (sym f ∙ ap inner (sym q) ∙ e)

    closing : class_of b ≡ 2 → ⊥
    closing h = ⊎_elim (none refl) (none refl) ((Class.closing_class b).0 h)

    comma : class_of b ≡ 4 → ⊥
    comma h = none refl ((Class.comma_class b).0 h)

    no_blank : (w : Blank) → b ≡ blank_byte w → ⊥
    no_blank B.space q = none refl q
    no_blank B.tab q = none refl q
    no_blank B.feed q = none refl q
    no_blank B.return q = none refl q

    blank : class_of b ≡ 7 → ⊥
    blank h = let w = (Class.blank_class b).0 h in no_blank w.0 w.1

-- the characters of a string as pieces
plain_in : {lo hi : ℕ} → T (passes lo hi bare) → In lo hi → Piece
unfolding bare
plain_in t x = plain x.byte (not-true (eqb x.byte 0x22 || eqb x.byte 0x5C) (in_range bare t x))

wide_pieces : Wide → List Piece
unfolding passes bare
wide_pieces (U.c2_df x y) = plain_in tt x ∷ plain_in tt y ∷ []
wide_pieces (U.e0 x y z) = plain_in tt x ∷ plain_in tt y ∷ plain_in tt z ∷ []
wide_pieces (U.e1_ec x y z) = plain_in tt x ∷ plain_in tt y ∷ plain_in tt z ∷ []
wide_pieces (U.ed x y z) = plain_in tt x ∷ plain_in tt y ∷ plain_in tt z ∷ []
wide_pieces (U.ee_ef x y z) = plain_in tt x ∷ plain_in tt y ∷ plain_in tt z ∷ []
wide_pieces (U.f0 x y z w) = plain_in tt x ∷ plain_in tt y ∷ plain_in tt z ∷ plain_in tt w ∷ []
wide_pieces (U.f1_f3 x y z w) = plain_in tt x ∷ plain_in tt y ∷ plain_in tt z ∷ plain_in tt w ∷ []
wide_pieces (U.f4 x y z w) = plain_in tt x ∷ plain_in tt y ∷ plain_in tt z ∷ plain_in tt w ∷ []

hex_piece : Hex → Piece
unfolding passes bare
hex_piece (H.digit x) = plain_in tt x
hex_piece (H.upper x) = plain_in tt x
hex_piece (H.lower x) = plain_in tt x

char_pieces : Char → List Piece
unfolding passes bare
char_pieces (G.low x) = plain_in tt x ∷ []
char_pieces (G.mid x) = plain_in tt x ∷ []
char_pieces (G.high x) = plain_in tt x ∷ []
char_pieces (G.wide p) = wide_pieces p
char_pieces (G.escaped x) = escaped (escape_byte x) ∷ []
char_pieces (G.unicode x y z w) = escaped 0x75 ∷ hex_piece x ∷ hex_piece y ∷ hex_piece z ∷ hex_piece w ∷ []

pub pieces : List Char → List Piece
unfolding char_pieces
pieces [] = []
pieces (c ∷ cs) = char_pieces c ++ pieces cs

pieces-append : (ps us : List Piece) (s : List ℕ) → put_pieces (ps ++ us) s ≡ put_pieces ps (put_pieces us s)
unfolding put_pieces
pieces-append [] us s = refl
pieces-append (plain b h ∷ ps) us s = ap (λ (x : List ℕ). b ∷ x) (pieces-append ps us s)
pieces-append (escaped b ∷ ps) us s = ap (λ (x : List ℕ). 0x5C ∷ b ∷ x) (pieces-append ps us s)

wide_are : (p : Wide) (s : List ℕ) → put_wide p s ≡ put_pieces (wide_pieces p) s
unfolding put_wide put_pieces wide_pieces plain_in
wide_are (U.c2_df x y) s = refl
wide_are (U.e0 x y z) s = refl
wide_are (U.e1_ec x y z) s = refl
wide_are (U.ed x y z) s = refl
wide_are (U.ee_ef x y z) s = refl
wide_are (U.f0 x y z w) s = refl
wide_are (U.f1_f3 x y z w) s = refl
wide_are (U.f4 x y z w) s = refl

hex_are : (h : Hex) (ps : List Piece) (s : List ℕ) → hex_byte h ∷ put_pieces ps s ≡ put_pieces (hex_piece h ∷ ps) s
unfolding put_pieces hex_piece plain_in
hex_are (H.digit x) ps s = refl
hex_are (H.upper x) ps s = refl
hex_are (H.lower x) ps s = refl

char_are : (c : Char) (s : List ℕ) → put_char c s ≡ put_pieces (char_pieces c) s
unfolding put_char put_pieces char_pieces plain_in
char_are (G.low x) s = refl
char_are (G.mid x) s = refl
char_are (G.high x) s = refl
char_are (G.wide p) s = wide_are p s
char_are (G.escaped x) s = refl
char_are (G.unicode x y z w) s =
    ap (λ (u : List ℕ). 0x5C ∷ 0x75 ∷ hex_byte x ∷ hex_byte y ∷ hex_byte z ∷ u) (hex_are w [] s)
    ∙ ap (λ (u : List ℕ). 0x5C ∷ 0x75 ∷ hex_byte x ∷ hex_byte y ∷ u) (hex_are z (hex_piece w ∷ []) s)
    ∙ ap (λ (u : List ℕ). 0x5C ∷ 0x75 ∷ hex_byte x ∷ u) (hex_are y (hex_piece z ∷ hex_piece w ∷ []) s)
    ∙ ap (λ (u : List ℕ). 0x5C ∷ 0x75 ∷ u) (hex_are x (hex_piece y ∷ hex_piece z ∷ hex_piece w ∷ []) s)

pub chars_are : (cs : List Char) (s : List ℕ) → put_chars cs s ≡ put_pieces (pieces cs) s
unfolding put_chars put_pieces pieces
chars_are [] s = refl
chars_are (c ∷ cs) s =
    ap (put_char c) (chars_are cs s) ∙ char_are c (put_pieces (pieces cs) s) ∙ sym (pieces-append (char_pieces c) (pieces cs) s)

-- every byte of a list is of the kind
abbrev pub AllOf : (ℕ → Bool) → List ℕ → Type 0
AllOf p [] = Unit {0}
AllOf p (b ∷ xs) = (p b ≡ true) × AllOf p xs

-- a character is an escape, or has neither a quote nor a backslash
wide_bare : (p : Wide) → AllOf bare (put_wide p [])
unfolding put_wide passes bare
wide_bare (U.c2_df x y) = (in_range bare tt x, (in_range bare tt y, tt))
wide_bare (U.e0 x y z) = (in_range bare tt x, (in_range bare tt y, (in_range bare tt z, tt)))
wide_bare (U.e1_ec x y z) = (in_range bare tt x, (in_range bare tt y, (in_range bare tt z, tt)))
wide_bare (U.ed x y z) = (in_range bare tt x, (in_range bare tt y, (in_range bare tt z, tt)))
wide_bare (U.ee_ef x y z) = (in_range bare tt x, (in_range bare tt y, (in_range bare tt z, tt)))
wide_bare (U.f0 x y z w) = (in_range bare tt x, (in_range bare tt y, (in_range bare tt z, (in_range bare tt w, tt))))
wide_bare (U.f1_f3 x y z w) = (in_range bare tt x, (in_range bare tt y, (in_range bare tt z, (in_range bare tt w, tt))))
wide_bare (U.f4 x y z w) = (in_range bare tt x, (in_range bare tt y, (in_range bare tt z, (in_range bare tt w, tt))))

pub data CharShape (c : Char) : Type 0 where
  escape : ((s : List ℕ) → (u : List ℕ) × (put_char c s ≡ 0x5C ∷ u)) → CharShape c
  itself : AllOf bare (put_char c []) → CharShape c

pub char_shape : (c : Char) → CharShape c
unfolding put_char passes bare
char_shape (G.low x) = itself (in_range bare tt x, tt)
char_shape (G.mid x) = itself (in_range bare tt x, tt)
char_shape (G.high x) = itself (in_range bare tt x, tt)
char_shape (G.wide p) = itself (wide_bare p)
char_shape (G.escaped x) = escape (λ s. (_, refl))
char_shape (G.unicode x y z w) = escape (λ s. (_, refl))
