-- Laws of the writers: `put x s` is the bytes of x alone and then s, so that places and lengths can be counted. Assumes nothing.
use Rattle.std.specs.Prelude.{◌≡◌, refl, List, [], ◌∷◌, ◌++◌, ℕ}
use Rattle.std.proofs.Common.{ap, ◌∙◌}
use Rattle.encoding.specs.Bytes.{In, put_in, Blank, Blanks, blank_byte, put_blanks}
use Rattle.encoding.specs.BytesLaws.{append_in, append_blanks}
use Rattle.encoding.specs.Utf8Laws.{append-wide}
use Rattle.query.specs.Escapes as E
use Rattle.query.specs.Escapes.{HexChar, put_hex_char}
use Rattle.query.specs.Grammar as G
use Rattle.query.specs.Grammar.{First, Later, Quote, Char, quote_byte, Position, Short, Inner, Depth, Segment, Spaced, Query}
use Rattle.query.specs.Grammar.{put_first, put_later, put_laters, put_char, put_chars, put_short, put_inner, put_dots, put_deep, put_segment}
use Rattle.query.specs.Grammar.{put_position, put_spaced, put_query}

-- bytes appended to what stands after x are appended to the whole

pub append-first : (x : First) (s u : List ℕ) → put_first x (s ++ u) ≡ put_first x s ++ u
unfolding put_first
append-first (G.upper x) s u = refl
append-first (G.lower x) s u = refl
append-first G.underscore s u = refl
append-first (First.wide p) s u = append-wide p s u

pub append-later : (c : Later) (s u : List ℕ) → put_later c (s ++ u) ≡ put_later c s ++ u
unfolding put_later
append-later (G.first x) s u = append-first x s u
append-later (G.digit x) s u = refl

pub append_laters : (cs : List Later) (s u : List ℕ) → put_laters cs (s ++ u) ≡ put_laters cs s ++ u
unfolding put_laters
append_laters [] s u = refl
append_laters (c ∷ cs) s u = ap (put_later c) (append_laters cs s u) ∙ append-later c (put_laters cs s) u

append_hex_char : (x : HexChar) (s u : List ℕ) → put_hex_char x (s ++ u) ≡ put_hex_char x s ++ u
unfolding put_hex_char
append_hex_char (E.usual x y z w) s u = refl
append_hex_char (E.below x y z w) s u = refl
append_hex_char (E.pair (x, y, z, w) (x', y', z', w')) s u = refl

pub append_char : {q : Quote} (c : Char q) (s u : List ℕ) → put_char c (s ++ u) ≡ put_char c s ++ u
unfolding put_char
append_char (G.low x) s u = refl
append_char (G.mid x) s u = refl
append_char (G.high x) s u = refl
append_char (Char.wide p) s u = append-wide p s u
append_char G.own s u = refl
append_char (G.escaped e) s u = refl
append_char (G.unicode x) s u = ap (λ (l : List ℕ). 0x5C ∷ 0x75 ∷ l) (append_hex_char x s u)

pub append_chars : {q : Quote} (cs : List (Char q)) (s u : List ℕ) → put_chars cs (s ++ u) ≡ put_chars cs s ++ u
unfolding put_chars
append_chars [] s u = refl
append_chars (c ∷ cs) s u = ap (put_char c) (append_chars cs s u) ∙ append_char c (put_chars cs s) u

pub append-short : (x : Short) (s u : List ℕ) → put_short x (s ++ u) ≡ put_short x s ++ u
unfolding put_short
append-short Short.star s u = refl
append-short (G.shorthand x cs) s u = ap (put_first x) (append_laters cs s u) ∙ append-first x (put_laters cs s) u

pub append_position : (p : Position) (s u : List ℕ) → put_position p (s ++ u) ≡ put_position p s ++ u
unfolding put_position
append_position G.zero s u = refl
append_position (G.digits d ds) s u = ap (λ (x : List ℕ). d.byte ∷ x) (append_in ds s u)

pub append-inner : (i : Inner) (s u : List ℕ) → put_inner i (s ++ u) ≡ put_inner i s ++ u
unfolding put_inner
append-inner Inner.star s u = refl
append-inner (G.quoted q cs) s u = ap (λ (x : List ℕ). quote_byte q ∷ x) (append_chars cs (quote_byte q ∷ s) u)
append-inner (G.position p small) s u = append_position p s u

pub append_dots : (d : Depth) (s u : List ℕ) → put_dots d (s ++ u) ≡ put_dots d s ++ u
unfolding put_dots
append_dots G.plain s u = refl
append_dots G.deep s u = refl

pub append-deep : (d : Depth) (s u : List ℕ) → put_deep d (s ++ u) ≡ put_deep d s ++ u
unfolding put_deep
append-deep G.plain s u = refl
append-deep G.deep s u = refl

pub append-segment : (g : Segment) (s u : List ℕ) → put_segment g (s ++ u) ≡ put_segment g s ++ u
unfolding put_segment
append-segment (G.dotted d x) s u = ap (put_dots d) (append-short x s u) ∙ append_dots d (put_short x s) u
append-segment (G.bracketed d w i w') s u =
    ap (λ (x : List ℕ). put_deep d (0x5B ∷ put_blanks w (put_inner i x))) (append_blanks w' (0x5D ∷ s) u) ∙
    ap (λ (x : List ℕ). put_deep d (0x5B ∷ put_blanks w x)) (append-inner i (put_blanks w' (0x5D ∷ s)) u) ∙
    ap (λ (x : List ℕ). put_deep d (0x5B ∷ x)) (append_blanks w (put_inner i (put_blanks w' (0x5D ∷ s))) u) ∙
    append-deep d (0x5B ∷ put_blanks w (put_inner i (put_blanks w' (0x5D ∷ s)))) u

pub append-spaced : (x : Spaced) (s u : List ℕ) → put_spaced x (s ++ u) ≡ put_spaced x s ++ u
unfolding put_spaced
append-spaced x s u =
    ap (put_blanks x.before) (append-segment x.segment s u) ∙ append_blanks x.before (put_segment x.segment s) u

pub append_query : (t : Query) (s u : List ℕ) → put_query t (s ++ u) ≡ put_query t s ++ u
unfolding put_query
append_query [] s u = refl
append_query (x ∷ t) s u = ap (put_spaced x) (append_query t s u) ∙ append-spaced x (put_query t s) u

-- one more at the end

pub blanks_more : (w : Blanks) (b : Blank) (s : List ℕ) → put_blanks (w ++ b ∷ []) s ≡ put_blanks w (blank_byte b ∷ s)
unfolding put_blanks
blanks_more [] b s = refl
blanks_more (x ∷ w) b s = ap (λ (u : List ℕ). blank_byte x ∷ u) (blanks_more w b s)

pub laters_more : (cs : List Later) (c : Later) (s : List ℕ) → put_laters (cs ++ c ∷ []) s ≡ put_laters cs (put_later c s)
unfolding put_laters
laters_more [] c s = refl
laters_more (x ∷ cs) c s = ap (put_later x) (laters_more cs c s)

pub chars_more : {q : Quote} (cs : List (Char q)) (c : Char q) (s : List ℕ) → put_chars (cs ++ c ∷ []) s ≡ put_chars cs (put_char c s)
unfolding put_chars
chars_more [] c s = refl
chars_more (x ∷ cs) c s = ap (put_char x) (chars_more cs c s)

pub digits_more : (ds : List (In 0x30 0x39)) (d : In 0x30 0x39) (s : List ℕ) → put_in (ds ++ d ∷ []) s ≡ put_in ds (d.byte ∷ s)
unfolding put_in
digits_more [] d s = refl
digits_more (x ∷ ds) d s = ap (λ (u : List ℕ). x.byte ∷ u) (digits_more ds d s)
