-- The bytes of a name as it is written spell its code points, and none of these is half of a pair: so a step as it is written, decoded, is
-- the step that its tree is. Assumes nothing.
use Rattle.std.specs.Prelude.{◌≡◌, refl, Bool, true, ◌⊎◌, ℕ, ◌-◌, ◌<◌, ◌≤◌}
use Rattle.std.proofs.Common.{sym, ap, ap₂, subst, ◌∙◌, inl, inr, arith}
use mathlib.Core.List.Memᴰ
use mathlib.Core.List.{List, [], ◌∷◌, map, Memᴰ}
use Rattle.encoding.specs.Bytes.{In}
use Rattle.encoding.specs.BytesLaws.{inside, make, from_low, to_high}
use Rattle.encoding.specs.Hex as H
use Rattle.encoding.specs.Hex.{Hex, hex_byte, hex_digit, four_digits}
use Rattle.encoding.specs.Points as P
use Rattle.encoding.specs.Points.{is_high, is_low, joined, utf8, utf8s, HasHalf, here, there}
use Rattle.encoding.specs.PointsLaws.{Scalar, scalar_high}
use Rattle.encoding.specs.Unescape.{hex_value, short_point_of, unescaped, Spells}
use Rattle.encoding.specs.UnescapeLaws.{unescaped-nil, escape_alone, escape_pair, not_high, hex_value_lem, hex_range, hex_small, spelt_is}
use Rattle.encoding.specs.UnescapeLaws.{Character, narrow_character, short_character, wide_character}
use Rattle.query.specs.Escapes as E
use Rattle.query.specs.Escapes.{Escape, escape_byte, escape_point, NotD, not_d_byte, not_d_digit, D, d_byte, EightToB, eight_to_b_byte, eight_to_b_digit}
use Rattle.query.specs.Escapes.{CToF, c_to_f_byte, c_to_f_digit, HexChar, put_hex_char, hex_char_point}
use Rattle.query.specs.Grammar as G
use Rattle.query.specs.Grammar.{First, Later, Quote, quote_byte, before_quote, Char, Short, Inner, Segment, Query}
use Rattle.query.specs.Grammar.{put_first, put_later, put_laters, put_char, put_chars, first_point, later_point, char_point, short_points, quoted_points}
use Rattle.query.specs.Grammar.{is_deep, short_selector, inner_selector, segment_step, steps_of}
use Rattle.query.specs.Steps.{Selector, Step}
use Rattle.query.specs.Steps as S
use Rattle.query.specs.Read.{name_bytes}
use Rattle.query.specs.Verdict.{decoded, decoded_step}
use Rattle.query.specs.Written.{short_written, inner_written, segment_written}

-- the digits of an escape by their bytes

module _ {lo hi : ℕ} (x : In lo hi) where
  digit_value : 0x30 ≤ lo → hi ≤ 0x39 → hex_value x.byte ≡ x.byte - 0x30
  unfolding make
  digit_value l h = hex_value_lem (H.digit (make x.byte (omega (arith, from_low x)) (omega (arith, to_high x))))

  upper_value : 0x41 ≤ lo → hi ≤ 0x46 → hex_value x.byte ≡ x.byte - 0x37
  unfolding make
  upper_value l h = hex_value_lem (H.upper (make x.byte (omega (arith, from_low x)) (omega (arith, to_high x))))

  lower_value : 0x61 ≤ lo → hi ≤ 0x66 → hex_value x.byte ≡ x.byte - 0x57
  unfolding make
  lower_value l h = hex_value_lem (H.lower (make x.byte (omega (arith, from_low x)) (omega (arith, to_high x))))

not_d_value : (x : NotD) → hex_value (not_d_byte x) ≡ not_d_digit x
not_d_value (E.digit x) = digit_value x (omega arith) (omega arith)
not_d_value (E.upper_a_c x) = upper_value x (omega arith) (omega arith)
not_d_value (E.upper_e_f x) = upper_value x (omega arith) (omega arith)
not_d_value (E.lower_a_c x) = lower_value x (omega arith) (omega arith)
not_d_value (E.lower_e_f x) = lower_value x (omega arith) (omega arith)

d_value : (x : D) → hex_value (d_byte x) ≡ 13
unfolding hex_value
d_value E.upper = refl
d_value E.lower = refl

high_value : (y : EightToB) → hex_value (eight_to_b_byte y) ≡ eight_to_b_digit y
high_value (E.digit y) = digit_value y (omega arith) (omega arith)
high_value (E.upper y) = upper_value y (omega arith) (omega arith)
high_value (E.lower y) = lower_value y (omega arith) (omega arith)

low_value : (y : CToF) → hex_value (c_to_f_byte y) ≡ c_to_f_digit y
low_value (E.upper y) = upper_value y (omega arith) (omega arith)
low_value (E.lower y) = lower_value y (omega arith) (omega arith)

-- and their bounds

not_d_small : (x : NotD) → not_d_digit x < 16
not_d_small x = omega (arith, hex_small (not_d_byte x), not_d_value x)

not_thirteen : (x : NotD) → not_d_digit x ≡ 13 → ⊥
not_thirteen (E.digit x) e = omega (arith, to_high x)
not_thirteen (E.upper_a_c x) e = omega (arith, to_high x)
not_thirteen (E.upper_e_f x) e = omega (arith, from_low x)
not_thirteen (E.lower_a_c x) e = omega (arith, to_high x)
not_thirteen (E.lower_e_f x) e = omega (arith, from_low x)

high_bounds : (y : EightToB) → (8 ≤ eight_to_b_digit y) × (eight_to_b_digit y ≤ 11)
high_bounds (E.digit y) = (omega (arith, from_low y), omega (arith, to_high y))
high_bounds (E.upper y) = (omega (arith, from_low y), omega (arith, to_high y))
high_bounds (E.lower y) = (omega (arith, from_low y), omega (arith, to_high y))

low_bounds : (y : CToF) → (12 ≤ c_to_f_digit y) × (c_to_f_digit y ≤ 15)
low_bounds (E.upper y) = (omega (arith, from_low y), omega (arith, to_high y))
low_bounds (E.lower y) = (omega (arith, from_low y), omega (arith, to_high y))

-- the two halves of a pair

module _ (z w : Hex) where
  high_half : (y : EightToB) → is_high (four_digits 13 (eight_to_b_digit y) (hex_digit z) (hex_digit w)) ≡ true
  high_half y =
      let b = high_bounds y in
      inside 0xD800 0xDBFF (four_digits 13 (eight_to_b_digit y) (hex_digit z) (hex_digit w)) (omega (arith, b.0))
      (omega (arith, b.1, hex_range z, hex_range w))

  low_half : (y : CToF) → is_low (four_digits 13 (c_to_f_digit y) (hex_digit z) (hex_digit w)) ≡ true
  low_half y =
      let b = low_bounds y in
      inside 0xDC00 0xDFFF (four_digits 13 (c_to_f_digit y) (hex_digit z) (hex_digit w)) (omega (arith, b.0))
      (omega (arith, b.1, hex_range z, hex_range w))

-- characters as themselves

first_character : (x : First) → Character (put_first x) (first_point x)
unfolding put_first first_point
first_character (G.upper x) = narrow_character x.byte (omega (arith, to_high x)) (λ e. omega (arith, to_high x))
first_character (G.lower x) = narrow_character x.byte (omega (arith, to_high x)) (λ e. omega (arith, from_low x))
first_character G.underscore = narrow_character 0x5F (omega arith) (λ e. omega arith)
first_character (First.wide p) = wide_character p

later_character : (c : Later) → Character (put_later c) (later_point c)
unfolding put_later later_point
later_character (G.first x) = first_character x
later_character (G.digit x) = narrow_character x.byte (omega (arith, to_high x)) (λ e. omega (arith, to_high x))

-- by a backslash and one byte

own_character : (q : Quote) → Character (λ s. 0x5C ∷ quote_byte q ∷ s) (quote_byte q)
unfolding short_point_of
own_character G.single = short_character 0x27 0x27 (λ e. omega arith) refl (omega arith)
own_character G.double = short_character 0x22 0x22 (λ e. omega arith) refl (omega arith)

escape_character : (e : Escape) → Character (λ s. 0x5C ∷ escape_byte e ∷ s) (escape_point e)
unfolding short_point_of
escape_character E.backspace = short_character 0x62 0x08 (λ e. omega arith) refl (omega arith)
escape_character E.form = short_character 0x66 0x0C (λ e. omega arith) refl (omega arith)
escape_character E.line = short_character 0x6E 0x0A (λ e. omega arith) refl (omega arith)
escape_character E.carriage = short_character 0x72 0x0D (λ e. omega arith) refl (omega arith)
escape_character E.tabulator = short_character 0x74 0x09 (λ e. omega arith) refl (omega arith)
escape_character E.slash = short_character 0x2F 0x2F (λ e. omega arith) refl (omega arith)
escape_character E.backslash = short_character 0x5C 0x5C (λ e. omega arith) refl (omega arith)

-- by its number

hex_char_scalar : (x : HexChar) → Scalar (hex_char_point x)
unfolding hex_char_point
hex_char_scalar (E.usual x y z w) =
    record {
      ranged = omega (arith, not_d_small x, hex_range y, hex_range z, hex_range w);
      no_half = λ l h. not_thirteen x (omega (arith, hex_range y, hex_range z, hex_range w));
    }
hex_char_scalar (E.below x y z w) =
    record {
      ranged = omega (arith, to_high y, hex_range z, hex_range w);
      no_half = λ l h. omega (arith, to_high y, hex_range z, hex_range w);
    }
hex_char_scalar (E.pair (x, y, z, w) (x', y', z', w')) =
    let b = high_bounds y in let b' = low_bounds y' in
    record {
      ranged = omega (arith, b.1, b'.1, hex_range z, hex_range w, hex_range z', hex_range w');
      no_half = λ l h. omega arith;
    }

alone : (a b c d n : ℕ) (s : List ℕ) → four_digits (hex_value a) (hex_value b) (hex_value c) (hex_value d) ≡ n → Scalar n →
    unescaped (0x5C ∷ 0x75 ∷ a ∷ b ∷ c ∷ d ∷ s) ≡ utf8 n (unescaped s)
alone a b c d n s e k =
    escape_alone a b c d s (not_high a b c d s (ap is_high e ∙ scalar_high k)) ∙ ap (λ (m : ℕ). utf8 m (unescaped s)) e

hex_char_decoded : (x : HexChar) (s : List ℕ) → unescaped (0x5C ∷ 0x75 ∷ put_hex_char x s) ≡ utf8 (hex_char_point x) (unescaped s)
unfolding put_hex_char hex_char_point
hex_char_decoded (E.usual x y z w) s =
    alone (not_d_byte x) (hex_byte y) (hex_byte z) (hex_byte w) _ s (rw (not_d_value x, hex_value_lem y, hex_value_lem z, hex_value_lem w))
    (hex_char_scalar (E.usual x y z w))
hex_char_decoded (E.below x y z w) s =
    alone (d_byte x) y.byte (hex_byte z) (hex_byte w) _ s
    (rw (d_value x, digit_value y (omega arith) (omega arith), hex_value_lem z, hex_value_lem w)) (hex_char_scalar (E.below x y z w))
hex_char_decoded (E.pair (x, y, z, w) (x', y', z', w')) s =
    let e : four_digits (hex_value (d_byte x)) (hex_value (eight_to_b_byte y)) (hex_value (hex_byte z)) (hex_value (hex_byte w)) ≡
    four_digits 13 (eight_to_b_digit y) (hex_digit z) (hex_digit w) = rw (d_value x, high_value y, hex_value_lem z, hex_value_lem w) in
    let e' : four_digits (hex_value (d_byte x')) (hex_value (c_to_f_byte y')) (hex_value (hex_byte z')) (hex_value (hex_byte w')) ≡
    four_digits 13 (c_to_f_digit y') (hex_digit z') (hex_digit w') = rw (d_value x', low_value y', hex_value_lem z', hex_value_lem w') in
    escape_pair (d_byte x) (eight_to_b_byte y) (hex_byte z) (hex_byte w) (d_byte x') (c_to_f_byte y') (hex_byte z') (hex_byte w') s
    (ap is_high e ∙ high_half z w y) (ap is_low e' ∙ low_half z' w' y') ∙
    ap₂ (λ (n m : ℕ). utf8 (joined n m) (unescaped s)) e e'

below_quote : (q : Quote) (x : In 0x20 (before_quote q)) → x.byte < 0x5C
below_quote G.single x = omega (arith, to_high x)
below_quote G.double x = omega (arith, to_high x)

char_character : {q : Quote} (c : Char q) → Character (put_char c) (char_point c)
unfolding put_char char_point
char_character {q} (G.low x) = narrow_character x.byte (omega (arith, below_quote q x)) (λ e. omega (arith, below_quote q x))
char_character {q} (G.mid x) = narrow_character x.byte (omega (arith, to_high x)) (λ e. omega (arith, to_high x))
char_character {q} (G.high x) = narrow_character x.byte (omega (arith, to_high x)) (λ e. omega (arith, from_low x))
char_character {q} (Char.wide p) = wide_character p
char_character {q} G.own = own_character q
char_character {q} (G.escaped e) = escape_character e
char_character {q} (G.unicode x) = record { scalar = hex_char_scalar x; decodes = hex_char_decoded x }

-- bytes that spell these code points, none of them a half
record Whole (s points : List ℕ) : Type 0 where
  spells : Spells s points
  whole : HasHalf points → ⊥

nil-whole : HasHalf [] → ⊥
nil-whole h = elim h [ ]

none : Whole [] []
unfolding utf8s
none = record { spells = record { decoded = record { written = unescaped-nil; ranged = P.none } }; whole = nil-whole }

more : {put : List ℕ → List ℕ} {n : ℕ} {s points : List ℕ} → Character put n → Whole s points → Whole (put s) (n ∷ points)
unfolding utf8s
more {put} {n} {s} {points} c k =
    record {
      spells =
          record {
            decoded =
                record {
                  written = c.decodes s ∙ ap (utf8 n) k.spells.decoded.written;
                  ranged = P.more c.scalar.ranged k.spells.decoded.ranged;
                };
          };
      whole = half;
    }
  where
    half : HasHalf (n ∷ points) → ⊥
    half (here l h) = c.scalar.no_half l h
    half (there h) = k.whole h

laters_name : (cs : List Later) → Whole (put_laters cs []) (map later_point cs)
unfolding put_laters
laters_name [] = none
laters_name (c ∷ cs) = more (later_character c) (laters_name cs)

short_name : (x : First) (cs : List Later) → Whole (put_first x (put_laters cs [])) (short_points x cs)
unfolding short_points
short_name x cs = more (first_character x) (laters_name cs)

quoted_name : {q : Quote} (cs : List (Char q)) → Whole (put_chars cs []) (quoted_points cs)
unfolding put_chars quoted_points
quoted_name [] = none
quoted_name (c ∷ cs) = more (char_character c) (quoted_name cs)

-- the bytes of a name spell its code points

pub short_spells : (x : First) (cs : List Later) → Spells (put_first x (put_laters cs [])) (short_points x cs)
short_spells x cs = (short_name x cs).spells

pub quoted_spells : {q : Quote} (cs : List (Char q)) → Spells (put_chars cs []) (quoted_points cs)
quoted_spells cs = (quoted_name cs).spells

-- none of these is half of a pair

pub short_whole : (x : First) (cs : List Later) → HasHalf (short_points x cs) → ⊥
short_whole x cs = (short_name x cs).whole

pub quoted_whole : {q : Quote} (cs : List (Char q)) → HasHalf (quoted_points cs) → ⊥
quoted_whole cs = (quoted_name cs).whole

-- a step as it is written, decoded, is the step that its tree is

short_decoded : (x : Short) → decoded (short_written x) ≡ short_selector x
unfolding decoded short_written short_selector
short_decoded Short.star = refl
short_decoded (G.shorthand x cs) = ap S.name (spelt_is (short_spells x cs))

inner_decoded : (i : Inner) → decoded (inner_written i) ≡ inner_selector i
unfolding decoded inner_written inner_selector
inner_decoded Inner.star = refl
inner_decoded (G.quoted q cs) = ap S.name (spelt_is (quoted_spells cs))
inner_decoded (G.position p small) = refl

abbrev step_of : Bool → Selector → Step
step_of d x = record { deep = d; selector = x }

pub written_decoded : (x : Segment) → decoded_step (segment_written x) ≡ segment_step x
unfolding decoded_step segment_written segment_step
written_decoded (G.dotted d x) = ap (step_of (is_deep d)) (short_decoded x)
written_decoded (G.bracketed d w i w') = ap (step_of (is_deep d)) (inner_decoded i)

-- no name of a query has half of a pair

segment_whole : (x : Segment) → HasHalf (name_bytes (segment_step x).selector) → ⊥
unfolding segment_step
segment_whole (G.dotted d Short.star) h = nil-whole h
segment_whole (G.dotted d (G.shorthand x cs)) h = short_whole x cs h
segment_whole (G.bracketed d w Inner.star w') h = nil-whole h
segment_whole (G.bracketed d w (G.quoted q cs) w') h = quoted_whole cs h
segment_whole (G.bracketed d w (G.position p small) w') h = nil-whole h

pub name_whole : (t : Query) (w : List ℕ) (x : Step) → Memᴰ x (steps_of t) → x.selector ≡ S.name w → HasHalf w → ⊥
unfolding steps_of
name_whole [] w x m e h = Memᴰ.not-nil m
name_whole (y ∷ t) w x m e h = go (Memᴰ.cases_cons m) (λ k. name_whole t w x k e h)
  where
    go : (x ≡ segment_step y.segment) ⊎ Memᴰ x (steps_of t) → (Memᴰ x (steps_of t) → ⊥) → ⊥
    go (inl f) again =
        segment_whole y.segment (subst HasHalf (ap name_bytes (sym e) ∙ ap (λ (z : Step). name_bytes z.selector) f) h)
    go (inr k) again = again k
