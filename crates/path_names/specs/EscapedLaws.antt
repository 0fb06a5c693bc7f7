-- A decoded name byte by byte is the name code point by code point; and half of a surrogate pair is among the escapes of a record's string just
-- if it is among its code points. Assumes nothing.
use Rattle.std.specs.Prelude.{◌≡◌, refl, List, [], ◌∷◌, ◌++◌, Bool, true, false, ◌&&◌, ◌||◌, ℕ, ◌<◌, eqb, leb, get_or, drop}
use Rattle.std.proofs.Math.Path.{sym, ap}
use Rattle.std.proofs.Common.{◌∙◌, append_assoc, true≢false, arith, ne_eqb, leb-true}
use Rattle.std.proofs.Math.Bool.{and-eq-true_iff}
use Rattle.bits.specs.Truth.{refuted}
use Rattle.encoding.specs.BytesLaws.{from_low, to_high}
use Rattle.encoding.specs.Hex.{hex_byte}
use Rattle.encoding.specs.Points.{point_of, is_high, is_low, joined, utf8, utf8s, points_in, points_due}
use Rattle.encoding.specs.PointsLaws.{point_read, utf8_append, wide_written}
use Rattle.encoding.specs.Unescape.{short_point_of, unit_at, low_at_of, pair_at, point_at, size_at, unescaped, spelt}
use Rattle.encoding.specs.UnescapeLaws.{unescaped-nil, unescaped_escape, unit_small, spelt_is}
use Rattle.encoding.specs.UnescapeLaws.{Character, narrow_character, wide_character, wide_no_low}
use Rattle.encoding.specs.Utf8.{Wide, put_wide}
use Rattle.json_text.specs.Grammar as G
use Rattle.json_text.specs.Grammar.{Escape, escape_byte, Char, put_char, put_chars}
use Rattle.json_text.specs.Points.{points_of}
use Rattle.json_text.specs.PointsLaws.{chars_spell}
use Rattle.paths.specs.Answer.{is_half_of, has_half}
use Rattle.paths.specs.Rendered.{rendered, put_name}
use Rattle.paths.specs.WideTree.{wide_high}
use Rattle.path_names.specs.Escaped.{put_escaped, half_escaped}
use Rattle.path_names.specs.HalfLaws.{half_nil, half_plain, half_escape}
use Rattle.path_names.specs.Pieces.{byte_piece}
use Rattle.path_names.specs.PiecesLaws.{High, none, more, utf8_high, point_escaped, byte_first}

-- the bytes alone, and what is after them
pub escaped-append : (bs s : List ℕ) → put_escaped bs s ≡ put_escaped bs [] ++ s
unfolding put_escaped
escaped-append [] s = refl
escaped-append (b ∷ bs) s =
    byte_first b bs s
    ∙ ap (λ (t : List ℕ). byte_piece b ++ t) (escaped-append bs s)
    ∙ sym (append_assoc (byte_piece b) (put_escaped bs []) s)
    ∙ ap (λ (t : List ℕ). t ++ s) (sym (byte_first b bs []))

pub name_escaped : (ns s : List ℕ) → put_name ns s ≡ put_escaped (utf8s ns) s
unfolding put_name put_escaped utf8s
name_escaped [] s = refl
name_escaped (n ∷ ns) s = ap (λ (t : List ℕ). rendered n (utf8 n t) t) (name_escaped ns s) ∙ sym (point_escaped n (utf8s ns) s)

-- the name of a record, once its escapes are decoded
pub chars_written : (cs : List Char) (s : List ℕ) → put_escaped (unescaped (put_chars cs [])) s ≡ put_name (points_of cs) s
chars_written cs s = ap (λ (t : List ℕ). put_escaped t s) (chars_spell cs).decoded.written ∙ sym (name_escaped (points_of cs) s)

-- a half is among the escapes just if it is among the code points that are spelt
abbrev SameHalf : List ℕ → Type 0
SameHalf s = half_escaped s ≡ has_half (spelt s)

nothing_half : SameHalf []
unfolding spelt points_in points_due has_half
nothing_half = half_nil ∙ sym (ap (λ (t : List ℕ). has_half (points_in t)) unescaped-nil)

-- a character that is no escape has none
module _ {put : List ℕ → List ℕ} {n : ℕ} (k : Character put n) (s : List ℕ) where
  scalar_half : is_half_of n ≡ false
  scalar_half =
      refuted (is_half_of n) (λ e.
      let h = (and-eq-true_iff (leb 0xD800 n) (leb n 0xDFFF)).0 e in
      k.scalar.no_half (leb-true 0xD800 n h.0) (leb-true n 0xDFFF h.1))

  first_spelt : spelt (put s) ≡ n ∷ spelt s
  unfolding spelt
  first_spelt = ap points_in (k.decodes s) ∙ point_read n (unescaped s) k.scalar.ranged

  plain_half : half_escaped (put s) ≡ half_escaped s → SameHalf s → SameHalf (put s)
  unfolding has_half
  plain_half e h = e ∙ h ∙ sym (ap has_half first_spelt ∙ ap (λ (x : Bool). x || has_half (spelt s)) scalar_half)

-- an escape has one if it stands for one
escape_half :
    (s : List ℕ) → point_at (0x5C ∷ s) < 0x110000 → SameHalf (drop (size_at (0x5C ∷ s)) (0x5C ∷ s)) → SameHalf (0x5C ∷ s)
unfolding spelt has_half
escape_half s h e =
    let t : List ℕ = 0x5C ∷ s in
    let rest = drop (size_at t) t in
    half_escape s
    ∙ ap (λ (x : Bool). is_half_of (point_at t) || x) e
    ∙ sym (ap has_half (ap points_in (unescaped_escape s) ∙ point_read (point_at t) (unescaped rest) h))

-- of bytes, and of what is left of them past a low half that they begin with
record Halves (s : List ℕ) : Type 0 where
  all : SameHalf s
  past : low_at_of s ≡ true → SameHalf (drop 6 s)

no_low : {s : List ℕ} → SameHalf s → low_at_of s ≡ false → Halves s
no_low h e = record { all = h; past = λ l. absurd (true≢false (sym l ∙ e)) }

narrow : (b : ℕ) {s : List ℕ} → b < 0x80 → (b ≡ 0x5C → ⊥) → Halves s → Halves (b ∷ s)
unfolding low_at_of
narrow b {s} l f h = no_low (plain_half (narrow_character b l f) s (half_plain b s f) h.all) (rw (ne_eqb b 0x5C f))

high_half : {u : List ℕ} → High u → (s : List ℕ) → half_escaped (u ++ s) ≡ half_escaped s
high_half none s = refl
high_half (more {b} {u} l h) s = half_plain b (u ++ s) (λ e. omega arith) ∙ high_half h s

wide : (p : Wide) {s : List ℕ} → Halves s → Halves (put_wide p s)
wide p {s} h =
    let bytes : put_wide p s ≡ utf8 (point_of p) [] ++ s = wide_written p s ∙ utf8_append (point_of p) s in
    no_low (plain_half (wide_character p) s (ap half_escaped bytes ∙ high_half (utf8_high (point_of p) (wide_high p)) s) h.all) (wide_no_low p s)

short : (b : ℕ) {s : List ℕ} → (b ≡ 0x75 → ⊥) → short_point_of b < 0x80 → Halves s → Halves (0x5C ∷ b ∷ s)
unfolding low_at_of point_at size_at
short b {s} f l h =
    let ranged : point_at (0x5C ∷ b ∷ s) < 0x110000 = rw (ne_eqb b 0x75 f) (omega arith) in
    no_low (escape_half (b ∷ s) ranged (rw (ne_eqb b 0x75 f) h.all)) (rw (ne_eqb b 0x75 f))

escaped : (e : Escape) {s : List ℕ} → Halves s → Halves (0x5C ∷ escape_byte e ∷ s)
unfolding short_point_of
escaped G.quote h = short 0x22 (λ e. omega arith) (omega arith) h
escaped G.backslash h = short 0x5C (λ e. omega arith) (omega arith) h
escaped G.slash h = short 0x2F (λ e. omega arith) (omega arith) h
escaped G.backspace h = short 0x62 (λ e. omega arith) (omega arith) h
escaped G.form h = short 0x66 (λ e. omega arith) (omega arith) h
escaped G.line h = short 0x6E (λ e. omega arith) (omega arith) h
escaped G.carriage h = short 0x72 (λ e. omega arith) (omega arith) h
escaped G.tabulator h = short 0x74 (λ e. omega arith) (omega arith) h

-- two that are a pair are one code point
pair_low : (t : List ℕ) → pair_at t ≡ true → low_at_of (drop 6 t) ≡ true
unfolding pair_at
pair_low t e = ((and-eq-true_iff (is_high (unit_at t)) (low_at_of (drop 6 t))).0 e).1

pair_ranged : (t : List ℕ) → pair_at t ≡ true → joined (unit_at t) (unit_at (drop 6 t)) < 0x110000
unfolding pair_at low_at_of
pair_ranged t e =
    let low = drop 6 t in
    let both = (and-eq-true_iff (is_high (unit_at t)) (low_at_of low)).0 e in
    let second = (and-eq-true_iff (eqb (get_or low 0 0) 0x5C) (eqb (get_or low 1 0) 0x75 && is_low (unit_at low))).0 both.1 in
    let half = (and-eq-true_iff (eqb (get_or low 1 0) 0x75) (is_low (unit_at low))).0 second.1 in
    omega (
      arith,
      leb-true (unit_at t) 0xDBFF ((and-eq-true_iff (leb 0xD800 (unit_at t)) (leb (unit_at t) 0xDBFF)).0 both.0).1,
      leb-true (unit_at low) 0xDFFF ((and-eq-true_iff (leb 0xDC00 (unit_at low)) (leb (unit_at low) 0xDFFF)).0 half.1).1,
    )

unicode : (a b c d : ℕ) {s : List ℕ} → Halves s → Halves (0x5C ∷ 0x75 ∷ a ∷ b ∷ c ∷ d ∷ s)
unfolding point_at size_at
unicode a b c d {s} h = record { all = by (pair_at t) refl; past = λ e. h.all }
  where
    t : List ℕ
    t = 0x5C ∷ 0x75 ∷ a ∷ b ∷ c ∷ d ∷ s

    by : (x : Bool) → pair_at t ≡ x → SameHalf t
    by true e =
        let ranged : point_at t < 0x110000 = rw e (pair_ranged t e) in
        escape_half (0x75 ∷ a ∷ b ∷ c ∷ d ∷ s) ranged (rw e (h.past (pair_low t e)))
    by false e =
        let ranged : point_at t < 0x110000 = rw e (omega (arith, unit_small t)) in
        escape_half (0x75 ∷ a ∷ b ∷ c ∷ d ∷ s) ranged (rw e h.all)

chars_halves : (cs : List Char) → Halves (put_chars cs [])
unfolding put_chars put_char low_at_of
chars_halves [] = no_low nothing_half refl
chars_halves (G.low x ∷ cs) = narrow x.byte (omega (arith, to_high x)) (λ e. omega (arith, to_high x)) (chars_halves cs)
chars_halves (G.mid x ∷ cs) = narrow x.byte (omega (arith, to_high x)) (λ e. omega (arith, to_high x)) (chars_halves cs)
chars_halves (G.high x ∷ cs) = narrow x.byte (omega (arith, to_high x)) (λ e. omega (arith, from_low x)) (chars_halves cs)
chars_halves (G.wide p ∷ cs) = wide p (chars_halves cs)
chars_halves (G.escaped e ∷ cs) = escaped e (chars_halves cs)
chars_halves (G.unicode x y z w ∷ cs) = unicode (hex_byte x) (hex_byte y) (hex_byte z) (hex_byte w) (chars_halves cs)

pub chars_half : (cs : List Char) → half_escaped (put_chars cs []) ≡ has_half (points_of cs)
chars_half cs = (chars_halves cs).all ∙ ap has_half (spelt_is (chars_spell cs))
