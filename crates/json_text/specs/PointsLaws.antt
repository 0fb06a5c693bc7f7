-- A string of a record spells its code points: its bytes, decoded, are their UTF-8. Assumes nothing.
use Rattle.std.specs.Prelude.{◌≡◌, Bool, ◌&&◌, ℕ, ◌<◌, leb}
use Rattle.std.proofs.Math.Path.{refl, sym, ap, ap₂}
use Rattle.std.proofs.Common.{◌∙◌, arith, leb-true, ne_eqb}
use mathlib.Core.List.{List, [], ◌∷◌}
use Rattle.std.proofs.Math.Bool.{true, false, and-false, and-eq-true_iff}
use Rattle.encoding.specs.Bytes.{In}
use Rattle.encoding.specs.BytesLaws.{from_low, to_high}
use Rattle.encoding.specs.Hex.{Hex, hex_byte, hex_number}
use Rattle.encoding.specs.Points.{if_else, is_high, is_low, joined, utf8, utf8s, Ranged, none, more}
use Rattle.encoding.specs.PointsLaws.{scalar_high, scalar_low}
use Rattle.encoding.specs.Unescape.{short_point_of, unit_at, low_at_of, pair_at, unescaped, Spells}
use Rattle.encoding.specs.UnescapeLaws.{unescaped-nil, escape_alone, escape_pair, not_high, not_low, hex_number_lem, hex_range}
use Rattle.encoding.specs.UnescapeLaws.{Character, narrow_character, short_character, wide_character, wide_no_low}
use Rattle.encoding.specs.Utf8.{Wide}
use Rattle.json_text.specs.Grammar as G
use Rattle.json_text.specs.Grammar.{Escape, escape_byte, Char, put_char, put_chars}
use Rattle.json_text.specs.Points.{escape_point, unit_of, units_of, join, points_of}

-- a character other than `\u`: it is a code point, is decoded to it, and begins no low half
record Plain (put : List ℕ → List ℕ) (n : ℕ) : Type 0 where
  character : Character put n
  no_low : (s : List ℕ) → low_at_of (put s) ≡ false

narrow : (b : ℕ) → b < 0x80 → (b ≡ 0x5C → ⊥) → Plain (λ s. b ∷ s) b
unfolding low_at_of
narrow b h f = record { character = narrow_character b h f; no_low = λ s. rw (ne_eqb b 0x5C f) }

short : (b n : ℕ) → (b ≡ 0x75 → ⊥) → short_point_of b ≡ n → n < 0x80 → Plain (λ s. 0x5C ∷ b ∷ s) n
unfolding low_at_of
short b n f e h = record { character = short_character b n f e h; no_low = λ s. rw (ne_eqb b 0x75 f) }

escape_plain : (e : Escape) → Plain (λ s. 0x5C ∷ escape_byte e ∷ s) (escape_point e)
unfolding short_point_of
escape_plain G.quote = short 0x22 0x22 (λ e. omega arith) refl (omega arith)
escape_plain G.backslash = short 0x5C 0x5C (λ e. omega arith) refl (omega arith)
escape_plain G.slash = short 0x2F 0x2F (λ e. omega arith) refl (omega arith)
escape_plain G.backspace = short 0x62 0x08 (λ e. omega arith) refl (omega arith)
escape_plain G.form = short 0x66 0x0C (λ e. omega arith) refl (omega arith)
escape_plain G.line = short 0x6E 0x0A (λ e. omega arith) refl (omega arith)
escape_plain G.carriage = short 0x72 0x0D (λ e. omega arith) refl (omega arith)
escape_plain G.tabulator = short 0x74 0x09 (λ e. omega arith) refl (omega arith)

abbrev IsPlain : Char → Type 0
IsPlain c = Plain (put_char c) (unit_of c)

low_plain : (x : In 0x20 0x21) → IsPlain (G.low x)
unfolding unit_of put_char
low_plain x = narrow x.byte (omega (arith, to_high x)) (λ e. omega (arith, to_high x))

mid_plain : (x : In 0x23 0x5B) → IsPlain (G.mid x)
unfolding unit_of put_char
mid_plain x = narrow x.byte (omega (arith, to_high x)) (λ e. omega (arith, to_high x))

high_plain : (x : In 0x5D 0x7F) → IsPlain (G.high x)
unfolding unit_of put_char
high_plain x = narrow x.byte (omega (arith, to_high x)) (λ e. omega (arith, from_low x))

wide_plain : (p : Wide) → IsPlain (G.wide p)
unfolding unit_of put_char
wide_plain p = record { character = wide_character p; no_low = wide_no_low p }

escaped_plain : (e : Escape) → IsPlain (G.escaped e)
unfolding unit_of put_char
escaped_plain e = escape_plain e

-- a number that is no high half, one before a number that is no low half, and a pair
module _ (u : ℕ) where
  join_alone : (us : List ℕ) → is_high u ≡ false → join (u ∷ us) ≡ u ∷ join us
  unfolding join
  join_alone [] e = refl
  join_alone (v ∷ us) e = rw e

  join_before : (v : ℕ) (us : List ℕ) → is_low v ≡ false → join (u ∷ v ∷ us) ≡ u ∷ join (v ∷ us)
  unfolding join
  join_before v us e = rw (e, and-false (is_high u))

  join_pair : (v : ℕ) (us : List ℕ) → is_high u ≡ true → is_low v ≡ true → join (u ∷ v ∷ us) ≡ joined u v ∷ join us
  unfolding join
  join_pair v us e f = rw (e, f)

-- the bytes of these characters, decoded, are the UTF-8 of their code points
abbrev Decodes : List Char → Type 0
Decodes cs = unescaped (put_chars cs []) ≡ utf8s (join (units_of cs))

nothing : Decodes []
unfolding put_chars units_of join utf8s
nothing = unescaped-nil

plain_first : (c : Char) (cs : List Char) → IsPlain c → Decodes cs → Decodes (c ∷ cs)
unfolding put_chars units_of utf8s
plain_first c cs p e =
    p.character.decodes (put_chars cs [])
    ∙ ap (utf8 (unit_of c)) e
    ∙ sym (ap utf8s (join_alone (unit_of c) (units_of cs) (scalar_high p.character.scalar)))

-- what follows begins no low half, by its bytes and by its numbers
record NoLow (u : ℕ) (cs : List Char) : Type 0 where
  bytes : low_at_of (put_chars cs []) ≡ false
  numbers : join (u ∷ units_of cs) ≡ u ∷ join (units_of cs)

end_no_low : (u : ℕ) → NoLow u []
unfolding put_chars low_at_of join units_of
end_no_low u = record { bytes = refl; numbers = refl }

plain_no_low : (u : ℕ) (c : Char) (cs : List Char) → IsPlain c → NoLow u (c ∷ cs)
unfolding put_chars units_of
plain_no_low u c cs p =
    record { bytes = p.no_low (put_chars cs []); numbers = join_before u (unit_of c) (units_of cs) (scalar_low p.character.scalar) }

abbrev pair_before : Hex → Hex → Hex → Hex → List ℕ → Bool
pair_before x y z w s = pair_at (0x5C ∷ 0x75 ∷ hex_byte x ∷ hex_byte y ∷ hex_byte z ∷ hex_byte w ∷ s)

module _ (x y z w : Hex) where
  -- `\u` that is joined with nothing
  unicode_alone : (cs : List Char) → pair_before x y z w (put_chars cs []) ≡ false
      → join (hex_number x y z w ∷ units_of cs) ≡ hex_number x y z w ∷ join (units_of cs) → Decodes cs → Decodes (G.unicode x y z w ∷ cs)
  unfolding put_chars put_char units_of unit_of utf8s
  unicode_alone cs p j e =
      escape_alone (hex_byte x) (hex_byte y) (hex_byte z) (hex_byte w) (put_chars cs []) p
      ∙ ap (λ (n : ℕ). utf8 n (unescaped (put_chars cs []))) (hex_number_lem x y z w)
      ∙ ap (utf8 (hex_number x y z w)) e
      ∙ sym (ap utf8s j)

  unicode_first : (cs : List Char) → NoLow (hex_number x y z w) cs → Decodes cs → Decodes (G.unicode x y z w ∷ cs)
  unicode_first cs n =
      unicode_alone cs (not_low (hex_byte x) (hex_byte y) (hex_byte z) (hex_byte w) (put_chars cs []) n.bytes) n.numbers

  -- two of them, which are a pair where the first is a high half and the second a low one
  module _ (x' y' z' w' : Hex) (cs : List Char) where
    second_low : low_at_of (put_chars (G.unicode x' y' z' w' ∷ cs) []) ≡ is_low (hex_number x' y' z' w')
    unfolding put_chars put_char low_at_of unit_at
    second_low = ap is_low (hex_number_lem x' y' z' w')

    unicode_second : Decodes cs → Decodes (G.unicode x' y' z' w' ∷ cs) → Decodes (G.unicode x y z w ∷ G.unicode x' y' z' w' ∷ cs)
    unfolding put_chars put_char units_of unit_of utf8s
    unicode_second e e' = by (is_high (hex_number x y z w)) refl (is_low (hex_number x' y' z' w')) refl
      where
        by : (h : Bool) → is_high (hex_number x y z w) ≡ h → (l : Bool) → is_low (hex_number x' y' z' w') ≡ l
            → Decodes (G.unicode x y z w ∷ G.unicode x' y' z' w' ∷ cs)
        by true p true q =
            escape_pair (hex_byte x) (hex_byte y) (hex_byte z) (hex_byte w) (hex_byte x') (hex_byte y') (hex_byte z') (hex_byte w') (put_chars cs [])
            (ap is_high (hex_number_lem x y z w) ∙ p) (ap is_low (hex_number_lem x' y' z' w') ∙ q)
            ∙ ap₂ (λ (n m : ℕ). utf8 (joined n m) (unescaped (put_chars cs []))) (hex_number_lem x y z w) (hex_number_lem x' y' z' w')
            ∙ ap (utf8 (joined (hex_number x y z w) (hex_number x' y' z' w'))) e
            ∙ sym (ap utf8s (join_pair (hex_number x y z w) (hex_number x' y' z' w') (units_of cs) p q))
        by true p false q =
            unicode_first (G.unicode x' y' z' w' ∷ cs)
            (record { bytes = second_low ∙ q; numbers = join_before (hex_number x y z w) (hex_number x' y' z' w') (units_of cs) q }) e'
        by false p l q =
            unicode_alone (G.unicode x' y' z' w' ∷ cs)
            (not_high (hex_byte x) (hex_byte y) (hex_byte z) (hex_byte w) (put_chars (G.unicode x' y' z' w' ∷ cs) []) (ap is_high (hex_number_lem x y z w) ∙ p))
            (join_alone (hex_number x y z w) (hex_number x' y' z' w' ∷ units_of cs) p) e'

  unicode_plain : (c : Char) (cs : List Char) → IsPlain c → Decodes (c ∷ cs) → Decodes (G.unicode x y z w ∷ c ∷ cs)
  unicode_plain c cs p = unicode_first (c ∷ cs) (plain_no_low (hex_number x y z w) c cs p)

chars_decoded : (cs : List Char) → Decodes cs
chars_decoded [] = nothing
chars_decoded (G.low x ∷ cs) = plain_first (G.low x) cs (low_plain x) (chars_decoded cs)
chars_decoded (G.mid x ∷ cs) = plain_first (G.mid x) cs (mid_plain x) (chars_decoded cs)
chars_decoded (G.high x ∷ cs) = plain_first (G.high x) cs (high_plain x) (chars_decoded cs)
chars_decoded (G.wide p ∷ cs) = plain_first (G.wide p) cs (wide_plain p) (chars_decoded cs)
chars_decoded (G.escaped e ∷ cs) = plain_first (G.escaped e) cs (escaped_plain e) (chars_decoded cs)
chars_decoded (G.unicode x y z w ∷ []) = unicode_first x y z w [] (end_no_low (hex_number x y z w)) nothing
chars_decoded (G.unicode x y z w ∷ G.low x' ∷ cs) = unicode_plain x y z w (G.low x') cs (low_plain x') (chars_decoded (G.low x' ∷ cs))
chars_decoded (G.unicode x y z w ∷ G.mid x' ∷ cs) = unicode_plain x y z w (G.mid x') cs (mid_plain x') (chars_decoded (G.mid x' ∷ cs))
chars_decoded (G.unicode x y z w ∷ G.high x' ∷ cs) = unicode_plain x y z w (G.high x') cs (high_plain x') (chars_decoded (G.high x' ∷ cs))
chars_decoded (G.unicode x y z w ∷ G.wide p ∷ cs) = unicode_plain x y z w (G.wide p) cs (wide_plain p) (chars_decoded (G.wide p ∷ cs))
chars_decoded (G.unicode x y z w ∷ G.escaped e ∷ cs) = unicode_plain x y z w (G.escaped e) cs (escaped_plain e) (chars_decoded (G.escaped e ∷ cs))
chars_decoded (G.unicode x y z w ∷ G.unicode x' y' z' w' ∷ cs) =
    unicode_second x y z w x' y' z' w' cs (chars_decoded cs) (chars_decoded (G.unicode x' y' z' w' ∷ cs))

-- each is a code point or a half

unit_ranged : (c : Char) → unit_of c < 0x110000
unfolding unit_of
unit_ranged (G.low x) = (low_plain x).character.scalar.ranged
unit_ranged (G.mid x) = (mid_plain x).character.scalar.ranged
unit_ranged (G.high x) = (high_plain x).character.scalar.ranged
unit_ranged (G.wide p) = (wide_plain p).character.scalar.ranged
unit_ranged (G.escaped e) = (escaped_plain e).character.scalar.ranged
unit_ranged (G.unicode x y z w) = omega (arith, hex_range x, hex_range y, hex_range z, hex_range w)

units_ranged : (cs : List Char) → Ranged (units_of cs)
unfolding units_of
units_ranged [] = none
units_ranged (c ∷ cs) = more (unit_ranged c) (units_ranged cs)

joined_ranged : (u v : ℕ) → is_high u ≡ true → is_low v ≡ true → joined u v < 0x110000
joined_ranged u v e f =
    omega (
      arith,
      leb-true u 0xDBFF ((and-eq-true_iff (leb 0xD800 u) (leb u 0xDBFF)).0 e).1,
      leb-true v 0xDFFF ((and-eq-true_iff (leb 0xDC00 v) (leb v 0xDFFF)).0 f).1,
    )

join_ranged : (us : List ℕ) → Ranged us → Ranged (join us)
unfolding join
join_ranged [] r = none
join_ranged (u ∷ []) r = r
join_ranged (u ∷ v ∷ us) (more h (more k r)) =
    by (is_high u) refl (is_low v) refl (join_ranged us r) (join_ranged (v ∷ us) (more k r))
  where
    by : (x : Bool) → is_high u ≡ x → (y : Bool) → is_low v ≡ y → Ranged (join us) → Ranged (join (v ∷ us))
        → Ranged (if_else (x && y) (joined u v ∷ join us) (u ∷ join (v ∷ us)))
    by true e true f a b = more (joined_ranged u v e f) a
    by true e false f a b = more h b
    by false e y f a b = more h b

pub chars_spell : (cs : List Char) → Spells (put_chars cs []) (points_of cs)
unfolding points_of
chars_spell cs = record { decoded = record { written = chars_decoded cs; ranged = join_ranged (units_of cs) (units_ranged cs) } }
