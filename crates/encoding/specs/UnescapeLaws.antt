-- Laws of a name's decoded bytes: a byte that is no backslash, and each of the four ways of an escape. Assumes nothing.
use Rattle.std.specs.Prelude.{◌≡◌, refl, List, [], ◌∷◌, ◌++◌, Bool, true, false, ◌↔◌, ℕ, zero, suc, ◌-◌, ◌<◌, ◌≤◌, eqb, ltb, length, get_or, drop}
use Rattle.std.proofs.Common.{sym, ap, ◌∙◌, arith, length-drop, ne_eqb, ltb-true, lt-ltb, le-ltb}
use Rattle.std.proofs.Math.Bool.{and-false}
use Rattle.encoding.specs.Bytes.{In}
use Rattle.encoding.specs.BytesLaws.{from_low, to_high}
use Rattle.encoding.specs.Hex.{Hex, digit, upper, lower, hex_byte, hex_digit, four_digits, hex_number}
use Rattle.encoding.specs.Points.{if_else, point_of, is_high, is_low, joined, utf8, Utf8Of}
use Rattle.encoding.specs.PointsLaws.{utf8_1, wide_written, Scalar, small_scalar, wide_scalar, points_of, utf8_canonical}
use Rattle.encoding.specs.Unescape.{hex_value, unit_at, low_at_of, pair_at, point_at, size_at, short_point_of, unescaped_in, unescaped, spelt, Spells}
use Rattle.encoding.specs.Unescape.{NoBackslash, none, more}
use Rattle.encoding.specs.Utf8.{Wide, put_wide, c2_df, e0, e1_ec, ed, ee_ef, f0, f1_f3, f4}
use Rattle.encoding.specs.Utf8Laws.{append-wide, wide_positive}

-- an escape has two to twelve bytes
pub size_two : (s : List ℕ) → 2 ≤ size_at s
unfolding size_at
size_two s = go (eqb (get_or s 1 0) 0x75) (pair_at s)
  where
    go : (x y : Bool) → 2 ≤ if_else x (if_else y 12 6) 2
    go true true = omega arith
    go true false = omega arith
    go false y = omega arith

pub size_twelve : (s : List ℕ) → size_at s ≤ 12
unfolding size_at
size_twelve s = go (eqb (get_or s 1 0) 0x75) (pair_at s)
  where
    go : (x y : Bool) → if_else x (if_else y 12 6) 2 ≤ 12
    go true true = omega arith
    go true false = omega arith
    go false y = omega arith

shorter : (n b : ℕ) (s : List ℕ) → suc (length s) ≤ suc n → length (drop (size_at (b ∷ s)) (b ∷ s)) ≤ n
shorter n b s h = omega (arith, length-drop (size_at (b ∷ s)) (b ∷ s), size_two (b ∷ s))

-- turns enough are as good as more
enough : (n m : ℕ) (s : List ℕ) → length s ≤ n → length s ≤ m → unescaped_in n s ≡ unescaped_in m s
unfolding unescaped_in
enough zero zero s h k = refl
enough zero (suc m) [] h k = refl
enough zero (suc m) (b ∷ s) h k = absurd (omega arith)
enough (suc n) zero [] h k = refl
enough (suc n) zero (b ∷ s) h k = absurd (omega arith)
enough (suc n) (suc m) [] h k = refl
enough (suc n) (suc m) (b ∷ s) h k =
    go (eqb b 0x5C) (enough n m s (omega arith) (omega arith)) (enough n m (drop (size_at (b ∷ s)) (b ∷ s)) (shorter n b s h) (shorter m b s k))
  where
    go :
        (x : Bool) → unescaped_in n s ≡ unescaped_in m s →
        unescaped_in n (drop (size_at (b ∷ s)) (b ∷ s)) ≡ unescaped_in m (drop (size_at (b ∷ s)) (b ∷ s)) →
        ◌≡◌ {A = List ℕ}
        (elim x [
          | true ↦ utf8 (point_at (b ∷ s)) (unescaped_in n (drop (size_at (b ∷ s)) (b ∷ s)))
          | false ↦ b ∷ unescaped_in n s
        ])
        (elim x [
          | true ↦ utf8 (point_at (b ∷ s)) (unescaped_in m (drop (size_at (b ∷ s)) (b ∷ s)))
          | false ↦ b ∷ unescaped_in m s
        ])
    go true e f = ap (utf8 (point_at (b ∷ s))) f
    go false e f = ap (λ (l : List ℕ). b ∷ l) e

turn : (n b : ℕ) (s : List ℕ) (x : Bool) → List ℕ
turn n b s x =
    elim x [
      | true ↦ utf8 (point_at (b ∷ s)) (unescaped_in n (drop (size_at (b ∷ s)) (b ∷ s)))
      | false ↦ b ∷ unescaped_in n s
    ]

pub unescaped-nil : unescaped [] ≡ []
unfolding unescaped unescaped_in
unescaped-nil = refl

-- a byte that is no backslash stands for itself
pub unescaped_plain : (b : ℕ) (s : List ℕ) → (b ≡ 0x5C → ⊥) → unescaped (b ∷ s) ≡ b ∷ unescaped s
unfolding unescaped unescaped_in turn
unescaped_plain b s f = ap (turn (length s) b s) (ne_eqb b 0x5C f)

-- an escape stands for its code point
pub unescaped_escape : (s : List ℕ) → unescaped (0x5C ∷ s) ≡ utf8 (point_at (0x5C ∷ s)) (unescaped (drop (size_at (0x5C ∷ s)) (0x5C ∷ s)))
unfolding unescaped unescaped_in turn
unescaped_escape s =
    let t = drop (size_at (0x5C ∷ s)) (0x5C ∷ s) in
    ap (utf8 (point_at (0x5C ∷ s))) (enough (length s) (length t) t (shorter (length s) 0x5C s (omega arith)) (omega arith))

-- bytes without a backslash stand for themselves, with what follows them decoded
unescaped_before : {s : List ℕ} (u : List ℕ) → NoBackslash s → unescaped (s ++ u) ≡ s ++ unescaped u
unescaped_before u none = refl
unescaped_before u (more {b} {s} f h) = unescaped_plain b (s ++ u) f ∙ ap (λ (l : List ℕ). b ∷ l) (unescaped_before u h)

pub unescaped_none : {s : List ℕ} → NoBackslash s → unescaped s ≡ s
unescaped_none none = unescaped-nil
unescaped_none (more {b} {s} f h) = unescaped_plain b s f ∙ ap (λ (l : List ℕ). b ∷ l) (unescaped_none h)

-- digits by their bytes

pub hex_small : (b : ℕ) → hex_value b < 16
unfolding hex_value
hex_small b = go (ltb b 0x3A) refl (ltb b 0x47) refl (ltb b 0x67) refl
  where
    go :
        (x : Bool) → ltb b 0x3A ≡ x → (y : Bool) → ltb b 0x47 ≡ y → (z : Bool) → ltb b 0x67 ≡ z →
        if_else x (b - 0x30) (if_else y (b - 0x37) (if_else z (b - 0x57) 0)) < 16
    go true e y f z g = omega (arith, ltb-true b 0x3A e)
    go false e true f z g = omega (arith, ltb-true b 0x47 f)
    go false e false f true g = omega (arith, ltb-true b 0x67 g)
    go false e false f false g = omega arith

pub unit_small : (s : List ℕ) → unit_at s < 0x10000
unfolding unit_at
unit_small s =
    omega (arith, hex_small (get_or s 2 0), hex_small (get_or s 3 0), hex_small (get_or s 4 0), hex_small (get_or s 5 0))

-- an escape of two bytes; `\u` with a number that is joined with nothing; and a pair
pub escape_short : (b : ℕ) (s : List ℕ) → (b ≡ 0x75 → ⊥) → unescaped (0x5C ∷ b ∷ s) ≡ utf8 (short_point_of b) (unescaped s)
unfolding point_at size_at
escape_short b s f = unescaped_escape (b ∷ s) ∙ rw (ne_eqb b 0x75 f)

pub escape_alone :
    (a b c d : ℕ) (s : List ℕ) → pair_at (0x5C ∷ 0x75 ∷ a ∷ b ∷ c ∷ d ∷ s) ≡ false →
    unescaped (0x5C ∷ 0x75 ∷ a ∷ b ∷ c ∷ d ∷ s) ≡ utf8 (four_digits (hex_value a) (hex_value b) (hex_value c) (hex_value d)) (unescaped s)
unfolding point_at size_at unit_at
escape_alone a b c d s e = unescaped_escape (0x75 ∷ a ∷ b ∷ c ∷ d ∷ s) ∙ rw e

pub escape_pair :
    (a b c d a' b' c' d' : ℕ) (s : List ℕ) →
    is_high (four_digits (hex_value a) (hex_value b) (hex_value c) (hex_value d)) ≡ true →
    is_low (four_digits (hex_value a') (hex_value b') (hex_value c') (hex_value d')) ≡ true →
    unescaped (0x5C ∷ 0x75 ∷ a ∷ b ∷ c ∷ d ∷ 0x5C ∷ 0x75 ∷ a' ∷ b' ∷ c' ∷ d' ∷ s) ≡
    utf8 (joined (four_digits (hex_value a) (hex_value b) (hex_value c) (hex_value d)) (four_digits (hex_value a') (hex_value b') (hex_value c') (hex_value d')))
    (unescaped s)
unfolding point_at size_at unit_at pair_at low_at_of
escape_pair a b c d a' b' c' d' s e f =
    let t : List ℕ = 0x75 ∷ a ∷ b ∷ c ∷ d ∷ 0x5C ∷ 0x75 ∷ a' ∷ b' ∷ c' ∷ d' ∷ s in
    let both : pair_at (0x5C ∷ t) ≡ true = rw (e, f) in
    unescaped_escape t ∙ rw both

pub not_high : (a b c d : ℕ) (s : List ℕ) →
    is_high (four_digits (hex_value a) (hex_value b) (hex_value c) (hex_value d)) ≡ false → pair_at (0x5C ∷ 0x75 ∷ a ∷ b ∷ c ∷ d ∷ s) ≡ false
unfolding unit_at pair_at
not_high a b c d s e = rw e

pub not_low : (a b c d : ℕ) (s : List ℕ) → low_at_of s ≡ false → pair_at (0x5C ∷ 0x75 ∷ a ∷ b ∷ c ∷ d ∷ s) ≡ false
unfolding pair_at
not_low a b c d s e = rw e (and-false (is_high (unit_at (0x5C ∷ 0x75 ∷ a ∷ b ∷ c ∷ d ∷ s))))

-- four digits by their bytes

pub hex_value_lem : (h : Hex) → hex_value (hex_byte h) ≡ hex_digit h
unfolding hex_value
hex_value_lem (digit d) = let h : d.byte < 0x3A = omega (arith, to_high d) in rw (lt-ltb d.byte 0x3A h)
hex_value_lem (upper d) =
    let l : 0x3A ≤ d.byte = omega (arith, from_low d) in
    let h : d.byte < 0x47 = omega (arith, to_high d) in
    rw (le-ltb d.byte 0x3A l, lt-ltb d.byte 0x47 h)
hex_value_lem (lower d) =
    let k : 0x3A ≤ d.byte = omega (arith, from_low d) in
    let l : 0x47 ≤ d.byte = omega (arith, from_low d) in
    let h : d.byte < 0x67 = omega (arith, to_high d) in
    rw (le-ltb d.byte 0x3A k, le-ltb d.byte 0x47 l, lt-ltb d.byte 0x67 h)

pub hex_number_lem : (x y z w : Hex)
    → four_digits (hex_value (hex_byte x)) (hex_value (hex_byte y)) (hex_value (hex_byte z)) (hex_value (hex_byte w)) ≡ hex_number x y z w
hex_number_lem x y z w = rw (hex_value_lem x, hex_value_lem y, hex_value_lem z, hex_value_lem w)

pub hex_range : (h : Hex) → hex_digit h < 16
hex_range (digit d) = omega (arith, to_high d)
hex_range (upper d) = omega (arith, to_high d)
hex_range (lower d) = omega (arith, to_high d)

-- what is put before s, decoded, is the code point n, which is no half
pub record Character (put : List ℕ → List ℕ) (n : ℕ) : Type 0 where
  pub scalar : Scalar n
  pub decodes : (s : List ℕ) → unescaped (put s) ≡ utf8 n (unescaped s)

-- as itself: a byte below 80
pub narrow_character : (b : ℕ) → b < 0x80 → (b ≡ 0x5C → ⊥) → Character (λ s. b ∷ s) b
narrow_character b h f =
    record { scalar = small_scalar b h; decodes = λ s. unescaped_plain b s f ∙ sym (utf8_1 b (unescaped s) h) }

-- by a backslash and one byte
pub short_character : (b n : ℕ) → (b ≡ 0x75 → ⊥) → short_point_of b ≡ n → n < 0x80 → Character (λ s. 0x5C ∷ b ∷ s) n
short_character b n f e h =
    record { scalar = small_scalar n h; decodes = λ s. escape_short b s f ∙ ap (λ (m : ℕ). utf8 m (unescaped s)) e }

-- as itself: a code point from 80 on, none of whose bytes is a backslash

tail : {lo hi : ℕ} {s : List ℕ} (x : In lo hi) → 0x80 ≤ lo → NoBackslash s → NoBackslash (x.byte ∷ s)
tail x l h = let f : x.byte ≡ 0x5C → ⊥ = λ e. omega (arith, from_low x) in more f h

wide_none : (p : Wide) → NoBackslash (put_wide p [])
unfolding put_wide
wide_none (c2_df x y) = tail x (omega arith) (tail y (omega arith) none)
wide_none (e0 x y z) = tail x (omega arith) (tail y (omega arith) (tail z (omega arith) none))
wide_none (e1_ec x y z) = tail x (omega arith) (tail y (omega arith) (tail z (omega arith) none))
wide_none (ed x y z) = tail x (omega arith) (tail y (omega arith) (tail z (omega arith) none))
wide_none (ee_ef x y z) = tail x (omega arith) (tail y (omega arith) (tail z (omega arith) none))
wide_none (f0 x y z w) = tail x (omega arith) (tail y (omega arith) (tail z (omega arith) (tail w (omega arith) none)))
wide_none (f1_f3 x y z w) = tail x (omega arith) (tail y (omega arith) (tail z (omega arith) (tail w (omega arith) none)))
wide_none (f4 x y z w) = tail x (omega arith) (tail y (omega arith) (tail z (omega arith) (tail w (omega arith) none)))

pub wide_character : (p : Wide) → Character (put_wide p) (point_of p)
wide_character p = record { scalar = wide_scalar p; decodes = decoded }
  where
    decoded : (s : List ℕ) → unescaped (put_wide p s) ≡ utf8 (point_of p) (unescaped s)
    decoded s =
        ap unescaped (append-wide p [] s)
        ∙ unescaped_before s (wide_none p)
        ∙ sym (append-wide p [] (unescaped s))
        ∙ wide_written p (unescaped s)

-- and no low half begins with it
pub wide_no_low : (p : Wide) (s : List ℕ) → low_at_of (put_wide p s) ≡ false
unfolding low_at_of
wide_no_low p s = ap low_at_of (append-wide p [] s) ∙ begins (wide_none p) (wide_positive p)
  where
    begins : {u : List ℕ} → NoBackslash u → 0 < length u → low_at_of (u ++ s) ≡ false
    begins none h = absurd (omega arith)
    begins (more {b} f n) h = rw (ne_eqb b 0x5C f)

-- what a name spells is read from it
pub spelt_is : {s points : List ℕ} → Spells s points → spelt s ≡ points
unfolding spelt
spelt_is h = points_of h.decoded

-- UTF-8 is canonical: of names without a backslash, those that spell the same code points are those that are written as the same bytes
module _ {s s' points points' : List ℕ} (h : Spells s points) (h' : Spells s' points') where
  pub as_written : NoBackslash s → NoBackslash s' → (s ≡ s') ↔ (points ≡ points')
  as_written f f' =
      let c = utf8_canonical h.decoded h'.decoded in (
        λ e. c.0 (ap unescaped e),
        λ e. sym (unescaped_none f) ∙ c.1 e ∙ unescaped_none f',
      )

-- and bytes without a backslash that spell code points are their UTF-8
pub spells_written : {s points : List ℕ} → NoBackslash s → Spells s points → Utf8Of s points
spells_written f h = record { written = sym (unescaped_none f) ∙ h.decoded.written; ranged = h.decoded.ranged }
