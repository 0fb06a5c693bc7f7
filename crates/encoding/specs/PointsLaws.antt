-- UTF-8 is canonical: each sequence of the nine rows is what its code point is written as, and what a code point is written as is read back.
-- Assumes nothing.
use Rattle.std.specs.Prelude.{◌≡◌, refl, List, [], ◌∷◌, ◌++◌, Bool, true, false, ◌↔◌, ℕ, ◌+◌, ◌-◌, ◌*◌, ◌/◌, ◌%◌, ◌<◌, ◌≤◌, leb, ltb, length}
use Rattle.std.proofs.Common.{sym, ap, ◌∙◌}
use Rattle.std.proofs.Math.Bool.{and-eq-true_iff}
use native.Mathlib.Omega.{arith}
use borrow.Author.Tests.{lt-ltb, le-ltb, ltb-true, ltb-false, leb-true}
use Rattle.bits.specs.Truth.{refuted, same_truth}
use Rattle.encoding.specs.Bytes.{In, same_numbers}
use Rattle.encoding.specs.BytesLaws.{from_low, to_high, in_bounds, same_numbers_lem}
use Rattle.encoding.specs.Utf8.{Wide, put_wide, c2_df, e0, e1_ec, ed, ee_ef, f0, f1_f3, f4}
use Rattle.encoding.specs.Points.{if_else, point_of, of_two, of_three, of_four, is_high, is_low, utf8, utf8s, points_due, points_in}
use Rattle.encoding.specs.Points.{Ranged, none, more, Utf8Of}

-- the four sizes
module _ (n : ℕ) (s : List ℕ) where
  pub utf8_1 : n < 0x80 → utf8 n s ≡ n ∷ s
  unfolding utf8
  utf8_1 h = rw (lt-ltb n 0x80 h)

  pub utf8_2 : 0x80 ≤ n → n < 0x800 → utf8 n s ≡ (0xC0 + n / 64) ∷ (0x80 + n % 64) ∷ s
  unfolding utf8
  utf8_2 l h = rw (le-ltb n 0x80 l, lt-ltb n 0x800 h)

  pub utf8_3 : 0x800 ≤ n → n < 0x10000 → utf8 n s ≡ (0xE0 + n / 4096) ∷ (0x80 + n / 64 % 64) ∷ (0x80 + n % 64) ∷ s
  unfolding utf8
  utf8_3 l h = let k : 0x80 ≤ n = omega arith in rw (le-ltb n 0x80 k, le-ltb n 0x800 l, lt-ltb n 0x10000 h)

  pub utf8_4 :
      0x10000 ≤ n →
      utf8 n s ≡ (0xF0 + n / 262144) ∷ (0x80 + n / 4096 % 64) ∷ (0x80 + n / 64 % 64) ∷ (0x80 + n % 64) ∷ s
  unfolding utf8
  utf8_4 l =
      let k : 0x80 ≤ n = omega arith in
      let k' : 0x800 ≤ n = omega arith in
      rw (le-ltb n 0x80 k, le-ltb n 0x800 k', le-ltb n 0x10000 l)

-- how many bytes
module _ (n : ℕ) where
  pub utf8_one : n < 0x80 → length (utf8 n []) ≤ 1
  utf8_one h = rw (utf8_1 n [] h) (omega arith)

  pub utf8_two : n < 0x800 → length (utf8 n []) ≤ 2
  utf8_two h = go (ltb n 0x80) refl
    where
      go : (x : Bool) → ltb n 0x80 ≡ x → length (utf8 n []) ≤ 2
      go true e = omega (arith, utf8_one (ltb-true n 0x80 e))
      go false e = rw (utf8_2 n [] (ltb-false n 0x80 e) h) (omega arith)

  pub utf8_three : n < 0x10000 → length (utf8 n []) ≤ 3
  utf8_three h = go (ltb n 0x800) refl
    where
      go : (x : Bool) → ltb n 0x800 ≡ x → length (utf8 n []) ≤ 3
      go true e = omega (arith, utf8_two (ltb-true n 0x800 e))
      go false e = rw (utf8_3 n [] (ltb-false n 0x800 e) h) (omega arith)

  pub utf8_four : length (utf8 n []) ≤ 4
  utf8_four = go (ltb n 0x10000) refl
    where
      go : (x : Bool) → ltb n 0x10000 ≡ x → length (utf8 n []) ≤ 4
      go true e = omega (arith, utf8_three (ltb-true n 0x10000 e))
      go false e = rw (utf8_4 n [] (ltb-false n 0x10000 e)) (omega arith)

  pub utf8_some : 1 ≤ length (utf8 n [])
  unfolding utf8
  utf8_some = go (ltb n 0x80) (ltb n 0x800) (ltb n 0x10000)
    where
      go :
          (x y z : Bool) →
          1 ≤ length (if_else x (n ∷ []) (if_else y ((0xC0 + n / 64) ∷ (0x80 + n % 64) ∷ [])
          (if_else z ((0xE0 + n / 4096) ∷ (0x80 + n / 64 % 64) ∷ (0x80 + n % 64) ∷ [])
          ((0xF0 + n / 262144) ∷ (0x80 + n / 4096 % 64) ∷ (0x80 + n / 64 % 64) ∷ (0x80 + n % 64) ∷ []))))
      go true y z = omega arith
      go false true z = omega arith
      go false false true = omega arith
      go false false false = omega arith

-- the bytes alone, and what is after them
pub utf8_append : (n : ℕ) (s : List ℕ) → utf8 n s ≡ utf8 n [] ++ s
unfolding utf8
utf8_append n s = go (ltb n 0x80) (ltb n 0x800) (ltb n 0x10000)
  where
    go :
        (x y z : Bool) →
        if_else x (n ∷ s) (if_else y ((0xC0 + n / 64) ∷ (0x80 + n % 64) ∷ s)
        (if_else z ((0xE0 + n / 4096) ∷ (0x80 + n / 64 % 64) ∷ (0x80 + n % 64) ∷ s)
        ((0xF0 + n / 262144) ∷ (0x80 + n / 4096 % 64) ∷ (0x80 + n / 64 % 64) ∷ (0x80 + n % 64) ∷ s))) ≡
        if_else x (n ∷ []) (if_else y ((0xC0 + n / 64) ∷ (0x80 + n % 64) ∷ [])
        (if_else z ((0xE0 + n / 4096) ∷ (0x80 + n / 64 % 64) ∷ (0x80 + n % 64) ∷ [])
        ((0xF0 + n / 262144) ∷ (0x80 + n / 4096 % 64) ∷ (0x80 + n / 64 % 64) ∷ (0x80 + n % 64) ∷ []))) ++ s
    go true y z = refl
    go false true z = refl
    go false false true = refl
    go false false false = refl

abbrev Within : (lo hi b : ℕ) → Type 0
Within lo hi b = (lo ≤ b) × (b ≤ hi)

cons₂ : {a a' b b' : ℕ} {s : List ℕ} → a ≡ a' → b ≡ b' → ◌≡◌ {A = List ℕ} (a ∷ b ∷ s) (a' ∷ b' ∷ s)
cons₂ p q = cc

cons₃ : {a a' b b' c c' : ℕ} {s : List ℕ} → a ≡ a' → b ≡ b' → c ≡ c' → ◌≡◌ {A = List ℕ} (a ∷ b ∷ c ∷ s) (a' ∷ b' ∷ c' ∷ s)
cons₃ p q r = cc

cons₄ :
    {a a' b b' c c' d d' : ℕ} {s : List ℕ} → a ≡ a' → b ≡ b' → c ≡ c' → d ≡ d' →
    ◌≡◌ {A = List ℕ} (a ∷ b ∷ c ∷ d ∷ s) (a' ∷ b' ∷ c' ∷ d' ∷ s)
cons₄ p q r t = cc

-- bytes within their bounds are what their code point is written as

two_bytes : (x y : ℕ) (s : List ℕ) → Within 0xC2 0xDF x → Within 0x80 0xBF y → utf8 (of_two x y) s ≡ x ∷ y ∷ s
two_bytes x y s (a, b) (c, d) = utf8_2 (of_two x y) s (omega arith) (omega arith) ∙ cons₂ (omega arith) (omega arith)

three_bytes : (x y z : ℕ) (s : List ℕ) → Within 0xE0 0xEF x → Within 0x80 0xBF y → Within 0x80 0xBF z → 0x800 ≤ of_three x y z
    → utf8 (of_three x y z) s ≡ x ∷ y ∷ z ∷ s
three_bytes x y z s (a, b) (c, d) (e, f) g =
    utf8_3 (of_three x y z) s g (omega arith) ∙ cons₃ (omega arith) (omega arith) (omega arith)

four_bytes : (x y z w : ℕ) (s : List ℕ) → Within 0xF0 0xF4 x → Within 0x80 0xBF y → Within 0x80 0xBF z → Within 0x80 0xBF w
    → 0x10000 ≤ of_four x y z w → utf8 (of_four x y z w) s ≡ x ∷ y ∷ z ∷ w ∷ s
four_bytes x y z w s (a, b) (c, d) (e, f) (g, h) i =
    utf8_4 (of_four x y z w) s i ∙ cons₄ (omega arith) (omega arith) (omega arith) (omega arith)

-- a byte of a range is one of a range around it
widen : {lo hi lo' hi' : ℕ} (x : In lo hi) → lo' ≤ lo → hi ≤ hi' → Within lo' hi' x.byte
widen x l h = (omega (arith, from_low x), omega (arith, to_high x))

-- a sequence of the nine rows is what its code point is written as
pub wide_written : (p : Wide) (s : List ℕ) → put_wide p s ≡ utf8 (point_of p) s
unfolding put_wide point_of
wide_written (c2_df x y) s = sym (two_bytes x.byte y.byte s (in_bounds x) (in_bounds y))
wide_written (e0 x y z) s =
    sym (three_bytes x.byte y.byte z.byte s (widen x (omega arith) (omega arith)) (widen y (omega arith) (omega arith)) (in_bounds z) (omega (arith, from_low x, from_low y)))
wide_written (e1_ec x y z) s =
    sym (three_bytes x.byte y.byte z.byte s (widen x (omega arith) (omega arith)) (in_bounds y) (in_bounds z) (omega (arith, from_low x)))
wide_written (ed x y z) s =
    sym (three_bytes x.byte y.byte z.byte s (widen x (omega arith) (omega arith)) (widen y (omega arith) (omega arith)) (in_bounds z) (omega (arith, from_low x)))
wide_written (ee_ef x y z) s =
    sym (three_bytes x.byte y.byte z.byte s (widen x (omega arith) (omega arith)) (in_bounds y) (in_bounds z) (omega (arith, from_low x)))
wide_written (f0 x y z w) s =
    sym (four_bytes x.byte y.byte z.byte w.byte s (widen x (omega arith) (omega arith)) (widen y (omega arith) (omega arith)) (in_bounds z) (in_bounds w) (omega (arith, from_low x, from_low y)))
wide_written (f1_f3 x y z w) s =
    sym (four_bytes x.byte y.byte z.byte w.byte s (widen x (omega arith) (omega arith)) (in_bounds y) (in_bounds z) (in_bounds w) (omega (arith, from_low x)))
wide_written (f4 x y z w) s =
    sym (four_bytes x.byte y.byte z.byte w.byte s (widen x (omega arith) (omega arith)) (widen y (omega arith) (omega arith)) (in_bounds z) (in_bounds w) (omega (arith, from_low x)))

-- a code point: no half of a pair
pub record Scalar (n : ℕ) : Type 0 where
  pub ranged : n < 0x110000
  pub no_half : 0xD800 ≤ n → n ≤ 0xDFFF → ⊥

pub small_scalar : (n : ℕ) → n < 0x80 → Scalar n
small_scalar n h = record { ranged = omega arith; no_half = λ l k. omega arith }

pub wide_scalar : (p : Wide) → Scalar (point_of p)
unfolding point_of
wide_scalar (c2_df x y) = record { ranged = omega (arith, to_high x, to_high y); no_half = λ l h. omega (arith, to_high x, to_high y) }
wide_scalar (e0 x y z) =
    record { ranged = omega (arith, to_high x, to_high y, to_high z); no_half = λ l h. omega (arith, to_high x, to_high y, to_high z) }
wide_scalar (e1_ec x y z) =
    record { ranged = omega (arith, to_high x, to_high y, to_high z); no_half = λ l h. omega (arith, to_high x, to_high y, to_high z) }
wide_scalar (ed x y z) =
    record { ranged = omega (arith, to_high x, to_high y, to_high z); no_half = λ l h. omega (arith, to_high x, to_high y, to_high z) }
wide_scalar (ee_ef x y z) = record { ranged = omega (arith, to_high x, to_high y, to_high z); no_half = λ l h. omega (arith, from_low x) }
wide_scalar (f0 x y z w) =
    record { ranged = omega (arith, to_high x, to_high y, to_high z, to_high w); no_half = λ l h. omega (arith, from_low x, from_low y) }
wide_scalar (f1_f3 x y z w) =
    record { ranged = omega (arith, to_high x, to_high y, to_high z, to_high w); no_half = λ l h. omega (arith, from_low x) }
wide_scalar (f4 x y z w) =
    record { ranged = omega (arith, to_high x, to_high y, to_high z, to_high w); no_half = λ l h. omega (arith, from_low x) }

-- by the tests of a half
module _ {n : ℕ} (k : Scalar n) where
  pub scalar_high : is_high n ≡ false
  scalar_high = refuted (is_high n) (λ e. k.no_half (test_low e) (omega (arith, test_high e)))
    where
      test_low : is_high n ≡ true → 0xD800 ≤ n
      test_low e = leb-true 0xD800 n ((and-eq-true_iff (leb 0xD800 n) (leb n 0xDBFF)).0 e).0

      test_high : is_high n ≡ true → n ≤ 0xDBFF
      test_high e = leb-true n 0xDBFF ((and-eq-true_iff (leb 0xD800 n) (leb n 0xDBFF)).0 e).1

  pub scalar_low : is_low n ≡ false
  scalar_low = refuted (is_low n) (λ e. k.no_half (omega (arith, test_low e)) (test_high e))
    where
      test_low : is_low n ≡ true → 0xDC00 ≤ n
      test_low e = leb-true 0xDC00 n ((and-eq-true_iff (leb 0xDC00 n) (leb n 0xDFFF)).0 e).0

      test_high : is_low n ≡ true → n ≤ 0xDFFF
      test_high e = leb-true n 0xDFFF ((and-eq-true_iff (leb 0xDC00 n) (leb n 0xDFFF)).0 e).1

-- what a code point is written as is read back

one_read : (b : ℕ) (s : List ℕ) → b < 0x80 → points_due (b ∷ s) 0 0 ≡ b ∷ points_due s 0 0
unfolding points_due
one_read b s h = rw (lt-ltb b 0x80 h)

two_read : (b c : ℕ) (s : List ℕ) → 0x80 ≤ b → b < 0xE0 → points_due (b ∷ c ∷ s) 0 0 ≡ of_two b c ∷ points_due s 0 0
unfolding points_due
two_read b c s l h = rw (le-ltb b 0x80 l, lt-ltb b 0xE0 h)

three_read :
    (b c d : ℕ) (s : List ℕ) → 0xE0 ≤ b → b < 0xF0 →
    points_due (b ∷ c ∷ d ∷ s) 0 0 ≡ (((b - 0xE0) * 64 + (c - 0x80)) * 64 + (d - 0x80)) ∷ points_due s 0 0
unfolding points_due
three_read b c d s l h = let k : 0x80 ≤ b = omega arith in rw (le-ltb b 0x80 k, le-ltb b 0xE0 l, lt-ltb b 0xF0 h)

four_read :
    (b c d e : ℕ) (s : List ℕ) → 0xF0 ≤ b →
    points_due (b ∷ c ∷ d ∷ e ∷ s) 0 0 ≡ ((((b - 0xF0) * 64 + (c - 0x80)) * 64 + (d - 0x80)) * 64 + (e - 0x80)) ∷ points_due s 0 0
unfolding points_due
four_read b c d e s l =
    let k : 0x80 ≤ b = omega arith in
    let k' : 0xE0 ≤ b = omega arith in
    rw (le-ltb b 0x80 k, le-ltb b 0xE0 k', le-ltb b 0xF0 l)

pub point_read : (n : ℕ) (s : List ℕ) → n < 0x110000 → points_in (utf8 n s) ≡ n ∷ points_in s
unfolding points_in
point_read n s r = go (ltb n 0x80) refl (ltb n 0x800) refl (ltb n 0x10000) refl
  where
    go :
        (x : Bool) → ltb n 0x80 ≡ x → (y : Bool) → ltb n 0x800 ≡ y → (z : Bool) → ltb n 0x10000 ≡ z →
        points_due (utf8 n s) 0 0 ≡ n ∷ points_due s 0 0
    go true e y f z g = let h = ltb-true n 0x80 e in rw (utf8_1 n s h) (one_read n s h)
    go false e true f z g =
        let h = ltb-true n 0x800 f in let l = ltb-false n 0x80 e in
        let q : of_two (0xC0 + n / 64) (0x80 + n % 64) ≡ n = omega arith in
        rw (utf8_2 n s l h) (two_read (0xC0 + n / 64) (0x80 + n % 64) s (omega arith) (omega arith) ∙ ap (λ (m : ℕ). m ∷ points_due s 0 0) q)
    go false e false f true g =
        let h = ltb-true n 0x10000 g in let l = ltb-false n 0x800 f in
        let q : ((0xE0 + n / 4096 - 0xE0) * 64 + (0x80 + n / 64 % 64 - 0x80)) * 64 + (0x80 + n % 64 - 0x80) ≡ n = omega arith in
        rw (utf8_3 n s l h)
        (three_read (0xE0 + n / 4096) (0x80 + n / 64 % 64) (0x80 + n % 64) s (omega arith) (omega arith) ∙ ap (λ (m : ℕ). m ∷ points_due s 0 0) q)
    go false e false f false g =
        let l = ltb-false n 0x10000 g in
        let q₁ : n / 64 ≡ n / 4096 * 64 + n / 64 % 64 = omega arith in
        let q₂ : n / 4096 ≡ n / 262144 * 64 + n / 4096 % 64 = omega arith in
        let q : (((0xF0 + n / 262144 - 0xF0) * 64 + (0x80 + n / 4096 % 64 - 0x80)) * 64 + (0x80 + n / 64 % 64 - 0x80)) * 64 + (0x80 + n % 64 - 0x80) ≡ n
        = omega arith in
        rw (utf8_4 n s l)
        (four_read (0xF0 + n / 262144) (0x80 + n / 4096 % 64) (0x80 + n / 64 % 64) (0x80 + n % 64) s (omega arith) ∙ ap (λ (m : ℕ). m ∷ points_due s 0 0) q)

pub points_read : {ns : List ℕ} → Ranged ns → points_in (utf8s ns) ≡ ns
unfolding utf8s points_in points_due
points_read none = refl
points_read (more {n} {ns} h r) = point_read n (utf8s ns) h ∙ ap (λ (l : List ℕ). n ∷ l) (points_read r)

-- equal bytes are equal code points
pub utf8s_injective : {ns ms : List ℕ} → Ranged ns → Ranged ms → utf8s ns ≡ utf8s ms → ns ≡ ms
utf8s_injective r q e = sym (points_read r) ∙ ap points_in e ∙ points_read q

-- bytes that are code points in UTF-8: their code points are read from them, and are the same exactly if the bytes are
module _ {s points : List ℕ} (u : Utf8Of s points) where
  pub points_of : points_in s ≡ points
  points_of = ap points_in u.written ∙ points_read u.ranged

  module _ {s' points' : List ℕ} (u' : Utf8Of s' points') where
    pub utf8_canonical : (s ≡ s') ↔ (points ≡ points')
    utf8_canonical = (
      λ e. utf8s_injective u.ranged u'.ranged (sym u.written ∙ e ∙ u'.written),
      λ e. u.written ∙ ap utf8s e ∙ sym u'.written,
    )

    pub same_utf8 : same_numbers s s' ≡ same_numbers points points'
    same_utf8 =
        same_truth (same_numbers s s') (same_numbers points points') (
          λ e. (same_numbers_lem points points').1 (utf8_canonical.0 ((same_numbers_lem s s').0 e)),
          λ e. (same_numbers_lem s s').1 (utf8_canonical.1 ((same_numbers_lem points points').0 e)),
        )
