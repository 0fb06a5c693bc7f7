-- How long a name is once its escapes are decoded: never longer than it was written. Assumes nothing.
use Rattle.std.specs.Prelude.{◌≡◌, List, [], ◌∷◌, Bool, ◌&&◌, ℕ, zero, suc, ◌+◌, ◌≤◌, ◌<◌, ltb, length}
use Rattle.std.proofs.Math.Path.{refl, ap}
use Rattle.std.proofs.Common.{sym, ◌∙◌, length-append, length-drop, get_or-drop}
use Rattle.std.proofs.Math.Bool.{true, false, and-eq-true_iff}
use native.Mathlib.Omega.{arith}
use borrow.Author.Tests.{eqb-true, eqb-false, ltb-true, ltb-false}
use Rattle.std.proofs.Math.Dec.{eqb}
use Rattle.std.proofs.Math.ListN.{get_or, drop, get_or-eq_default}
use Rattle.encoding.specs.Points.{if_else, is_high, is_low, joined, utf8}
use Rattle.encoding.specs.PointsLaws.{utf8_one, utf8_two, utf8_three, utf8_four, utf8_append}
use Rattle.encoding.specs.Unescape.{hex_value, short_point_of, unit_at, low_at_of, pair_at, point_at, size_at, unescaped}
use Rattle.encoding.specs.UnescapeLaws.{size_two, unit_small, unescaped-nil, unescaped_plain, unescaped_escape}

-- past the end
none : (s : List ℕ) (k : ℕ) → length s ≤ k → get_or s k 0 ≡ 0
none s k h = get_or-eq_default s 0 {n = k} h

-- where something other than 0 is read, the list goes on
some : (s : List ℕ) (k b : ℕ) → get_or s k 0 ≡ b → 0 < b → k < length s
some s k b e h = go (ltb k (length s)) refl
  where
    go : (x : Bool) → ltb k (length s) ≡ x → k < length s
    go true t = ltb-true k (length s) t
    go false t = absurd (omega (arith, none s k (ltb-false k (length s) t)))

-- the code point p in UTF-8 is no longer than an escape of n bytes, nor than s, which may end within it
abbrev Fits : List ℕ → (point size : ℕ) → Type 0
Fits s p n = (length (utf8 p []) ≤ n) × (length (utf8 p []) ≤ length s)

short_small : (b : ℕ) → b < 0x100 → short_point_of b < 0x100
unfolding short_point_of
short_small b h = go (eqb b 0x62) (eqb b 0x66) (eqb b 0x6E) (eqb b 0x72) (eqb b 0x74)
  where
    go : (x y z v w : Bool) → if_else x 0x08 (if_else y 0x0C (if_else z 0x0A (if_else v 0x0D (if_else w 0x09 b)))) < 0x100
    go true y z v w = omega arith
    go false true z v w = omega arith
    go false false true v w = omega arith
    go false false false true w = omega arith
    go false false false false true = omega arith
    go false false false false false = h

module _ (s : List ℕ) where
  -- an escape that ends too soon stands for 0

  short_none : length s ≤ 1 → short_point_of (get_or s 1 0) ≡ 0
  unfolding short_point_of
  short_none h = ap short_point_of (none s 1 h)

  unit_none : length s ≤ 2 → unit_at s ≡ 0
  unfolding unit_at hex_value
  unit_none h =
      let zero-at : (k : ℕ) → 2 ≤ k → get_or s k 0 ≡ 0 = λ k l. none s k (omega arith) in
      rw (zero-at 2 (omega arith), zero-at 3 (omega arith), zero-at 4 (omega arith), zero-at 5 (omega arith))

  -- and a pair has its second backslash
  pair_seven : pair_at s ≡ true → 6 < length s
  unfolding pair_at low_at_of
  pair_seven e =
      let t = drop 6 s in
      let low = ((and-eq-true_iff (is_high (unit_at s)) (low_at_of t)).0 e).1 in
      let first = ((and-eq-true_iff (eqb (get_or t 0 0) 0x5C) (eqb (get_or t 1 0) 0x75 && is_low (unit_at t))).0 low).0 in
      some s 6 0x5C (sym (get_or-drop 6 s 0 0) ∙ eqb-true (get_or t 0 0) 0x5C first) (omega arith)

  -- where k bytes of the escape are there: p has at most one more than k, and is 0 if no more of the escape is there
  fits : (p k n : ℕ) → length (utf8 p []) ≤ k + 1 → 1 ≤ k → k ≤ length s → (length s ≤ k → p ≡ 0) → k + 1 ≤ n → Fits s p n
  fits p k n many l least nothing h = (omega arith, go (ltb k (length s)) refl)
    where
      go : (x : Bool) → ltb k (length s) ≡ x → length (utf8 p []) ≤ length s
      go true t = omega (arith, ltb-true k (length s) t)
      go false t = omega (arith, utf8_one p (omega (arith, nothing (ltb-false k (length s) t))))

  point_fits : 1 ≤ length s → get_or s 1 0 < 0x100 → Fits s (point_at s) (size_at s)
  unfolding point_at size_at
  point_fits l h = go (eqb (get_or s 1 0) 0x75) refl (pair_at s) refl
    where
      go :
          (x : Bool) → eqb (get_or s 1 0) 0x75 ≡ x → (y : Bool) → pair_at s ≡ y →
          Fits s (if_else x (if_else y (joined (unit_at s) (unit_at (drop 6 s))) (unit_at s)) (short_point_of (get_or s 1 0))) (if_else x (if_else y 12 6) 2)
      go true e true f =
          let q = utf8_four (joined (unit_at s) (unit_at (drop 6 s))) in (omega arith, omega (arith, pair_seven f))
      go true e false f =
          let two = some s 1 0x75 (eqb-true (get_or s 1 0) 0x75 e) (omega arith) in
          fits (unit_at s) 2 6 (utf8_three (unit_at s) (unit_small s)) (omega arith) two unit_none (omega arith)
      go false e y f =
          let small = short_small (get_or s 1 0) h in
          fits (short_point_of (get_or s 1 0)) 1 2 (utf8_two (short_point_of (get_or s 1 0)) (omega arith)) (omega arith) l short_none (omega arith)

length-utf8 : (p : ℕ) (s : List ℕ) → length (utf8 p s) ≡ length (utf8 p []) + length s
length-utf8 p s = ap length (utf8_append p s) ∙ length-append (utf8 p []) s

-- each number of s is a byte
abbrev pub Small : List ℕ → Type 0
Small s = (k : ℕ) → get_or s k 0 < 0x100

-- a name that begins with a backslash, from what is left after its escape
escape_length : (s t : List ℕ) → t ≡ 0x5C ∷ s → Small t
    → length (unescaped (drop (size_at t) t)) ≤ length (drop (size_at t) t) → length (unescaped t) ≤ length t
escape_length s t e small h =
    let rest = drop (size_at t) t in
    let is : unescaped t ≡ utf8 (point_at t) (unescaped rest) = rw e (unescaped_escape s) in
    let fit = point_fits t (omega (arith, ap length e)) (small 1) in
    omega (arith, ap length is, length-utf8 (point_at t) (unescaped rest), length-drop (size_at t) t)

-- no longer than it was written
pub decoded-length : (s : List ℕ) → Small s → length (unescaped s) ≤ length s
decoded-length s small = go (length s) s (omega arith) small
  where
    go : (n : ℕ) (s : List ℕ) → length s ≤ n → Small s → length (unescaped s) ≤ length s
    go zero [] h small = rw unescaped-nil (omega arith)
    go zero (b ∷ s) h small = absurd (omega arith)
    go (suc n) [] h small = rw unescaped-nil (omega arith)
    go (suc n) (b ∷ s) h small =
        by (eqb b 0x5C) refl (go n s (omega arith) (λ k. small (suc k)))
        (go n (drop (size_at (b ∷ s)) (b ∷ s)) (omega (arith, length-drop (size_at (b ∷ s)) (b ∷ s), size_two (b ∷ s)))
        (λ k. rw (get_or-drop (size_at (b ∷ s)) (b ∷ s) k 0) (small (size_at (b ∷ s) + k))))
      where
        by :
            (x : Bool) → eqb b 0x5C ≡ x → length (unescaped s) ≤ length s →
            length (unescaped (drop (size_at (b ∷ s)) (b ∷ s))) ≤ length (drop (size_at (b ∷ s)) (b ∷ s)) → length (unescaped (b ∷ s)) ≤ length (b ∷ s)
        by true e f g = escape_length s (b ∷ s) (ap (λ (a : ℕ). a ∷ s) (eqb-true b 0x5C e)) small g
        by false e f g = rw (unescaped_plain b s (eqb-false b 0x5C e)) (omega arith)
