-- An escape that is read from the start of some bytes: what each part that is read says of it. Assumes nothing.
use mathlib.Core.Path.{◌≡◌, refl, sym, ap, ◌∙◌}
use mathlib.Core.List.{List, [], ◌∷◌}
use mathlib.Core.Bool.{Bool, true, false, ◌&&◌, and-false, and-true, and_assoc, and-eq-true_iff}
use Prim.Native.Nat.{ℕ, ◌+◌, ◌*◌, ◌/◌, ◌≤◌, ◌<◌}
use native.Mathlib.Omega.{arith}
use borrow.Author.Tests.{eq-eqb, ne_eqb, eqb-true, leb-true}
use lib.Dec.{leb, eqb}
use lib.ListN.{length, get_or, drop, get_or-eq_default, drop_of_length-le}
use Rattle.std.specs.Bool.{then_some}
use Rattle.std.specs.List.{starts_with}
use Rattle.std.specs.Prelude.{Option, Some, None}
use Rattle.bits.specs.Truth.{same_truth}
use Rattle.encoding.specs.BytesLaws.{inside}
use Rattle.encoding.specs.Points.{is_high, is_low, joined}
use Rattle.encoding.specs.Unescape.{short_point_of, unit_at, low_at_of, pair_at, point_at, size_at}
use Rattle.encoding.specs.UnescapeLaws.{unit_small}
use Rattle.escapes.specs.Escapes.{EscapeAt, LowHalf, PairBehind}

-- a half by its upper bits
module _ (u : ℕ) where
  half_is : (low high bits : ℕ) → low ≡ bits * 0x400 → high ≡ low + 0x3FF → (leb low u && leb u high) ≡ eqb (u / 0x400) bits
  half_is low high bits l h = same_truth (leb low u && leb u high) (eqb (u / 0x400) bits) (
    λ e. let k = (and-eq-true_iff (leb low u) (leb u high)).0 e in
        eq-eqb (u / 0x400) bits (omega (arith, leb-true low u k.0, leb-true u high k.1)),
    λ e. let q = eqb-true (u / 0x400) bits e in inside low high u (omega arith) (omega arith),
  )

  high_is : is_high u ≡ eqb (u / 0x400) 0x36
  high_is = half_is 0xD800 0xDBFF 0x36 refl refl

  low_is : is_low u ≡ eqb (u / 0x400) 0x37
  low_is = half_is 0xDC00 0xDFFF 0x37 refl refl

same_byte : (a b : ℕ) → eqb a b ≡ eqb b a
same_byte a b = same_truth (eqb a b) (eqb b a) (λ e. eq-eqb b a (sym (eqb-true a b e)), λ e. eq-eqb a b (sym (eqb-true b a e)))

module _ (t : List ℕ) where
  low_by : low_at_of t ≡ (starts_with eqb t (0x5C ∷ 0x75 ∷ []) && eqb (unit_at t / 0x400) 0x37)
  unfolding low_at_of
  low_by = go t (is_low (unit_at t)) ∙ ap (λ (x : Bool). starts_with eqb t (0x5C ∷ 0x75 ∷ []) && x) (low_is (unit_at t))
    where
      go : (t : List ℕ) (low : Bool) → (eqb (get_or t 0 0) 0x5C && (eqb (get_or t 1 0) 0x75 && low)) ≡ (starts_with eqb t (0x5C ∷ 0x75 ∷ []) && low)
      go [] low = refl
      go (a ∷ []) low = rw (and-false (eqb a 0x5C), and-false (eqb 0x5C a))
      go (a ∷ b ∷ t) low = rw (same_byte 0x5C a, same_byte 0x75 b, and-true (eqb b 0x75)) (sym (and_assoc (eqb a 0x5C) (eqb b 0x75) low))

  -- a low half at the start, by the two bytes before its digits and its upper bits
  pub low_none : starts_with eqb t (0x5C ∷ 0x75 ∷ []) ≡ false → low_at_of t ≡ false
  low_none e = low_by ∙ rw e

  pub low_some : starts_with eqb t (0x5C ∷ 0x75 ∷ []) ≡ true → {u : ℕ} → u ≡ unit_at t → LowHalf t (then_some (eqb (u / 0x400) 0x37) u)
  low_some e {u} k = go (eqb (u / 0x400) 0x37) refl
    where
      go : (x : Bool) → eqb (u / 0x400) 0x37 ≡ x → LowHalf t (then_some x u)
      go true f = (low_by ∙ rw (e, ← k, f), k)
      go false f = low_by ∙ rw (e, ← k, f)

  low_unit : low_at_of t ≡ true → unit_at t / 0x400 ≡ 0x37
  low_unit e =
      eqb-true (unit_at t / 0x400) 0x37 ((and-eq-true_iff (starts_with eqb t (0x5C ∷ 0x75 ∷ [])) (eqb (unit_at t / 0x400) 0x37)).0 (sym low_by ∙ e)).1

module _ (t : List ℕ) where
  -- a pair by its high half and the low half behind it
  pair_by : pair_at t ≡ (eqb (unit_at t / 0x400) 0x36 && low_at_of (drop 6 t))
  unfolding pair_at
  pair_by = ap (λ (x : Bool). x && low_at_of (drop 6 t)) (high_is (unit_at t))

  pub pair_none : (unit_at t / 0x400 ≡ 0x36 → ⊥) → pair_at t ≡ false
  pair_none f = pair_by ∙ rw (ne_eqb (unit_at t / 0x400) 0x36 f)

  pub pair_short : length t < 6 → pair_at t ≡ false
  unfolding low_at_of
  pair_short h = pair_by ∙ rw (drop_of_length-le t {i = 6} (omega arith)) (and-false (eqb (unit_at t / 0x400) 0x36))

  pub pair_low : unit_at t / 0x400 ≡ 0x36 → (r : Option ℕ) → LowHalf (drop 6 t) r → PairBehind t r
  pair_low e None h = pair_by ∙ rw h (and-false (eqb (unit_at t / 0x400) 0x36))
  pair_low e (Some low) h = (pair_by ∙ rw (eq-eqb (unit_at t / 0x400) 0x36 e, h.0), h.1)

  pair_halves : pair_at t ≡ true → (unit_at t / 0x400 ≡ 0x36) × (unit_at (drop 6 t) / 0x400 ≡ 0x37)
  pair_halves e =
      let h = (and-eq-true_iff (eqb (unit_at t / 0x400) 0x36) (low_at_of (drop 6 t))).0 (sym pair_by ∙ e) in
      (eqb-true (unit_at t / 0x400) 0x36 h.0, low_unit (drop 6 t) h.1)

  -- the ways of an escape
  pub escape_short : {p : ℕ} → (get_or t 1 0 ≡ 0x75 → ⊥) → p ≡ short_point_of (get_or t 1 0) → p < 0x100 → EscapeAt t p 2
  unfolding point_at size_at
  escape_short f e h =
      record { point_is = rw (ne_eqb (get_or t 1 0) 0x75 f) e; size_is = rw (ne_eqb (get_or t 1 0) 0x75 f); ranged = omega arith }

  pub escape_none : length t ≤ 1 → EscapeAt t 0 2
  unfolding short_point_of
  escape_none h =
      let e : get_or t 1 0 ≡ 0 = get_or-eq_default t 0 {n = 1} h in
      escape_short (λ f. omega arith) (rw e) (omega arith)

  module _ (f : get_or t 1 0 ≡ 0x75) {u : ℕ} (e : u ≡ unit_at t) where
    pub escape_alone : pair_at t ≡ false → EscapeAt t u 6
    unfolding point_at size_at
    escape_alone h =
        record {
          point_is = rw (eq-eqb (get_or t 1 0) 0x75 f, h) e;
          size_is = rw (eq-eqb (get_or t 1 0) 0x75 f, h);
          ranged = omega (arith, unit_small t);
        }

    pub escape_pair :
        {v p : ℕ} → pair_at t ≡ true → v ≡ unit_at (drop 6 t) →
        (u / 0x400 ≡ 0x36 → v / 0x400 ≡ 0x37 → p ≡ joined u v) → EscapeAt t p 12
    unfolding point_at size_at
    escape_pair {v} {p} h k g =
        let halves = pair_halves h in
        let is : p ≡ joined u v = g (rw e halves.0) (rw k halves.1) in
        record {
          point_is = rw (eq-eqb (get_or t 1 0) 0x75 f, h, ← e, ← k) is;
          size_is = rw (eq-eqb (get_or t 1 0) 0x75 f, h);
          ranged = omega (arith, halves.0, halves.1, is);
        }
