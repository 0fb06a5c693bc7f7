-- The code points from 80 (hexadecimal) on are just those of the sequences of the nine rows of UTF-8: six bits of one in each byte after the
-- first. Assumes nothing.
use Rattle.std.specs.Prelude.{◌≡◌, Bool, ℕ, ◌+◌, ◌*◌, ◌/◌, ◌%◌, ◌<◌, ◌≤◌}
use Rattle.std.proofs.Math.Path.{refl}
use Rattle.std.proofs.Math.Bool.{true, false}
use native.Mathlib.Omega.{arith}
use Rattle.std.proofs.Math.Dec.{ltb}
use borrow.Author.Tests.{ltb-true, ltb-false}
use Rattle.encoding.specs.BytesLaws.{make, from_low}
use Rattle.encoding.specs.Points.{point_of}
use Rattle.encoding.specs.PointsLaws.{Scalar}
use Rattle.encoding.specs.Utf8.{Wide, Tail, c2_df, e0, e1_ec, ed, ee_ef, f0, f1_f3, f4}

pub wide_high : (p : Wide) → 0x80 ≤ point_of p
unfolding point_of
wide_high (c2_df x y) = omega (arith, from_low x)
wide_high (e0 x y z) = omega (arith, from_low y)
wide_high (e1_ec x y z) = omega (arith, from_low x)
wide_high (ed x y z) = omega (arith, from_low x)
wide_high (ee_ef x y z) = omega (arith, from_low x)
wide_high (f0 x y z w) = omega (arith, from_low y)
wide_high (f1_f3 x y z w) = omega (arith, from_low x)
wide_high (f4 x y z w) = omega (arith, from_low x)

abbrev pub WideOf : ℕ → Type 0
WideOf n = (p : Wide) × (point_of p ≡ n)

-- six bits
tail : ℕ → Tail
tail m = make (0x80 + m % 64) (omega arith) (omega arith)

module _ (n : ℕ) where
  two_rows : 0x80 ≤ n → n < 0x800 → WideOf n
  unfolding point_of make tail
  two_rows l h = (c2_df (make (0xC0 + n / 64) (omega arith) (omega arith)) (tail n), omega arith)

  -- no half of a pair is among them
  three_rows : 0x800 ≤ n → n < 0x10000 → (0xD800 ≤ n → n ≤ 0xDFFF → ⊥) → WideOf n
  unfolding point_of make tail
  three_rows l h f = go (ltb n 0x1000) refl (ltb n 0xD000) refl (ltb n 0xD800) refl (ltb n 0xE000) refl
    where
      go :
          (x : Bool) → ltb n 0x1000 ≡ x → (y : Bool) → ltb n 0xD000 ≡ y → (z : Bool) → ltb n 0xD800 ≡ z → (u : Bool) → ltb n 0xE000 ≡ u →
          WideOf n
      go true e y e' z g u g' =
          let a = ltb-true n 0x1000 e in
          (e0 (make 0xE0 (omega arith) (omega arith)) (make (0x80 + n / 64) (omega arith) (omega arith)) (tail n), omega arith)
      go false e true e' z g u g' =
          let a = ltb-false n 0x1000 e in let b = ltb-true n 0xD000 e' in
          (e1_ec (make (0xE0 + n / 4096) (omega arith) (omega arith)) (tail (n / 64)) (tail n), omega arith)
      go false e false e' true g u g' =
          let a = ltb-false n 0xD000 e' in let b = ltb-true n 0xD800 g in
          (ed (make 0xED (omega arith) (omega arith)) (make (0x80 + n / 64 % 64) (omega arith) (omega arith)) (tail n), omega arith)
      go false e false e' false g true g' = absurd (f (ltb-false n 0xD800 g) (omega (arith, ltb-true n 0xE000 g')))
      go false e false e' false g false g' =
          let a = ltb-false n 0xE000 g' in
          (ee_ef (make (0xE0 + n / 4096) (omega arith) (omega arith)) (tail (n / 64)) (tail n), omega arith)

  four_rows : 0x10000 ≤ n → n < 0x110000 → WideOf n
  unfolding point_of make tail
  four_rows l h = go (ltb n 0x40000) refl (ltb n 0x100000) refl
    where
      six : n / 64 ≡ n / 4096 * 64 + n / 64 % 64
      six = omega arith

      twelve : n / 4096 ≡ n / 262144 * 64 + n / 4096 % 64
      twelve = omega arith

      go : (x : Bool) → ltb n 0x40000 ≡ x → (y : Bool) → ltb n 0x100000 ≡ y → WideOf n
      go true e y g =
          let a = ltb-true n 0x40000 e in (
            f0 (make 0xF0 (omega arith) (omega arith)) (make (0x80 + n / 4096) (omega arith) (omega arith)) (tail (n / 64)) (tail n),
            omega (arith, six),
          )
      go false e true g =
          let a = ltb-false n 0x40000 e in let b = ltb-true n 0x100000 g in (
            f1_f3 (make (0xF0 + n / 262144) (omega arith) (omega arith)) (tail (n / 4096)) (tail (n / 64)) (tail n),
            omega (arith, six, twelve),
          )
      go false e false g =
          let a = ltb-false n 0x100000 g in
          let c : n / 262144 ≡ 4 = omega arith in (
            f4 (make 0xF4 (omega arith) (omega arith)) (make (0x80 + n / 4096 % 64) (omega (arith, twelve)) (omega (arith, twelve)))
                (tail (n / 64)) (tail n),
            omega (arith, six, twelve),
          )

pub wide_of : (n : ℕ) → 0x80 ≤ n → Scalar n → WideOf n
wide_of n l c = go (ltb n 0x800) refl (ltb n 0x10000) refl
  where
    go : (x : Bool) → ltb n 0x800 ≡ x → (y : Bool) → ltb n 0x10000 ≡ y → WideOf n
    go true e y g = two_rows n l (ltb-true n 0x800 e)
    go false e true g = three_rows n (ltb-false n 0x800 e) (ltb-true n 0x10000 g) c.no_half
    go false e false g = four_rows n (ltb-false n 0x10000 g) c.ranged
