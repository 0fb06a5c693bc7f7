-- A name measured: the bytes counted so far, the halves met so far, and what is left of the name. Assumes nothing.
use mathlib.Core.Path.{◌≡◌, refl, sym, ap, ◌∙◌}
use mathlib.Core.Bool.{Bool, false, ◌||◌, or-false, or_assoc}
use mathlib.Core.List.{List}
use Prim.Native.Nat.{ℕ, ◌+◌, ◌-◌, ◌*◌, ◌≤◌, ◌<◌}
use native.Mathlib.Omega.{arith}
use lib.ListN.{length, get_or, drop, length-append}
use Rattle.escapes.specs.Escapes.{EscapeAt}
use Rattle.escapes.specs.LeftLaws.{rest_at, size_bounds}
use Rattle.path_names.specs.Escaped.{half_escaped}
use Rattle.paths.specs.Answer.{is_half_of}
use Rattle.path_names.specs.Pieces.{point_piece, byte_piece}
use Rattle.path_names.proofs.Left.{left, left_none, left_byte, left_escape, half_none, half_byte, half_escaped_lem}

-- the size of the name is what is counted, with what is left from i on; so is whether it has a half
pub record Measuring (s : List ℕ) (half : Bool) (size i : ℕ) : Type 0 where
  pub half_is : half_escaped s ≡ (half || half_escaped (drop i s))
  pub size_is : length (left s 0) ≡ size + length (left s i)
  pub few : size + 6 * (length s - i) ≤ 6 * length s

module _ (s : List ℕ) where
  pub measuring_start : Measuring s false 0 0
  measuring_start = record { half_is = refl; size_is = omega arith; few = omega arith }

  module _ {half : Bool} {size i : ℕ} (v : Measuring s half size i) where
    pub half_end : length s ≤ i → half ≡ half_escaped s
    half_end h = sym (v.half_is ∙ ap (λ (x : Bool). half || x) (half_none s i h) ∙ or-false half)

    pub size_end : length s ≤ i → size ≡ length (left s 0)
    size_end h = omega (arith, v.size_is, ap length (left_none s i h))

    module _ (h : i < length s) where
      pub measuring_byte : {m : ℕ} → (get_or s i 0 ≡ 0x5C → ⊥) → m ≡ length (byte_piece (get_or s i 0)) → m ≤ 6 → Measuring s half (size + m) (i + 1)
      measuring_byte f e l =
          record {
            half_is = v.half_is ∙ ap (λ (x : Bool). half || x) (half_byte s i h f);
            size_is = omega (arith, v.size_is, ap length (left_byte s i h f), length-append (byte_piece (get_or s i 0)) (left s (i + 1)));
            few = omega (arith, v.few);
          }

      pub measuring_escape : {m p n : ℕ} → get_or s i 0 ≡ 0x5C → EscapeAt (rest_at s i) p n → m ≡ length (point_piece p) → m ≤ 6
          → Measuring s (half || is_half_of p) (size + m) (i + n)
      measuring_escape {m} {p} {n} b x e l =
          record {
            half_is =
                v.half_is
                ∙ ap (λ (y : Bool). half || y) (half_escaped_lem s i h b x)
                ∙ sym (or_assoc half (is_half_of p) (half_escaped (drop (i + n) s)));
            size_is = omega (arith, v.size_is, ap length (left_escape s i h b x), length-append (point_piece p) (left s (i + n)));
            few = omega (arith, v.few, (size_bounds x).0);
          }
