-- Four flags in one byte, computed for every choice of them; and a turn of the loop, which writes one more packed byte for each class and
-- leaves those before it. Assumes nothing.
use mathlib.Core.Path.{◌≡◌, refl, ap, ◌∙◌}
use mathlib.Core.Bool.{Bool}
use mathlib.Core.List.{List}
use mathlib.Core.Logic.{⊎_elim}
use Prim.Native.Nat.{ℕ, zero, suc, ◌+◌, ◌*◌, ◌%◌, ◌^◌, ◌<◌, ◌≤◌}
use native.Mathlib.Omega.{arith}
use lib.Bits.{bit_or}
use lib.Dec.{T}
use lib.ListN.{length, set, length-set}
use lib.Seq.{get_or-set_same, get_or-set_other}
use mir.Val.{bool_byte}
use Rattle.bits.specs.Bits.{on, bit}
use Rattle.bits.specs.Laws.{lt_or_ge}
use Rattle.bits.specs.Truth.{truth, same_everywhere, all_below, all_at}
use Rattle.classifier.specs.Classes.{byte_at}
use Rattle.classifier.specs.Packed.{spaced, column, FourFlags, Packed}

-- ---- four flags

abbrev joined : Bool → Bool → Bool → Bool → ℕ
joined a b c d = bit_or (bit_or (bit_or (bool_byte a) (bool_byte b * 2 ^ 2 % 2 ^ 8)) (bool_byte c * 2 ^ 4 % 2 ^ 8)) (bool_byte d * 2 ^ 6 % 2 ^ 8)

joined_all : T (all_below 8 (λ j. same_everywhere 4 (λ a b c d. bit j (joined a b c d)) (λ a b c d. spaced a b c d j)))
unfolding all_below bit on spaced
joined_all = tt

pub four_law : (a b c d : Bool) (j : ℕ) → j < 8 → bit j (joined a b c d) ≡ spaced a b c d j
four_law a b c d j h =
    truth 4 (λ a b c d. bit j (joined a b c d)) (λ a b c d. spaced a b c d j)
    (all_at 8 (λ j. same_everywhere 4 (λ a b c d. bit j (joined a b c d)) (λ a b c d. spaced a b c d j)) joined_all j h) a b c d

-- the flags of four bytes by their class
spaced_class : (class : ℕ → Bool) {told : ℕ → Bool → Type 0} → ((b : ℕ) (x : Bool) → told b x → x ≡ class b)
    → {a b c d v : ℕ} (f : FourFlags told a b c d v) (j : ℕ)
    → spaced f.flag_a f.flag_b f.flag_c f.flag_d j ≡ spaced (class a) (class b) (class c) (class d) j
spaced_class class is {a} {b} {c} {d} f j = rw (is a f.flag_a f.of_a, is b f.flag_b f.of_b, is c f.flag_c f.of_c, is d f.flag_d f.of_d) refl

-- those of the bytes i, i + 16, i + 32 and i + 48
spaced_column : (g : ℕ → Bool) (i j : ℕ) → j < 8 → spaced (g i) (g (i + 16)) (g (i + 32)) (g (i + 48)) j ≡ column g i j
unfolding spaced column
spaced_column g i zero h = ap g (omega arith)
spaced_column g i (suc zero) h = refl
spaced_column g i (suc (suc zero)) h = ap g (omega arith)
spaced_column g i (suc (suc (suc zero))) h = refl
spaced_column g i (suc (suc (suc (suc zero)))) h = ap g (omega arith)
spaced_column g i (suc (suc (suc (suc (suc zero))))) h = refl
spaced_column g i (suc (suc (suc (suc (suc (suc zero)))))) h = ap g (omega arith)
spaced_column g i (suc (suc (suc (suc (suc (suc (suc zero))))))) h = refl
spaced_column g i (suc (suc (suc (suc (suc (suc (suc (suc j)))))))) h = absurd (omega arith)

-- ---- a turn of the loop

pub packed_none : (g : ℕ → Bool) (m : List ℕ) → length m ≡ 16 → Packed g m 0
packed_none g m long = record { long = long; bytes = λ k h. absurd (omega arith) }

-- one packed byte more, by a test that tells the class
pub packed_more : (class : ℕ → Bool) {told : ℕ → Bool → Type 0} → ((b : ℕ) (x : Bool) → told b x → x ≡ class b)
    → (s : List ℕ) {m : List ℕ} {i v : ℕ} → i < 16 → FourFlags told (byte_at s i) (byte_at s (i + 16)) (byte_at s (i + 32)) (byte_at s (i + 48)) v
    → Packed (λ n. class (byte_at s n)) m i → Packed (λ n. class (byte_at s n)) (set m i v) (i + 1)
unfolding byte_at
packed_more class is s {m} {i} {v} l flags packed = record {
  long = length-set m i v ∙ packed.long;
  bytes = λ k h j r. ⊎_elim
      (λ (b : k < i). ap (bit j) (get_or-set_other m i k v 0 (λ (e : k ≡ i). omega arith)) ∙ packed.bytes k b j r)
      (λ (b : i ≤ k).
      let n : k ≡ i = omega arith in
      rw n
      (ap (bit j) (get_or-set_same m i v 0 (omega (arith, packed.long)))
      ∙ flags.places j r
      ∙ spaced_class class is flags j
      ∙ spaced_column (λ n. class (byte_at s n)) i j r))
      (lt_or_ge k i);
}
