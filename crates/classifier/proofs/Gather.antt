-- The flags of a class are packed four to a byte, at its even places. Eight packed bytes loaded as a word, with the next eight one place
-- further up between them, are rows of eight bits, and the flags are their columns. Assumes nothing.
use mathlib.Core.Path.{◌≡◌, ap, ap₂, ◌∙◌}
use mathlib.Core.Bool.{Bool, false, ◌&&◌, ◌||◌, or-false}
use mathlib.Core.List.{List}
use mathlib.Core.Logic.{⊎_elim}
use Prim.Native.Nat.{ℕ, ◌+◌, ◌-◌, ◌*◌, ◌/◌, ◌%◌, ◌^◌, ◌<◌, ◌≤◌}
use native.Mathlib.Omega.{arith}
use lib.Bits.{bit_or}
use lib.Dec.{leb}
use borrow.Author.Tests.{le-leb, lt-leb, eq-eqb, ne_eqb}
use Rattle.bits.specs.Bits.{bit}
use Rattle.bits.specs.Laws.{lt_or_ge, bit_or_lem, bit_shl, shifted_is}
use Rattle.bits.specs.Word.{Loaded}
use Rattle.classifier.specs.Classes.{byte_at}
use Rattle.classifier.specs.Packed.{column, Packed}

column_even : (g : ℕ → Bool) (k j i : ℕ) → j % 2 ≡ 0 → 8 * j + k ≡ i → column g k j ≡ g i
unfolding column
column_even g k j i e d = ap₂ (λ (x : Bool) (y : ℕ). x && g y) (eq-eqb (j % 2) 0 e) d

column_odd : (g : ℕ → Bool) (k j : ℕ) → j % 2 ≡ 1 → column g k j ≡ false
unfolding column
column_odd g k j e = ap (λ (x : Bool). x && g (8 * j + k)) (ne_eqb (j % 2) 0 (λ (z : j % 2 ≡ 0). omega arith))

module _ (m : List ℕ) (w v : ℕ) (low : Loaded 8 m 0 w) (high : Loaded 8 m 8 v) (g : ℕ → Bool) (packed : Packed g m 16) where
  low_bit : (n : ℕ) → n < 64 → bit n w ≡ column g (n / 8) (n % 8)
  unfolding byte_at
  low_bit n h =
      let e : 0 + n / 8 ≡ n / 8 = omega arith in
      low.bits n h ∙ ap (λ (x : ℕ). bit (n % 8) (byte_at m x)) e ∙ packed.bytes (n / 8) (omega arith) (n % 8) (omega arith)

  high_bit : (n : ℕ) → n < 64 → bit n v ≡ column g (8 + n / 8) (n % 8)
  unfolding byte_at
  high_bit n h = high.bits n h ∙ packed.bytes (8 + n / 8) (omega arith) (n % 8) (omega arith)

  -- an even row is of the first eight bytes, and nothing of the next eight is moved there
  even_row : (n i : ℕ) → n < 64 → n % 2 ≡ 0 → 8 * (n % 8) + n / 8 ≡ i → (bit n w || (leb 1 n && bit (n - 1) v)) ≡ g i
  even_row n i h e d =
      ap₂ (λ (x y : Bool). x || y)
      (low_bit n h ∙ column_even g (n / 8) (n % 8) i (omega arith) d)
      (⊎_elim
      (λ (l : n < 1). ap (λ (x : Bool). x && bit (n - 1) v) (lt-leb 1 n l))
      (λ (l : 1 ≤ n). ap₂ (λ (x y : Bool). x && y) (le-leb 1 n l)
      (high_bit (n - 1) (omega arith) ∙ column_odd g (8 + (n - 1) / 8) ((n - 1) % 8) (omega arith)))
      (lt_or_ge n 1))
      ∙ or-false (g i)

  -- an odd row is of the next eight
  odd_row : (n i : ℕ) → n < 64 → n % 2 ≡ 1 → 8 * (n % 8) + n / 8 ≡ i → (bit n w || (leb 1 n && bit (n - 1) v)) ≡ g i
  odd_row n i h e d =
      let row : (n - 1) / 8 ≡ n / 8 = omega arith in
      let place : (n - 1) % 8 + 1 ≡ n % 8 = omega arith in
      ap₂ (λ (x y : Bool). x || y)
      (low_bit n h ∙ column_odd g (n / 8) (n % 8) (omega arith))
      (ap₂ (λ (x y : Bool). x && y) (le-leb 1 n (omega arith))
      (high_bit (n - 1) (omega arith) ∙ column_even g (8 + (n - 1) / 8) ((n - 1) % 8) i (omega arith) (omega arith)))

  pub gathered : (i : ℕ) → i < 64 → bit (8 * (i % 8) + i / 8) (bit_or w (v * 2 ^ 1 % 2 ^ 64)) ≡ g i
  gathered i h =
      let n : ℕ = 8 * (i % 8) + i / 8 in
      let d : 8 * (n % 8) + n / 8 ≡ i = omega arith in
      bit_or_lem n w (v * 2 ^ 1 % 2 ^ 64)
      ∙ ap (λ (x : Bool). bit n w || x) (bit_shl 64 1 n v (omega arith) ∙ shifted_is 1 (λ j. bit j v) n)
      ∙ ⊎_elim
      (λ (l : n % 2 < 1). even_row n i (omega arith) (omega arith) d)
      (λ (l : 1 ≤ n % 2). odd_row n i (omega arith) (omega arith) d)
      (lt_or_ge (n % 2) 1)
