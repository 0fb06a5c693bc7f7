-- The bits under a mask change places with those k places up, since x xor (x xor y) is y; three such swaps turn eight rows of eight bits
-- into columns, which is computed for all 64 places. Assumes nothing.
use mathlib.Core.Path.{◌≡◌, refl, ap, ap₂, ◌∙◌}
use mathlib.Core.Bool.{Bool, true, false, not, xor, cond, ◌&&◌}
use Prim.Native.Nat.{ℕ, ◌+◌, ◌-◌, ◌*◌, ◌/◌, ◌%◌, ◌^◌, ◌<◌, ◌≤◌}
use native.Mathlib.Omega.{arith}
use lib.Bits.{bit_and, bit_xor}
use lib.Dec.{T, ltb, leb, eqb, ltb→lt, eqb→eq}
use borrow.Author.Tests.{leb-true}
use Rattle.bits.specs.Bits.{on, bit}
use Rattle.bits.specs.Laws.{bit_and_lem, bit_xor_lem, bit_shl, bit_shr, shifted_is}
use Rattle.bits.specs.Truth.{truth, all_below, all_at, and_left, and_right}
use Rattle.classifier.specs.Packed.{swap_place, clash, Swapped}

abbrev moved : ℕ → ℕ → ℕ → ℕ
moved k mask x = bit_and (bit_xor x (x / 2 ^ k)) mask

-- the bit comes from above, from below, or stays
from_above : (a b z : Bool) → xor (xor a (xor a b && true)) (z && false) ≡ b
unfolding xor
from_above = truth 3 _ _ tt

from_above_low : (a b : Bool) → xor (xor a (xor a b && true)) false ≡ b
unfolding xor
from_above_low = truth 2 _ _ tt

from_below : (a b c : Bool) → xor (xor a (xor a b && false)) (xor c a && true) ≡ c
unfolding xor
from_below = truth 3 _ _ tt

stays : (a z w : Bool) → xor (xor a (z && false)) (w && false) ≡ a
unfolding xor
stays = truth 3 _ _ tt

stays_low : (a z : Bool) → xor (xor a (z && false)) false ≡ a
unfolding xor
stays_low = truth 2 _ _ tt

module _ (k mask x : ℕ) where
  moved_bit : (j : ℕ) → bit j (moved k mask x) ≡ (xor (bit j x) (bit (k + j) x) && bit j mask)
  moved_bit j = bit_and_lem j (bit_xor x (x / 2 ^ k)) mask
      ∙ ap (λ (b : Bool). b && bit j mask) (bit_xor_lem j x (x / 2 ^ k) ∙ ap (xor (bit j x)) (bit_shr k j x))

  -- under the mask p, k places above it l && q
  by_case : (i : ℕ) (p l q : Bool) → (l ≡ true → k + (i - k) ≡ i) → (p && (l && q)) ≡ false
      → xor (xor (bit i x) (xor (bit i x) (bit (k + i) x) && p)) (l && (xor (bit (i - k) x) (bit (k + (i - k)) x) && q))
      ≡ bit (cond p (k + i) (cond (l && q) (i - k) i)) x
  by_case i true true true h e = cc
  by_case i true true false h e = from_above (bit i x) (bit (k + i) x) (xor (bit (i - k) x) (bit (k + (i - k)) x))
  by_case i true false q h e = from_above_low (bit i x) (bit (k + i) x)
  by_case i false true true h e = rw (h refl) (from_below (bit i x) (bit (k + i) x) (bit (i - k) x))
  by_case i false true false h e = stays (bit i x) (xor (bit i x) (bit (k + i) x)) (xor (bit (i - k) x) (bit (k + (i - k)) x))
  by_case i false false q h e = stays_low (bit i x) (xor (bit i x) (bit (k + i) x))

  pub swap_law : Swapped k mask x (bit_xor (bit_xor x (moved k mask x)) (moved k mask x * 2 ^ k % 2 ^ 64))
  unfolding swap_place clash
  swap_law = record {
    moved = λ i h e.
        bit_xor_lem i (bit_xor x (moved k mask x)) (moved k mask x * 2 ^ k % 2 ^ 64)
        ∙ ap₂ xor
        (bit_xor_lem i x (moved k mask x) ∙ ap (xor (bit i x)) (moved_bit i))
        (bit_shl 64 k i (moved k mask x) h ∙ shifted_is k (λ j. bit j (moved k mask x)) i ∙ ap (λ (b : Bool). leb k i && b) (moved_bit (i - k)))
        ∙ by_case i (bit i mask) (leb k i) (bit (i - k) mask) (λ t. let l : k ≤ i = leb-true k i t in omega arith) e;
  }

-- ---- three swaps

abbrev mask₁ : ℕ
mask₁ = 0x00aa00aa00aa00aa

abbrev mask₂ : ℕ
mask₂ = 0x0000cccc0000cccc

abbrev mask₃ : ℕ
mask₃ = 0x00000000f0f0f0f0

place₃ : ℕ → ℕ
place₃ i = swap_place 28 mask₃ i

place₂ : ℕ → ℕ
place₂ i = swap_place 14 mask₂ (place₃ i)

-- no bit is under a mask and above it at once
apart : ℕ → Bool
apart i = not (clash 28 mask₃ i) && (not (clash 14 mask₂ (place₃ i)) && not (clash 7 mask₁ (place₂ i)))

turned : ℕ → Bool
turned i = (ltb (place₃ i) 64 && ltb (place₂ i) 64) && eqb (swap_place 7 mask₁ (place₂ i)) (8 * (i % 8) + i / 8)

apart_all : T (all_below 64 apart)
unfolding all_below apart place₂ place₃ swap_place clash bit on
apart_all = tt

turned_all : T (all_below 64 turned)
unfolding all_below turned place₂ place₃ swap_place bit on
turned_all = tt

off : (b : Bool) → T (not b) → b ≡ false
off true t = absurd t
off false t = refl

pub turn_law : (x a b c : ℕ) → Swapped 7 mask₁ x a → Swapped 14 mask₂ a b → Swapped 28 mask₃ b c
    → (i : ℕ) → i < 64 → bit i c ≡ bit (8 * (i % 8) + i / 8) x
unfolding turned apart place₂ place₃
turn_law x a b c s₁ s₂ s₃ i h =
    let u : ℕ = place₃ i in
    let v : ℕ = place₂ i in
    let c₃ : Bool = not (clash 28 mask₃ i) in
    let c₂ : Bool = not (clash 14 mask₂ u) in
    let c₁ : Bool = not (clash 7 mask₁ v) in
    let free : T (c₃ && (c₂ && c₁)) = all_at 64 apart apart_all i h in
    let goal : Bool = eqb (swap_place 7 mask₁ v) (8 * (i % 8) + i / 8) in
    let there : T ((ltb u 64 && ltb v 64) && goal) = all_at 64 turned turned_all i h in
    let inner : T (ltb u 64 && ltb v 64) = and_left (ltb u 64 && ltb v 64) goal there in
    s₃.moved i h (off (clash 28 mask₃ i) (and_left c₃ (c₂ && c₁) free))
    ∙ s₂.moved u (ltb→lt u 64 (and_left (ltb u 64) (ltb v 64) inner)) (off (clash 14 mask₂ u) (and_left c₂ c₁ (and_right c₃ (c₂ && c₁) free)))
    ∙ s₁.moved v (ltb→lt v 64 (and_right (ltb u 64) (ltb v 64) inner)) (off (clash 7 mask₁ v) (and_right c₂ c₁ (and_right c₃ (c₂ && c₁) free)))
    ∙ ap (λ (n : ℕ). bit n x) (eqb→eq (swap_place 7 mask₁ v) (8 * (i % 8) + i / 8) (and_right (ltb u 64 && ltb v 64) goal there))
