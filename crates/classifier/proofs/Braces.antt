-- One `or` brings a square bracket and the brace of its kind together, and no other byte to them: computed for every byte. Assumes nothing.
use mathlib.Core.Path.{◌≡◌, refl}
use mathlib.Core.Bool.{Bool, false, ◌||◌, beq}
use mathlib.Core.Logic.{⊎_elim}
use Prim.Native.Nat.{ℕ, ◌<◌, ◌≤◌}
use native.Mathlib.Omega.{arith}
use lib.Bits.{bit_or, or_add_and, and_le_r}
use lib.Dec.{T, eqb}
use borrow.Author.Tests.{ne_eqb}
use Rattle.bits.specs.Laws.{lt_or_ge}
use Rattle.bits.specs.Truth.{beq→eq, all_below, all_at}

abbrev pub brace : ℕ → ℕ → ℕ → Bool
brace low high x = beq (eqb (bit_or x 32) high) (eqb x low || eqb x high)

-- a number from 256 on keeps its size under the `or`
far : (x k : ℕ) → k < 256 → 256 ≤ x → (eqb (bit_or x 32) k ≡ false) × (eqb x k ≡ false)
far x k l h =
    (ne_eqb (bit_or x 32) k (λ (e : bit_or x 32 ≡ k). omega (arith, or_add_and x 32, and_le_r x 32)), ne_eqb x k (λ (e : x ≡ k). omega arith))

brace_law : (low high : ℕ) → low < 256 → high < 256 → T (all_below 256 (brace low high)) → (x : ℕ)
    → eqb (bit_or x 32) high ≡ (eqb x low || eqb x high)
brace_law low high l h t x = ⊎_elim
    (λ (r : x < 256). beq→eq (eqb (bit_or x 32) high) (eqb x low || eqb x high) (all_at 256 (brace low high) t x r))
    (λ (r : 256 ≤ x). rw ((far x high h r).0, (far x low l r).1, (far x high h r).1) refl)
    (lt_or_ge x 256)

pub opening_law : (x : ℕ) → eqb (bit_or x 32) 0x7B ≡ (eqb x 0x5B || eqb x 0x7B)
unfolding all_below
opening_law = brace_law 0x5B 0x7B (omega arith) (omega arith) tt

pub closing_law : (x : ℕ) → eqb (bit_or x 32) 0x7D ≡ (eqb x 0x5D || eqb x 0x7D)
unfolding all_below
closing_law = brace_law 0x5D 0x7D (omega arith) (omega arith) tt
