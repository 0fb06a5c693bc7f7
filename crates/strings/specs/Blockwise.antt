-- Word two of each block of a record that is sorted block by block: on in the record's strings and nowhere else. Assumes nothing.
use Rattle.std.specs.Prelude.{◌≡◌, Bool, true, List, ◌↔◌, length, drop}
use Rattle.std.proofs.Math.Path.{refl, ap, ap₂}
use Rattle.std.proofs.Common.{sym, ◌∙◌, ⊎_elim, length-drop}
use Rattle.std.proofs.Math.Bool.{false}
use Rattle.std.proofs.lemmas.Bool.{false≢true}
use Prim.Native.Nat.{ℕ, zero, suc, ◌+◌, ◌*◌, ◌<◌, ◌≤◌}
use native.Mathlib.Omega.{arith}
use Rattle.bits.specs.Bits.{bit}
use Rattle.bits.specs.Laws.{lt_or_ge}
use Rattle.blocks.specs.Words.{odd_before, odd_quotes, in_string, block_size, strings_word, inside_after, odd_after}
use Rattle.blocks.specs.Laws.{size_full, size_short, inside_full, odd_full, strings_bit, strings_past, odd_drop, quotes_drop, string_drop}
use Rattle.json_text.specs.Grammar.{Tree, text}
use Rattle.strings.specs.Strings.{strings, InOne}
use Rattle.strings.specs.WordTwo.{word_two, strings_within}

-- the facts with which block k of s is sorted: both false before the first block, and then those that the block before gave back
unfoldable pub odd_at : List ℕ → ℕ → Bool
unfolding odd_after
odd_at s zero = false
odd_at s (suc k) = odd_after (odd_at s k) (drop (64 * k) s)

unfoldable pub inside_at : List ℕ → ℕ → Bool
unfolding inside_after odd_at
inside_at s zero = false
inside_at s (suc k) = inside_after (inside_at s k) (odd_at s k) (drop (64 * k) s)

module _ (s : List ℕ) where
  full : (k : ℕ) → 64 * suc k ≤ length s → 64 ≤ length (drop (64 * k) s)
  full k h = omega (arith, length-drop (64 * k) s)

  -- they are the facts at the block's first byte
  pub odd_at_lem : (k : ℕ) → 64 * k ≤ length s → odd_at s k ≡ odd_before false s (64 * k)
  unfolding odd_at odd_before
  odd_at_lem zero h = refl
  odd_at_lem (suc k) h =
      let z : 64 * k + 64 ≡ 64 * suc k = omega arith in
      ap (λ (x : Bool). odd_after x (drop (64 * k) s)) (odd_at_lem k (omega arith))
      ∙ odd_full (drop (64 * k) s) false (odd_before false s (64 * k)) (full k h)
      ∙ odd_drop s false false (64 * k) 64 ∙ ap (odd_before false s) z

  pub inside_at_lem : (k : ℕ) → 64 * k ≤ length s → inside_at s k ≡ odd_quotes false false s (64 * k)
  unfolding inside_at odd_quotes
  inside_at_lem zero h = refl
  inside_at_lem (suc k) h =
      let z : 64 * k + 64 ≡ 64 * suc k = omega arith in
      ap₂ (λ (x y : Bool). inside_after x y (drop (64 * k) s)) (inside_at_lem k (omega arith)) (odd_at_lem k (omega arith))
      ∙ inside_full (drop (64 * k) s) (odd_quotes false false s (64 * k)) (odd_before false s (64 * k)) (full k h)
      ∙ quotes_drop s false false (64 * k) 64 ∙ ap (odd_quotes false false s) z

  block_end : (k i : ℕ) → i < 64 → 64 * k + i < length s → i < block_size (drop (64 * k) s)
  block_end k i l h = ⊎_elim
      (λ (x : length (drop (64 * k) s) < 64). omega (arith, size_short (drop (64 * k) s) (omega arith), length-drop (64 * k) s))
      (λ (x : 64 ≤ length (drop (64 * k) s)). omega (arith, size_full (drop (64 * k) s) x))
      (lt_or_ge (length (drop (64 * k) s)) 64)

  block_past : (k i : ℕ) → length s ≤ 64 * k + i → i < 64 → block_size (drop (64 * k) s) ≤ i
  block_past k i h l = omega (arith, size_short (drop (64 * k) s) (omega (arith, length-drop (64 * k) s)), length-drop (64 * k) s)

  -- bit i of block k's word two is word two of the record at place 64 k + i
  pub block_bit : (k i : ℕ) → i < 64 → 64 * k + i < length s
      → bit i (strings_word (inside_at s k) (odd_at s k) (drop (64 * k) s)) ≡ in_string false false s (64 * k + i)
  block_bit k i l h =
      strings_bit (drop (64 * k) s) (inside_at s k) (odd_at s k) i (block_end k i l h)
      ∙ ap₂ (λ (x y : Bool). in_string x y (drop (64 * k) s) i) (inside_at_lem k (omega arith)) (odd_at_lem k (omega arith))
      ∙ string_drop s false false (64 * k) i

-- in a record, sorted block by block from its start with both facts false
pub block_word_two : (t : Tree) (k i : ℕ) → i < 64
    → (bit i (strings_word (inside_at (text t) k) (odd_at (text t) k) (drop (64 * k) (text t))) ≡ true) ↔ InOne (strings t) (64 * k + i)
block_word_two t k i l = ⊎_elim
    (λ (h : 64 * k + i < length s).
    let e = block_bit s k i l h in
    let w = word_two t (64 * k + i) in
    (λ b. w.0 (sym e ∙ b), λ p. e ∙ w.1 p))
    (λ (h : length s ≤ 64 * k + i).
    let e = strings_past (drop (64 * k) s) (inside_at s k) (odd_at s k) i (block_past s k i h l) in
    (λ b. absurd (false≢true (sym e ∙ b)), λ p. absurd (omega (arith, strings_within t (64 * k + i) p))))
    (lt_or_ge (64 * k + i) (length s))
  where
    s : List ℕ
    s = text t
