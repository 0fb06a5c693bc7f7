-- The real quotes, the strings and the run at the end, from the words of escaped places and of parities; where neither quote nor backslash
-- stands they are known at once. Assumes nothing.
use Rattle.std.proofs.Common.{◌≡◌, ℕ, ◌+◌, ◌-◌, ◌^◌, ◌<◌, Bool, false, not, ◌&&◌, sym, ap, ◌∙◌, ap₂, arith}
use mathlib.Core.Bool.{xor}
use lib.Bits.{bit_and, bit_or, bit_xor}
use Rattle.bits.specs.Bits.{bit}
use Rattle.bits.specs.Laws.{bit_and_lem, bit_or_lem, bit_xor_lem, bit_flip, bit-zero}
use Rattle.bits.specs.Truth.{neither}
use Rattle.blocks.specs.Parts.{odd_run, parity, StringsFound}
use Rattle.blocks.proofs.Escape.{all_ones}
use Rattle.blocks.proofs.Parity.{parity_from, parity_none}

module _ (q b : ℕ) (inside odd : Bool) (e prefix fill : ℕ) (fits : e < 2 ^ 64)
    (escapes : (i : ℕ) → i < 64 → bit i e ≡ odd_run odd (λ j. bit j b) i)
    (parities : (i : ℕ) → i < 64 → bit i prefix ≡ parity false (λ j. bit j (bit_and q (all_ones - e))) (i + 1))
    (fills : (i : ℕ) → i < 64 → bit i fill ≡ inside) where
  -- the bits of a word that no odd run escapes
  free : (w i : ℕ) → i < 64 → bit i (bit_and w (all_ones - e)) ≡ (bit i w && not (odd_run odd (λ j. bit j b) i))
  free w i h = bit_and_lem i w (all_ones - e) ∙ ap (λ (x : Bool). bit i w && x) (bit_flip 64 i e fits h ∙ ap not (escapes i h))

  pub found_by_runs : (ends : Bool) → ends ≡ bit 63 (bit_and b (all_ones - e))
      → StringsFound q b inside odd (bit_and q (all_ones - e)) (bit_xor prefix fill) ends
  unfolding odd_run
  found_by_runs ends last = record {
    quotes_at = free q;
    strings_at = λ i h. bit_xor_lem i prefix fill ∙ ap₂ xor (parities i h) (fills i h)
        ∙ parity_from inside (λ j. bit j (bit_and q (all_ones - e))) (i + 1);
    ends_is = last ∙ free b 63 (omega arith);
  }

module _ (q b : ℕ) (inside odd : Bool) (fill : ℕ) (none : bit_or q b ≡ 0) (fills : (i : ℕ) → i < 64 → bit i fill ≡ inside) where
  off : (i : ℕ) → (bit i q ≡ false) × (bit i b ≡ false)
  off i = neither (bit i q) (bit i b) (sym (bit_or_lem i q b) ∙ ap (bit i) none ∙ bit-zero i)

  pub found_none : StringsFound q b inside odd 0 fill false
  unfolding odd_run
  found_none = record {
    quotes_at = λ i h. bit-zero i ∙ sym (ap (λ (x : Bool). x && not (odd_run odd (λ j. bit j b) i)) (off i).0);
    strings_at = λ i h. fills i h ∙ sym (parity_none inside (λ j. bit j 0) bit-zero (i + 1));
    ends_is = sym (ap (λ (x : Bool). x && not (odd_run odd (λ j. bit j b) 63)) (off 63).1);
  }
