-- The words of a full block from the places of its bytes: real quotes and strings as they are found, and brackets outside of strings. A mask
-- cuts them to a shorter block. Assumes nothing.
use Rattle.std.proofs.Common.{◌≡◌, ℕ, zero, suc, ◌+◌, ◌-◌, ◌*◌, ◌%◌, ◌^◌, ◌<◌, ◌≤◌, Bool, not, ◌&&◌, List, length, sym, refl, ap, ◌∙◌, ap₂, lt_of_le_of_lt, one-mul, add-one, arith, shl_exact}
use mathlib.Core.Bool.{xor}
use lib.Bits.{bit_and, and_mask, and_le_l}
use Rattle.bits.specs.Bits.{bit, number}
use Rattle.bits.specs.Laws.{bit_and_lem, bit_flip, number_of, number_is}
use Rattle.blocks.specs.Words.{odd_before, real_quote, odd_quotes, in_string, opens_at, closes_at, block_size, quotes_word, strings_word, opening_word, closing_word, inside_after, odd_after}
use Rattle.classifier.specs.Classes.{is_backslash}
use Rattle.blocks.specs.Laws.{size_full, size_short, inside_full, odd_full, quotes_bit, strings_bit, opening_bit, closing_bit, quote_same, quotes_same, string_same, opens_same, closes_same, odd_quotes_past}
use Rattle.blocks.specs.Parts.{odd_run, parity, StringsFound, Padded}
use Rattle.classifier.specs.Classes.{is_opening, is_closing}
use Rattle.classifier.specs.Packed.{Classified}
use Rattle.blocks.specs.Sorted.{Sorted}
use Rattle.blocks.specs.declared.Words.{Words}
use Rattle.blocks.proofs.Escape.{all_ones}

-- ---- runs and parities of the bytes

run_is : (s : List ℕ) (odd : Bool) (f : ℕ → Bool) (i : ℕ) → ((j : ℕ) → j < i → f j ≡ is_backslash s j) → odd_run odd f i ≡ odd_before odd s i
unfolding odd_run odd_before
run_is s odd f zero h = refl
run_is s odd f (suc i) h = ap₂ (λ (x y : Bool). x && not y) (h i (omega arith)) (run_is s odd f i (λ j l. h j (omega arith)))

parity_is : (s : List ℕ) (inside odd : Bool) (f : ℕ → Bool) (i : ℕ) → ((j : ℕ) → j < i → f j ≡ real_quote odd s j)
    → parity inside f i ≡ odd_quotes inside odd s i
unfolding parity odd_quotes
parity_is s inside odd f zero h = refl
parity_is s inside odd f (suc i) h = ap₂ xor (h i (omega arith)) (parity_is s inside odd f i (λ j l. h j (omega arith)))

-- ---- a full block

module _ (s : List ℕ) (inside odd : Bool) (q b o c quotes strings : ℕ) (ends : Bool) (classes : Classified s q b o c)
    (found : StringsFound q b inside odd quotes strings ends) (fits : strings < 2 ^ 64) where
  run_before : (i : ℕ) → i ≤ 64 → odd_run odd (λ j. bit j b) i ≡ odd_before odd s i
  run_before i h = run_is s odd (λ j. bit j b) i (λ j l. classes.backslash_at j (omega arith))

  quote_bit : (i : ℕ) → i < 64 → bit i quotes ≡ real_quote odd s i
  unfolding real_quote
  quote_bit i h = found.quotes_at i h ∙ ap₂ (λ (x y : Bool). x && not y) (classes.quote_at i h) (run_before i (omega arith))

  string_bit : (i : ℕ) → i < 64 → bit i strings ≡ in_string inside odd s i
  unfolding in_string
  string_bit i h =
      found.strings_at i h
      ∙ parity_is s inside odd (λ j. bit j quotes) (i + 1) (λ j l. quote_bit j (omega arith))
      ∙ ap (odd_quotes inside odd s) (add-one i)

  -- the bits of a word outside strings
  outside_bit : (w : ℕ) (f : ℕ → Bool) → ((i : ℕ) → i < 64 → bit i w ≡ f i)
      → (i : ℕ) → i < 64 → bit i (bit_and w (all_ones - strings)) ≡ (f i && not (in_string inside odd s i))
  outside_bit w f h i l = bit_and_lem i w (all_ones - strings)
      ∙ ap₂ (λ (x y : Bool). x && y) (h i l) (bit_flip 64 i strings fits l ∙ ap not (string_bit i l))

  module _ (long : 64 ≤ length s) where
    full : (w : ℕ) (f : ℕ → Bool) → w < 2 ^ 64 → ((i : ℕ) → i < 64 → bit i w ≡ f i) → w ≡ number (block_size s) f
    full w f l h = number_is 64 w f l h ∙ ap (λ (n : ℕ). number n f) (sym (size_full s long))

    pub full_sorted : quotes < 2 ^ 64 → o < 2 ^ 64 → c < 2 ^ 64 → {last : Bool} → last ≡ bit 63 strings
        → Sorted s inside odd (record {
          quotes = quotes;
          strings = strings;
          opening = bit_and o (all_ones - strings);
          closing = bit_and c (all_ones - strings);
          inside = last;
          odd = ends;
        })
    unfolding quotes_word strings_word opening_word closing_word opens_at closes_at in_string
    full_sorted fits_quotes fits_opening fits_closing last = record {
      quotes_are = full quotes (real_quote odd s) fits_quotes quote_bit;
      strings_are = full strings (in_string inside odd s) fits string_bit;
      opening_are = full _ (opens_at inside odd s) (lt_of_le_of_lt (and_le_l o _) fits_opening) (outside_bit o (is_opening s) classes.opening_at);
      closing_are = full _ (closes_at inside odd s) (lt_of_le_of_lt (and_le_l c _) fits_closing) (outside_bit c (is_closing s) classes.closing_at);
      inside_is = last ∙ string_bit 63 (omega arith) ∙ sym (inside_full s inside odd long);
      odd_is = found.ends_is ∙ run_before 64 (omega arith) ∙ sym (odd_full s inside odd long);
    }

-- ---- a shorter block

pub mask_short : (n : ℕ) → n < 64 → 1 * 2 ^ n % 2 ^ 64 ≡ 2 ^ n
mask_short n h = shl_exact {a = 1} 1 n 64 (omega arith) (omega arith) ∙ one-mul (2 ^ n)

module _ (s d : List ℕ) (short : length s < 64) (pad : Padded s d) (inside odd : Bool) (w : Words) (sorted : Sorted d inside odd w) where
  size : block_size s ≡ length s
  size = size_short s (omega arith)

  whole : (i : ℕ) → i < 64 → i < block_size d
  whole i h = let k = size_full d (omega (arith, pad.long)) in omega arith

  -- past the end no quote is counted
  pub inside_cut : w.inside ≡ inside_after inside odd s
  unfolding inside_after
  inside_cut =
      let k : 64 ≡ (64 - length s) + length s = omega arith in
      sorted.inside_is ∙ inside_full d inside odd (omega (arith, pad.long)) ∙ quotes_same d s 64 pad.like inside odd 64 (omega arith)
      ∙ ap (odd_quotes inside odd s) k ∙ odd_quotes_past s inside odd (length s) (64 - length s) (omega arith)
      ∙ ap (odd_quotes inside odd s) (sym size)

  pub odd_cut : odd_before odd s (length s) ≡ odd_after odd s
  unfolding odd_after
  odd_cut = ap (odd_before odd s) (sym size)

  module _ (mask : ℕ) (masked : mask ≡ 2 ^ length s - 1) where
    cut : (x : ℕ) (g : ℕ → Bool) → ((i : ℕ) → i < 64 → bit i x ≡ g i) → bit_and x mask ≡ number (block_size s) g
    cut x g h =
        ap (bit_and x) masked ∙ and_mask x (length s)
        ∙ number_of (length s) x g (λ i r. h i (omega arith)) ∙ ap (λ (n : ℕ). number n g) (sym size)

    pub quotes_cut : bit_and w.quotes mask ≡ quotes_word odd s
    unfolding quotes_word
    quotes_cut = cut w.quotes (real_quote odd s)
        (λ i h. ap (bit i) sorted.quotes_are ∙ quotes_bit d inside odd i (whole i h) ∙ quote_same d s 64 pad.like inside odd i h)

    pub strings_cut : bit_and w.strings mask ≡ strings_word inside odd s
    unfolding strings_word
    strings_cut = cut w.strings (in_string inside odd s)
        (λ i h. ap (bit i) sorted.strings_are ∙ strings_bit d inside odd i (whole i h) ∙ string_same d s 64 pad.like inside odd i h)

    pub opening_cut : bit_and w.opening mask ≡ opening_word inside odd s
    unfolding opening_word
    opening_cut = cut w.opening (opens_at inside odd s)
        (λ i h. ap (bit i) sorted.opening_are ∙ opening_bit d inside odd i (whole i h) ∙ opens_same d s 64 pad.like inside odd i h)

    pub closing_cut : bit_and w.closing mask ≡ closing_word inside odd s
    unfolding closing_word
    closing_cut = cut w.closing (closes_at inside odd s)
        (λ i h. ap (bit i) sorted.closing_are ∙ closing_bit d inside odd i (whole i h) ∙ closes_same d s 64 pad.like inside odd i h)
