-- Laws of the words for callers: the bits of each word; a predicate looks at no byte behind its place; block by block with the facts carried; byte by byte. Assumes nothing.
use Rattle.std.specs.Prelude.{◌≡◌, ℕ, zero, suc, ◌+◌, ◌<◌, ◌≤◌, Bool, true, false, not, ◌&&◌, ◌||◌, List, length, drop, ◌==◌, ◌≢◌, nat_eq}
use Rattle.std.proofs.Math.Path.{refl, sym, ap, ap₂}
use Rattle.std.proofs.Common.{◌∙◌, true≢false, ⊎_elim, add-zero, add-suc, suc-add, zero-add, arith, ne_eqb}
use Rattle.std.proofs.Math.Bool.{xor, and-false}
use Rattle.std.proofs.Math.Nat.{min-eq_left, min-eq_right, min-le_right}
use Rattle.std.proofs.Math.ListN.{get_or-eq_default}
use Rattle.std.proofs.Math.Seq.{get_or-drop}
use Rattle.std.specs.Int.Bits.{bit_or}
use Rattle.bits.specs.Bits.{bit, Lowest}
use Rattle.bits.specs.Laws.{lt_or_ge, bit_or_lem, bit_number, number_high}
use Rattle.bits.specs.Truth.{neither, false_xor, true_xor}
use Rattle.blocks.specs.Words.{odd_before, real_quote, odd_quotes, in_string, opens_at, closes_at, block_size, quotes_word, strings_word, opening_word, closing_word, inside_after, odd_after}
use Rattle.classifier.specs.Classes.{byte_at, is_backslash}

-- ---- the size of a block

pub size_full : (s : List ℕ) → 64 ≤ length s → block_size s ≡ 64
unfolding block_size
size_full s h = min-eq_right h

pub size_short : (s : List ℕ) → length s ≤ 64 → block_size s ≡ length s
unfolding block_size
size_short s h = min-eq_left h

pub size_le : (s : List ℕ) → block_size s ≤ 64
unfolding block_size
size_le s = min-le_right (length s) 64

-- the facts after a full block are those before byte 64
module _ (s : List ℕ) (inside odd : Bool) (h : 64 ≤ length s) where
  pub inside_full : inside_after inside odd s ≡ odd_quotes inside odd s 64
  unfolding inside_after
  inside_full = ap (odd_quotes inside odd s) (size_full s h)

  pub odd_full : odd_after odd s ≡ odd_before odd s 64
  unfolding odd_after
  odd_full = ap (odd_before odd s) (size_full s h)

-- ---- the bits of the words

module _ (s : List ℕ) (inside odd : Bool) (i : ℕ) (h : i < block_size s) where
  pub quotes_bit : bit i (quotes_word odd s) ≡ real_quote odd s i
  unfolding quotes_word
  quotes_bit = bit_number (block_size s) i (real_quote odd s) h

  pub strings_bit : bit i (strings_word inside odd s) ≡ in_string inside odd s i
  unfolding strings_word
  strings_bit = bit_number (block_size s) i (in_string inside odd s) h

  pub opening_bit : bit i (opening_word inside odd s) ≡ opens_at inside odd s i
  unfolding opening_word
  opening_bit = bit_number (block_size s) i (opens_at inside odd s) h

  pub closing_bit : bit i (closing_word inside odd s) ≡ closes_at inside odd s i
  unfolding closing_word
  closing_bit = bit_number (block_size s) i (closes_at inside odd s) h

-- bits past the block's end are 0
module _ (s : List ℕ) (inside odd : Bool) (i : ℕ) (h : block_size s ≤ i) where
  pub quotes_past : bit i (quotes_word odd s) ≡ false
  unfolding quotes_word
  quotes_past = number_high (block_size s) i (real_quote odd s) h

  pub strings_past : bit i (strings_word inside odd s) ≡ false
  unfolding strings_word
  strings_past = number_high (block_size s) i (in_string inside odd s) h

  pub opening_past : bit i (opening_word inside odd s) ≡ false
  unfolding opening_word
  opening_past = number_high (block_size s) i (opens_at inside odd s) h

  pub closing_past : bit i (closing_word inside odd s) ≡ false
  unfolding closing_word
  closing_past = number_high (block_size s) i (closes_at inside odd s) h

-- ---- the next bracket is the lowest bit that is on

module _ (s : List ℕ) (inside odd : Bool) (i : ℕ) (low : Lowest 64 (bit_or (opening_word inside odd s) (closing_word inside odd s)) i) where
  bracket : ℕ → Bool
  bracket j = opens_at inside odd s j || closes_at inside odd s j

  bracket_bit : (j : ℕ) → j < block_size s → bit j (bit_or (opening_word inside odd s) (closing_word inside odd s)) ≡ bracket j
  unfolding bracket
  bracket_bit j h = bit_or_lem j (opening_word inside odd s) (closing_word inside odd s)
      ∙ ap₂ (λ (x y : Bool). x || y) (opening_bit s inside odd j h) (closing_bit s inside odd j h)

  pub next_inside : i < 64 → i < block_size s
  next_inside h = ⊎_elim (λ (l : i < block_size s). l)
      (λ (l : block_size s ≤ i).
      let none : bit i (bit_or (opening_word inside odd s) (closing_word inside odd s)) ≡ false =
      bit_or_lem i (opening_word inside odd s) (closing_word inside odd s)
      ∙ ap₂ (λ (x y : Bool). x || y) (opening_past s inside odd i l) (closing_past s inside odd i l) in
      absurd (true≢false (sym (low.is_on h) ∙ none)))
      (lt_or_ge i (block_size s))

  pub next_bracket : i < 64 → (opens_at inside odd s i || closes_at inside odd s i) ≡ true
  unfolding bracket
  next_bracket h = sym (bracket_bit i (next_inside h)) ∙ low.is_on h

  pub none_before : (j : ℕ) → j < block_size s → j < i → (opens_at inside odd s j ≡ false) × (closes_at inside odd s j ≡ false)
  unfolding bracket
  none_before j h l = neither (opens_at inside odd s j) (closes_at inside odd s j) (sym (bracket_bit j h) ∙ low.none_below j l)

-- ---- two records that agree before place n

module _ (s t : List ℕ) (n : ℕ) (same : (j : ℕ) → j < n → byte_at s j ≡ byte_at t j) (inside odd : Bool) where
  pub backslash_same : (i : ℕ) → i < n → is_backslash s i ≡ is_backslash t i
  unfolding is_backslash
  backslash_same i h = ap (λ (x : ℕ). nat_eq x 0x5C) (same i h)

  pub odd_same : (i : ℕ) → i ≤ n → odd_before odd s i ≡ odd_before odd t i
  unfolding odd_before
  odd_same zero h = refl
  odd_same (suc i) h = ap₂ (λ (x y : Bool). x && not y) (backslash_same i (omega arith)) (odd_same i (omega arith))

  pub quote_same : (i : ℕ) → i < n → real_quote odd s i ≡ real_quote odd t i
  unfolding real_quote
  quote_same i h = ap₂ (λ (x : ℕ) (y : Bool). (x == 0x22) && not y) (same i h) (odd_same i (omega arith))

  pub quotes_same : (i : ℕ) → i ≤ n → odd_quotes inside odd s i ≡ odd_quotes inside odd t i
  unfolding odd_quotes
  quotes_same zero h = refl
  quotes_same (suc i) h = ap₂ xor (quote_same i (omega arith)) (quotes_same i (omega arith))

  pub string_same : (i : ℕ) → i < n → in_string inside odd s i ≡ in_string inside odd t i
  unfolding in_string
  string_same i h = quotes_same (suc i) (omega arith)

  pub opens_same : (i : ℕ) → i < n → opens_at inside odd s i ≡ opens_at inside odd t i
  unfolding opens_at
  opens_same i h = ap₂ (λ (x : ℕ) (y : Bool). (x == 0x5B || x == 0x7B) && not y) (same i h) (string_same i h)

  pub closes_same : (i : ℕ) → i < n → closes_at inside odd s i ≡ closes_at inside odd t i
  unfolding closes_at
  closes_same i h = ap₂ (λ (x : ℕ) (y : Bool). (x == 0x5D || x == 0x7D) && not y) (same i h) (string_same i h)

-- ---- from place n on, with the facts at n carried

module _ (s : List ℕ) (inside odd : Bool) (n : ℕ) where
  pub byte-drop : (i : ℕ) → byte_at (drop n s) i ≡ byte_at s (n + i)
  unfolding byte_at
  byte-drop i = get_or-drop n s i 0

  pub backslash_drop : (i : ℕ) → is_backslash (drop n s) i ≡ is_backslash s (n + i)
  unfolding is_backslash
  backslash_drop i = ap (λ (x : ℕ). nat_eq x 0x5C) (byte-drop i)

  pub odd_drop : (i : ℕ) → odd_before (odd_before odd s n) (drop n s) i ≡ odd_before odd s (n + i)
  unfolding odd_before
  odd_drop zero = ap (odd_before odd s) (sym (add-zero n))
  odd_drop (suc i) =
      ap₂ (λ (x y : Bool). x && not y) (backslash_drop i) (odd_drop i) ∙ ap (odd_before odd s) (sym (add-suc n i))

  pub quote_drop : (i : ℕ) → real_quote (odd_before odd s n) (drop n s) i ≡ real_quote odd s (n + i)
  unfolding real_quote
  quote_drop i = ap₂ (λ (x : ℕ) (y : Bool). (x == 0x22) && not y) (byte-drop i) (odd_drop i)

  pub quotes_drop : (i : ℕ) → odd_quotes (odd_quotes inside odd s n) (odd_before odd s n) (drop n s) i ≡ odd_quotes inside odd s (n + i)
  unfolding odd_quotes
  quotes_drop zero = ap (odd_quotes inside odd s) (sym (add-zero n))
  quotes_drop (suc i) = ap₂ xor (quote_drop i) (quotes_drop i) ∙ ap (odd_quotes inside odd s) (sym (add-suc n i))

  pub string_drop : (i : ℕ) → in_string (odd_quotes inside odd s n) (odd_before odd s n) (drop n s) i ≡ in_string inside odd s (n + i)
  unfolding in_string
  string_drop i = quotes_drop (suc i) ∙ ap (odd_quotes inside odd s) (add-suc n i)

  pub opens_drop : (i : ℕ) → opens_at (odd_quotes inside odd s n) (odd_before odd s n) (drop n s) i ≡ opens_at inside odd s (n + i)
  unfolding opens_at
  opens_drop i = ap₂ (λ (x : ℕ) (y : Bool). (x == 0x5B || x == 0x7B) && not y) (byte-drop i) (string_drop i)

  pub closes_drop : (i : ℕ) → closes_at (odd_quotes inside odd s n) (odd_before odd s n) (drop n s) i ≡ closes_at inside odd s (n + i)
  unfolding closes_at
  closes_drop i = ap₂ (λ (x : ℕ) (y : Bool). (x == 0x5D || x == 0x7D) && not y) (byte-drop i) (string_drop i)

-- ---- past the end there is no quote

pub quote_past : (s : List ℕ) (odd : Bool) (i : ℕ) → length s ≤ i → real_quote odd s i ≡ false
unfolding real_quote byte_at
quote_past s odd i h = rw (get_or-eq_default s 0 h) refl

pub odd_quotes_past : (s : List ℕ) (inside odd : Bool) (n m : ℕ) → length s ≤ n → odd_quotes inside odd s (m + n) ≡ odd_quotes inside odd s n
unfolding odd_quotes
odd_quotes_past s inside odd n zero h = ap (odd_quotes inside odd s) (zero-add n)
odd_quotes_past s inside odd n (suc m) h =
    ap (odd_quotes inside odd s) (suc-add m n)
    ∙ ap (λ (x : Bool). xor x (odd_quotes inside odd s (m + n))) (quote_past s odd (m + n) (omega arith))
    ∙ false_xor (odd_quotes inside odd s (m + n))
    ∙ odd_quotes_past s inside odd n m h

-- ---- from one byte to the next

-- the two facts at place i: the real quotes before it are odd in number, and an odd run of backslashes stands just before it
pub record Carried (inside odd : Bool) (s : List ℕ) (i : ℕ) (quoted escaped : Bool) : Type 0 where
  pub quoted_is : odd_quotes inside odd s i ≡ quoted
  pub escaped_is : odd_before odd s i ≡ escaped

module _ (inside odd : Bool) (s : List ℕ) (i : ℕ) (quoted : Bool) where
  -- a byte that is neither quote nor backslash
  pub carry_plain : (escaped : Bool) → (byte_at s i ≢ 0x22) → (byte_at s i ≢ 0x5C)
      → Carried inside odd s i quoted escaped → Carried inside odd s (suc i) quoted false
  unfolding odd_quotes odd_before real_quote is_backslash
  carry_plain escaped q b c = record {
    quoted_is = rw (ne_eqb (byte_at s i) 0x22 q) (false_xor (odd_quotes inside odd s i) ∙ c.quoted_is);
    escaped_is = rw (ne_eqb (byte_at s i) 0x5C b) refl;
  }

  -- a backslash that is not escaped
  pub carry_backslash : byte_at s i ≡ 0x5C → Carried inside odd s i quoted false → Carried inside odd s (suc i) quoted true
  unfolding odd_quotes odd_before real_quote is_backslash
  carry_backslash e c = record {
    quoted_is = rw e (false_xor (odd_quotes inside odd s i) ∙ c.quoted_is);
    escaped_is = rw (e, c.escaped_is) refl;
  }

  -- an escaped byte, whatever it is
  pub carry_escaped : Carried inside odd s i quoted true → Carried inside odd s (suc i) quoted false
  unfolding odd_quotes odd_before real_quote is_backslash
  carry_escaped c = record {
    quoted_is = rw (c.escaped_is, and-false (byte_at s i == 0x22)) (false_xor (odd_quotes inside odd s i) ∙ c.quoted_is);
    escaped_is = rw c.escaped_is (and-false (byte_at s i == 0x5C));
  }

  -- a real quote
  pub carry_quote : byte_at s i ≡ 0x22 → Carried inside odd s i quoted false → Carried inside odd s (suc i) (not quoted) false
  unfolding odd_quotes odd_before real_quote is_backslash
  carry_quote e c = record {
    quoted_is = rw (e, c.escaped_is) (true_xor (odd_quotes inside odd s i) ∙ ap not c.quoted_is);
    escaped_is = rw e refl;
  }

  -- word two at place i is the fact after byte i
  pub carried_string : (escaped : Bool) → Carried inside odd s (suc i) quoted escaped → in_string inside odd s i ≡ quoted
  unfolding in_string
  carried_string escaped c = c.quoted_is
