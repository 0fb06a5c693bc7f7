-- The words of a full block are those of every part that begins with it, since they look at no byte behind it. Assumes nothing.
use Rattle.std.proofs.Common.{◌≡◌, ℕ, ◌<◌, ◌≤◌, Bool, List, length, take, refl, sym, ap, ◌∙◌, arith, length-take-le, get_or-take}
use Rattle.bits.specs.Bits.{number}
use Rattle.bits.specs.Laws.{number_same}
use Rattle.classifier.specs.Classes.{byte_at}
use Rattle.blocks.specs.Laws.{size_full, inside_full, odd_full, odd_same, quotes_same, quote_same, string_same, opens_same, closes_same}
use Rattle.blocks.specs.Sorted.{Sorted}
use Rattle.blocks.specs.Words.{block_size, quotes_word, strings_word, opening_word, closing_word}
use Rattle.blocks.specs.declared.Words.{Words}

pub full_front : (s : List ℕ) {d : List ℕ} → 64 ≤ length s → d ≡ take 64 s → 64 ≤ length d
full_front s long e = rw e (omega (arith, length-take-le 64 s))

module _ (s : List ℕ) (long : 64 ≤ length s) (inside odd : Bool) where
  front_long : 64 ≤ length (take 64 s)
  front_long = full_front s long refl

  same : (j : ℕ) → j < 64 → byte_at (take 64 s) j ≡ byte_at s j
  unfolding byte_at
  same j h = rw get_or-take

  word : (f g : ℕ → Bool) → ((i : ℕ) → i < 64 → f i ≡ g i) → number (block_size (take 64 s)) f ≡ number (block_size s) g
  word f g h = ap (λ n. number n f) (size_full (take 64 s) front_long) ∙ number_same 64 f g h ∙ ap (λ n. number n g) (sym (size_full s long))

  pub sorted_front : {d : List ℕ} {w : Words} → d ≡ take 64 s → Sorted d inside odd w → Sorted s inside odd w
  unfolding quotes_word strings_word opening_word closing_word
  sorted_front e h =
      let k : Sorted (take 64 s) inside odd _ = rw e at h in
      record {
        quotes_are = k.quotes_are ∙ word _ _ (quote_same (take 64 s) s 64 same inside odd);
        strings_are = k.strings_are ∙ word _ _ (string_same (take 64 s) s 64 same inside odd);
        opening_are = k.opening_are ∙ word _ _ (opens_same (take 64 s) s 64 same inside odd);
        closing_are = k.closing_are ∙ word _ _ (closes_same (take 64 s) s 64 same inside odd);
        inside_is = k.inside_is ∙ inside_full (take 64 s) inside odd front_long
            ∙ quotes_same (take 64 s) s 64 same inside odd 64 (omega arith) ∙ sym (inside_full s inside odd long);
        odd_is = k.odd_is ∙ odd_full (take 64 s) inside odd front_long
            ∙ odd_same (take 64 s) s 64 same inside odd 64 (omega arith) ∙ sym (odd_full s inside odd long);
      }
