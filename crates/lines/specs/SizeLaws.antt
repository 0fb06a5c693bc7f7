-- How long what is printed can be: a line of a pair is its three numbers and three bytes.
use Rattle.std.specs.Prelude.{◌≡◌, List, [], ◌∷◌, length, get_or}
use Rattle.std.proofs.Common.{◌∙◌}
use Prim.Native.Nat.{ℕ, zero, suc, ◌+◌, ◌*◌, ◌^◌, ◌≤◌, ◌<◌}
use Rattle.std.proofs.Math.Nat.{suc-mul}
use native.Mathlib.Omega.{arith}
use Rattle.std.proofs.Math.ListN.{length-append}
use Rattle.encoding.specs.Ascii.{ascii}
use Rattle.text.specs.Decimal.{decimal}
use Rattle.text.specs.DecimalLaws.{decimal-length, decimal_word}
use Rattle.lines.specs.Lines.{space, feed, max_pairs, line, pair_line, pair_lines, matches, refusal}

-- the length of a line
line-length : (f : List ℕ) → length (line f []) ≡ length f + 1
unfolding line
line-length f = length-append f (feed ∷ [])

line_longer : (f g : List ℕ) (gs : List (List ℕ)) → length (line f (g ∷ gs)) ≡ length f + 1 + length (line g gs)
unfolding line
line_longer f g gs = length-append f (space ∷ line g gs) ∙ omega arith

three_length : (f g h : List ℕ) → length (line f (g ∷ h ∷ [])) ≡ length f + length g + length h + 3
three_length f g h = omega (arith, line_longer f g (h ∷ []), line_longer g h [], line-length h)

-- a refusal of two numbers of 32 bits
pub refusal_size : (g p : ℕ) → g < 2 ^ 32 → p < 2 ^ 32 → length (refusal g p) ≤ 30
refusal_size g p a b = omega (arith, three_length (ascii "refused") (decimal g) (decimal p), decimal_word g a, decimal_word p b)

-- the lines of pairs, where a number in the list has at most d digits, and no pair is the thousandth
module _ (l : List ℕ) (d : ℕ) (digits : (j : ℕ) → length (decimal (get_or l j 0)) ≤ d) where
  pair_size : (i : ℕ) → i < 999 → length (pair_line i l) ≤ d + d + 6
  pair_size i h =
      omega (
        arith,
        three_length (decimal (i + 1)) (decimal (get_or l (i * 2) 0)) (decimal (get_or l (i * 2 + 1) 0)),
        decimal-length 2 (i + 1) (omega arith),
        digits (i * 2),
        digits (i * 2 + 1),
      )

  pairs_size : (k i : ℕ) → i + k ≤ 999 → length (pair_lines i k l) ≤ k * (d + d + 6)
  unfolding pair_lines
  pairs_size zero i h = omega arith
  pairs_size (suc k) i h =
      omega (
        arith,
        length-append (pair_line i l) (pair_lines (i + 1) k l),
        pair_size i (omega arith),
        pairs_size k (i + 1) (omega arith),
        suc-mul k (d + d + 6),
      )

  pub matches_size : (n : ℕ) → n ≤ max_pairs → length (matches n l) ≤ 12 + n * (d + d + 6)
  matches_size n h =
      omega (
        arith,
        length-append (line (ascii "matches") (decimal n ∷ [])) (pair_lines 0 n l),
        line_longer (ascii "matches") (decimal n) [],
        line-length (decimal n),
        decimal-length 2 n (omega arith),
        pairs_size n 0 (omega arith),
      )
