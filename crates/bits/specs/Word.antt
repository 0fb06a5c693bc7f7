-- The number that has given bytes, the lowest first: its bits, and the machine's operations byte by byte. Assumes nothing.
use Rattle.std.specs.Prelude.{◌≡◌, refl, Bool, true, false, List, ℕ, zero, suc, ◌+◌, ◌-◌, ◌*◌, ◌/◌, ◌%◌, ◌^◌, ◌<◌, ◌≤◌, ltb}
use Rattle.std.proofs.Common.{sym, ap₂, ◌∙◌, ⊎_elim, suc-add, zero-add, add_assoc, mul_assoc, pow-add, ltb-true, ltb-false, le-ltb}
use Rattle.std.proofs.Math.Path.{ap}
use native.Mathlib.Omega.{arith}
use Rattle.std.specs.Int.Bits.{bit_and, bit_or, bit_xor}
use Rattle.std.proofs.lemmas.Nat.{and_block, or_block, xor_block}
use Rattle.std.proofs.Math.ListN.{get_or}
use Rattle.bits.specs.Bits.{bit, Lowest}
use Rattle.bits.specs.Laws.{lt_or_ge, bit-zero, bit-mod, bit_shr, bit_ext}

-- the number of n bytes whose byte k is b k; byte 0 is the lowest
unfoldable pub word : ℕ → (ℕ → ℕ) → ℕ
word zero b = 0
word (suc n) b = word n (λ k. b (suc k)) * 256 + b 0

-- r holds the n bytes of s from place i on: as a word, and bit by bit
pub record Loaded (n : ℕ) (s : List ℕ) (i r : ℕ) : Type 0 where
  pub is_word : r ≡ word n (λ k. get_or s (i + k) 0)
  pub bits : (j : ℕ) → j < 8 * n → bit j r ≡ bit (j % 8) (get_or s (i + j / 8) 0)
  pub fits : r < 2 ^ (8 * n)

-- words of equal bytes are equal
pub word_same : (n : ℕ) (b d : ℕ → ℕ) → ((k : ℕ) → k < n → b k ≡ d k) → word n b ≡ word n d
unfolding word
word_same zero b d h = refl
word_same (suc n) b d h =
    ap₂ (λ (x y : ℕ). x * 256 + y) (word_same n (λ k. b (suc k)) (λ k. d (suc k)) (λ k l. h (suc k) (omega arith))) (h 0 (omega arith))

byte_more : (n : ℕ) → 2 ^ (8 * suc n) ≡ 2 ^ (8 * n) * 256
byte_more n = let e : 8 * suc n ≡ 8 * n + 8 = omega arith in ap (λ (x : ℕ). 2 ^ x) e ∙ pow-add 2 (8 * n) 8

pub word_lt : (n : ℕ) (b : ℕ → ℕ) → ((k : ℕ) → b k < 256) → word n b < 2 ^ (8 * n)
unfolding word
word_lt zero b small = omega arith
word_lt (suc n) b small = omega (arith, word_lt n (λ k. b (suc k)) (λ k. small (suc k)), small 0, byte_more n)

-- m bytes, and n more after them
pub word_join : (m n : ℕ) (b d : ℕ → ℕ) → ((k : ℕ) → d k ≡ b (m + k)) → word m b + word n d * 2 ^ (8 * m) ≡ word (m + n) b
unfolding word
word_join zero n b d h = omega (arith, word_same n d b (λ k l. h k ∙ ap b (zero-add k)), ap (λ (x : ℕ). word x b) (zero-add n))
word_join (suc m) n b d h =
    let r = word_join m n (λ k. b (suc k)) d (λ k. h k ∙ ap b (suc-add m k)) in
    let p : word n d * 2 ^ (8 * suc m) ≡ word n d * 2 ^ (8 * m) * 256 =
    ap (λ (x : ℕ). word n d * x) (byte_more m) ∙ sym (mul_assoc (word n d) (2 ^ (8 * m)) 256) in
    let e : word (suc m + n) b ≡ word (m + n) (λ k. b (suc k)) * 256 + b 0 = ap (λ (x : ℕ). word x b) (suc-add m n) in
    omega arith

-- bit j is bit j % 8 of byte j / 8
pub word_bit : (n : ℕ) (b : ℕ → ℕ) → ((k : ℕ) → b k < 256) → (j : ℕ) → j < 8 * n → bit j (word n b) ≡ bit (j % 8) (b (j / 8))
unfolding word
word_bit zero b small j h = absurd (omega arith)
word_bit (suc n) b small j h =
    let w : ℕ = word n (λ k. b (suc k)) in
    ⊎_elim
    (λ (l : j < 8).
    let d : 0 ≡ j / 8 = omega arith in
    let r : j ≡ j % 8 = omega arith in
    let e : (w * 256 + b 0) % 2 ^ 8 ≡ b 0 = omega (arith, small 0) in
    sym (bit-mod 8 j (w * 256 + b 0) l) ∙ ap (bit j) e ∙ ap₂ (λ (x y : ℕ). bit x (b y)) r d)
    (λ (l : 8 ≤ j).
    let d : suc ((j - 8) / 8) ≡ j / 8 = omega arith in
    let r : (j - 8) % 8 ≡ j % 8 = omega arith in
    let s : j ≡ 8 + (j - 8) = omega arith in
    let e : (w * 256 + b 0) / 2 ^ 8 ≡ w = omega (arith, small 0) in
    ap (λ (x : ℕ). bit x (w * 256 + b 0)) s ∙ sym (bit_shr 8 (j - 8) (w * 256 + b 0)) ∙ ap (bit (j - 8)) e
    ∙ word_bit n (λ k. b (suc k)) (λ k. small (suc k)) (j - 8) (omega arith) ∙ ap₂ (λ (x y : ℕ). bit x (b y)) r d)
    (lt_or_ge j 8)

-- the n bytes of s from place i on, each below 256, as a word
pub loaded : (n : ℕ) (s : List ℕ) (i r : ℕ) → ((k : ℕ) → get_or s k 0 < 256) → r ≡ word n (λ k. get_or s (i + k) 0) → Loaded n s i r
loaded n s i r small e = record {
  is_word = e;
  bits = λ j h. ap (bit j) e ∙ word_bit n (λ k. get_or s (i + k) 0) (λ k. small (i + k)) j h;
  fits = rw e (word_lt n (λ k. get_or s (i + k) 0) (λ k. small (i + k)));
}

-- a byte as a word, and a word with another after it
module _ (s : List ℕ) (small : (k : ℕ) → get_or s k 0 < 256) (i : ℕ) where
  pub load_one : (r : ℕ) → r ≡ get_or s i 0 → Loaded 1 s i r
  unfolding word
  load_one r e =
      let z : i ≡ i + 0 = omega arith in
      let d : get_or s i 0 ≡ get_or s (i + 0) 0 = ap (λ (k : ℕ). get_or s k 0) z in
      loaded 1 s i r small (omega arith)

  pub load_join : (m n x y : ℕ) → Loaded m s i x → Loaded n s (i + m) y → Loaded (m + n) s i (x + y * 2 ^ (8 * m))
  load_join m n x y a b = loaded (m + n) s i (x + y * 2 ^ (8 * m)) small
      (ap₂ (λ (u v : ℕ). u + v * 2 ^ (8 * m)) a.is_word b.is_word
      ∙ word_join m n (λ k. get_or s (i + k) 0) (λ k. get_or s (i + m + k) 0) (λ k. ap (λ (x : ℕ). get_or s x 0) (add_assoc i m k)))

-- ---- operations byte by byte

-- the difference of two words, lowest byte first, where c is borrowed from the lowest: what is borrowed from byte k, and byte k
unfoldable pub borrowed : ℕ → (ℕ → ℕ) → (ℕ → ℕ) → ℕ → ℕ
borrowed c x y zero = c
borrowed c x y (suc k) = borrowed (elim (ltb (x 0) (y 0 + c)) [ true ↦ 1 | false ↦ 0 ]) (λ j. x (suc j)) (λ j. y (suc j)) k

unfoldable pub difference : ℕ → (ℕ → ℕ) → (ℕ → ℕ) → ℕ → ℕ
unfolding borrowed
difference c x y k = (x k + 256 - (y k + borrowed c x y k)) % 256

pub difference_byte : (c : ℕ) (x y : ℕ → ℕ) (k : ℕ) → difference c x y k < 256
unfolding difference
difference_byte c x y k = omega arith

-- with what it borrows from the next, a byte makes up for the difference
lowest_difference :
    (a b c : ℕ) → a < 256 → b < 256 → c ≤ 1 → (t : Bool) → ltb a (b + c) ≡ t →
    ((a + 256 - (b + c)) % 256 + b + c ≡ a + 256 * elim t [ true ↦ 1 | false ↦ 0 ]) × (elim t [ true ↦ 1 | false ↦ 0 ] ≤ 1)
lowest_difference a b c h l m true e = let z = ltb-true a (b + c) e in (omega arith, omega arith)
lowest_difference a b c h l m false e = let z = ltb-false a (b + c) e in (omega arith, omega arith)

-- the bytes of the difference are those of the number that makes up for it, up to what is borrowed at the end
differences :
    (n c : ℕ) (x y : ℕ → ℕ) → c ≤ 1 → ((k : ℕ) → x k < 256) → ((k : ℕ) → y k < 256) →
    (word n (difference c x y) + word n y + c ≡ word n x + borrowed c x y n * 2 ^ (8 * n)) × (borrowed c x y n ≤ 1)
unfolding word borrowed difference
differences zero c x y m h l = (omega arith, m)
differences (suc n) c x y m h l =
    let d : ℕ = elim (ltb (x 0) (y 0 + c)) [ true ↦ 1 | false ↦ 0 ] in
    let low = lowest_difference (x 0) (y 0) c (h 0) (l 0) m (ltb (x 0) (y 0 + c)) refl in
    let r = differences n d (λ k. x (suc k)) (λ k. y (suc k)) low.1 (λ k. h (suc k)) (λ k. l (suc k)) in
    let top : ℕ = borrowed d (λ k. x (suc k)) (λ k. y (suc k)) n in
    let p : top * 2 ^ (8 * suc n) ≡ top * 2 ^ (8 * n) * 256 = ap (λ (z : ℕ). top * z) (byte_more n) ∙ sym (mul_assoc top (2 ^ (8 * n)) 256) in
    (omega (arith, r.0, low.0), r.1)

-- a difference of two words of eight bytes, wrapped
pub word_less :
    (x y : ℕ → ℕ) → ((k : ℕ) → x k < 256) → ((k : ℕ) → y k < 256) →
    (word 8 x + 2 ^ 64 - word 8 y) % 2 ^ 64 ≡ word 8 (difference 0 x y)
word_less x y h l =
    let d = differences 8 0 x y (omega arith) h l in
    omega (arith, d.0, d.1, word_lt 8 x h, word_lt 8 y l, word_lt 8 (difference 0 x y) (difference_byte 0 x y))

-- a byte is the difference of its two bytes where no byte before it borrows
pub difference_kept : (x y : ℕ → ℕ) (k : ℕ) → ((j : ℕ) → j < k → y j ≤ x j) → difference 0 x y k ≡ (x k + 256 - y k) % 256
unfolding difference borrowed
difference_kept x y k h = omega (arith, none x y k h)
  where
    none : (x y : ℕ → ℕ) (k : ℕ) → ((j : ℕ) → j < k → y j ≤ x j) → borrowed 0 x y k ≡ 0
    none x y zero h = refl
    none x y (suc k) h =
        let e : ltb (x 0) (y 0 + 0) ≡ false = le-ltb (x 0) (y 0 + 0) (omega (arith, h 0 (omega arith))) in
        rw e (none (λ j. x (suc j)) (λ j. y (suc j)) k (λ j l. h (suc j) (omega arith)))

pub word_and : (n : ℕ) (b d : ℕ → ℕ) → ((k : ℕ) → b k < 256) → ((k : ℕ) → d k < 256) → bit_and (word n b) (word n d) ≡ word n (λ k. bit_and (b k) (d k))
unfolding word
word_and zero b d h l = refl
word_and (suc n) b d h l =
    and_block 8 (word n (λ k. b (suc k))) (word n (λ k. d (suc k))) (b 0) (d 0) (h 0) (l 0)
    ∙ ap (λ (x : ℕ). x * 256 + bit_and (b 0) (d 0)) (word_and n (λ k. b (suc k)) (λ k. d (suc k)) (λ k. h (suc k)) (λ k. l (suc k)))

pub word_or : (n : ℕ) (b d : ℕ → ℕ) → ((k : ℕ) → b k < 256) → ((k : ℕ) → d k < 256) → bit_or (word n b) (word n d) ≡ word n (λ k. bit_or (b k) (d k))
unfolding word
word_or zero b d h l = refl
word_or (suc n) b d h l =
    or_block 8 (word n (λ k. b (suc k))) (word n (λ k. d (suc k))) (b 0) (d 0) (h 0) (l 0)
    ∙ ap (λ (x : ℕ). x * 256 + bit_or (b 0) (d 0)) (word_or n (λ k. b (suc k)) (λ k. d (suc k)) (λ k. h (suc k)) (λ k. l (suc k)))

pub word_xor : (n : ℕ) (b d : ℕ → ℕ) → ((k : ℕ) → b k < 256) → ((k : ℕ) → d k < 256) → bit_xor (word n b) (word n d) ≡ word n (λ k. bit_xor (b k) (d k))
unfolding word
word_xor zero b d h l = refl
word_xor (suc n) b d h l =
    xor_block 8 (word n (λ k. b (suc k))) (word n (λ k. d (suc k))) (b 0) (d 0) (h 0) (l 0)
    ∙ ap (λ (x : ℕ). x * 256 + bit_xor (b 0) (d 0)) (word_xor n (λ k. b (suc k)) (λ k. d (suc k)) (λ k. h (suc k)) (λ k. l (suc k)))

-- equal words have equal bytes
pub word_bytes : (n : ℕ) (b d : ℕ → ℕ) → ((k : ℕ) → b k < 256) → ((k : ℕ) → d k < 256) → word n b ≡ word n d → (k : ℕ) → k < n → b k ≡ d k
unfolding word
word_bytes zero b d h l e k r = absurd (omega arith)
word_bytes (suc n) b d h l e zero r = omega (arith, h 0, l 0)
word_bytes (suc n) b d h l e (suc k) r =
    word_bytes n (λ j. b (suc j)) (λ j. d (suc j)) (λ j. h (suc j)) (λ j. l (suc j)) (omega (arith, h 0, l 0)) k (omega arith)

-- the lowest bit that is on stands in the first byte that is not 0
module _ (n r : ℕ) (b : ℕ → ℕ) (small : (k : ℕ) → b k < 256) (low : Lowest (8 * n) (word n b) r) where
  pub lowest_before : (k : ℕ) → k < r / 8 → b k ≡ 0
  lowest_before k h = bit_ext 8 (b k) 0 (small k) (omega arith) (λ i l.
      let q : (8 * k + i) % 8 ≡ i = omega arith in
      let d : (8 * k + i) / 8 ≡ k = omega arith in
      ap₂ (λ (x y : ℕ). bit x (b y)) (sym q) (sym d)
      ∙ sym (word_bit n b small (8 * k + i) (omega (arith, low.within)))
      ∙ low.none_below (8 * k + i) (omega arith) ∙ sym (bit-zero i))

  pub lowest_byte : r < 8 * n → bit (r % 8) (b (r / 8)) ≡ true
  lowest_byte h = sym (word_bit n b small r h) ∙ low.is_on h
