-- Eight bytes at a time: an operation on words that is done on each byte alone, up to the first byte that borrows from the next.
use Rattle.std.specs.Prelude.{◌≡◌, ℕ, ◌+◌, ◌-◌, ◌*◌, ◌%◌, ◌^◌, ◌<◌, Bool, true, ◌&&◌, T, bit_and, bit_or, bit_xor, nat_le, nat_lt, refl}
use Rattle.std.proofs.Common.{ap₂, ◌∙◌, arith, ltb→lt, leb→le}
use Rattle.std.specs.Int.Bits.{and_lt}
use Rattle.std.proofs.lemmas.Nat.{or_lt, xor_lt}
use Rattle.bits.specs.Truth.{and_left, and_right}
use Rattle.bits.specs.Word.{word, difference, difference_byte, difference_kept, word_less, word_and, word_or, word_xor}

pub data Op : Type 0 where
  and or xor minus : Op

-- what is computed from a byte: the byte itself, a number that is the same for each, or an operation on two such
pub data Lane : Type 0 where
  byte : Lane
  same : ℕ → Lane
  both : Op → Lane → Lane → Lane

-- on one byte
abbrev pub on_bytes : Op → ℕ → ℕ → ℕ
on_bytes and x y = bit_and x y
on_bytes or x y = bit_or x y
on_bytes xor x y = bit_xor x y
on_bytes minus x y = (x + 256 - y) % 256

abbrev pub on_byte : Lane → ℕ → ℕ
on_byte byte b = b
on_byte (same m) b = m
on_byte (both o e f) b = on_bytes o (on_byte e b) (on_byte f b)

-- on a word of eight
abbrev pub on_words : Op → ℕ → ℕ → ℕ
on_words and x y = bit_and x y
on_words or x y = bit_or x y
on_words xor x y = bit_xor x y
on_words minus x y = (x + 2 ^ 64 - y) % 2 ^ 64

abbrev pub on_word : Lane → ℕ → ℕ
on_word byte x = x
on_word (same m) x = m * 0x0101010101010101
on_word (both o e f) x = on_words o (on_word e x) (on_word f x)

-- its highest bit is on at the byte m, and at no other below 80
abbrev pub high_at : ℕ → Lane
high_at m = both minus (both xor byte (same m)) (same 0x01)

-- its highest bit is on below 80
abbrev pub flip : Lane
flip = both minus (same 0xFF) byte

-- the numbers that are the same for each byte are bytes
abbrev pub fits : Lane → Bool
fits byte = true
fits (same m) = nat_lt m 256
fits (both o e f) = fits e && fits f

-- nothing that is computed from the byte borrows from the next
abbrev pub op_keeps : Op → ℕ → ℕ → Bool
op_keeps and x y = true
op_keeps or x y = true
op_keeps xor x y = true
op_keeps minus x y = nat_le y x

abbrev pub keeps : Lane → ℕ → Bool
keeps byte b = true
keeps (same m) b = true
keeps (both o e f) b = keeps e b && (keeps f b && op_keeps o (on_byte e b) (on_byte f b))

-- the bytes of what is computed from the word of the bytes b: byte k comes from b k alone where no byte before it borrows
pub record Computed (e : Lane) (b : ℕ → ℕ) : Type 0 where
  pub bytes : ℕ → ℕ
  pub small : (k : ℕ) → bytes k < 256
  pub is_word : on_word e (word 8 b) ≡ word 8 bytes
  pub alone : (k : ℕ) → ((j : ℕ) → j < k → T (keeps e (b j))) → bytes k ≡ on_byte e (b k)

-- the same of an operation on two words of eight bytes
record OnTwo (o : Op) (x y : ℕ → ℕ) : Type 0 where
  bytes : ℕ → ℕ
  small : (k : ℕ) → bytes k < 256
  is_word : on_words o (word 8 x) (word 8 y) ≡ word 8 bytes
  alone : (k : ℕ) → ((j : ℕ) → j < k → T (op_keeps o (x j) (y j))) → bytes k ≡ on_bytes o (x k) (y k)

on_two : (o : Op) (x y : ℕ → ℕ) → ((k : ℕ) → x k < 256) → ((k : ℕ) → y k < 256) → OnTwo o x y
on_two and x y h l =
    record {
      bytes = λ k. bit_and (x k) (y k);
      small = λ k. and_lt 8 (x k) (y k) (h k) (l k);
      is_word = word_and 8 x y h l;
      alone = λ k t. refl;
    }
on_two or x y h l =
    record {
      bytes = λ k. bit_or (x k) (y k);
      small = λ k. or_lt 8 (x k) (y k) (h k) (l k);
      is_word = word_or 8 x y h l;
      alone = λ k t. refl;
    }
on_two xor x y h l =
    record {
      bytes = λ k. bit_xor (x k) (y k);
      small = λ k. xor_lt 8 (x k) (y k) (h k) (l k);
      is_word = word_xor 8 x y h l;
      alone = λ k t. refl;
    }
on_two minus x y h l =
    record {
      bytes = difference 0 x y;
      small = difference_byte 0 x y;
      is_word = word_less x y h l;
      alone = λ k t. difference_kept x y k (λ j r. leb→le (y j) (x j) (t j r));
    }

-- two that are computed, and an operation on them
module _ {e f : Lane} {b : ℕ → ℕ} (o : Op) (p : Computed e b) (q : Computed f b) where
  abbrev Keep : ℕ → Type 0
  Keep k = (j : ℕ) → j < k → T (keeps (both o e f) (b j))

  abbrev rest : ℕ → Bool
  rest j = keeps f (b j) && op_keeps o (on_byte e (b j)) (on_byte f (b j))

  left_alone : (k : ℕ) → Keep k → p.bytes k ≡ on_byte e (b k)
  left_alone k t = p.alone k (λ j h. and_left (keeps e (b j)) (rest j) (t j h))

  right_alone : (k : ℕ) → Keep k → q.bytes k ≡ on_byte f (b k)
  right_alone k t =
      q.alone k (λ j h. and_left (keeps f (b j)) (op_keeps o (on_byte e (b j)) (on_byte f (b j))) (and_right (keeps e (b j)) (rest j) (t j h)))

  op_keeps_lem : (k : ℕ) → Keep k → (j : ℕ) → j < k → T (op_keeps o (p.bytes j) (q.bytes j))
  op_keeps_lem k t j h =
      let before : Keep j = λ i l. t i (omega arith) in
      rw (left_alone j before, right_alone j before)
      (and_right (keeps f (b j)) (op_keeps o (on_byte e (b j)) (on_byte f (b j))) (and_right (keeps e (b j)) (rest j) (t j h)))

  computed_both : Computed (both o e f) b
  computed_both =
      let r = on_two o p.bytes q.bytes p.small q.small in
      record {
        bytes = r.bytes;
        small = r.small;
        is_word = ap₂ (on_words o) p.is_word q.is_word ∙ r.is_word;
        alone = λ k t. r.alone k (op_keeps_lem k t) ∙ ap₂ (on_bytes o) (left_alone k t) (right_alone k t);
      }

pub lanes : (e : Lane) → T (fits e) → (b : ℕ → ℕ) → ((k : ℕ) → b k < 256) → Computed e b
unfolding word
lanes byte t b h = record { bytes = b; small = h; is_word = refl; alone = λ k l. refl }
lanes (same m) t b h = record { bytes = λ k. m; small = λ k. ltb→lt m 256 t; is_word = omega arith; alone = λ k l. refl }
lanes (both o e f) t b h = computed_both o (lanes e (and_left (fits e) (fits f) t) b h) (lanes f (and_right (fits e) (fits f) t) b h)

-- a word whose bits are all the other way has the bits of each byte so
pub flipped : (x : ℕ) → x < 2 ^ 64 → 2 ^ 64 - 1 - x ≡ on_word flip x
flipped x h = omega arith
