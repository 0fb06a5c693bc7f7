-- Which of eight bytes are not of a kind, as a word; and the first of them.
use Rattle.std.specs.Prelude.{◌≡◌, ℕ, zero, suc, ◌+◌, ◌/◌, ◌%◌, ◌<◌, ◌≤◌, Bool, true, false, not, ◌&&◌, ◌||◌, T, List, ◌==◌, nat_eq, slice_index}
use Rattle.std.proofs.Common.{ap, sym, ◌∙◌, ⊎_elim, arith, eq-eqb, ne_eqb}
use Rattle.std.specs.Bool.{beq}
use Rattle.bits.specs.Bits.{bit, Lowest}
use Rattle.bits.specs.Laws.{lt_or_ge, bit_ext, bit-zero}
use Rattle.bits.specs.Truth.{all_below, all_at, and_left, and_right, beq→eq}
use Rattle.bits.specs.Word.{word, Loaded, word_lt, word_bytes, lowest_before, lowest_byte}
use Rattle.lanes.specs.Lanes.{Lane, on_byte, on_word, fits, keeps, lanes}

-- of the eight bytes of x, those before the first that is not of the kind have a byte 0 in r, and that one has not
pub record Stops (kind : ℕ → Bool) (x r : ℕ) : Type 0 where
  pub marks : (b : ℕ → ℕ) → ((k : ℕ) → b k < 256) → x ≡ word 8 b →
      (f : ℕ → ℕ) × ((k : ℕ) → f k < 256) × (r ≡ word 8 f)
      × ((k : ℕ) → ((j : ℕ) → j < k → kind (b j) ≡ true) → kind (b k) ≡ (f k == 0))

-- the number of bytes of w below the one with its lowest bit that is on
pub record FirstByte (w n : ℕ) : Type 0 where
  pub place : ℕ
  pub low : Lowest 64 w place
  pub is_byte : n ≡ place / 8

pub first_within : {w n : ℕ} → FirstByte w n → n ≤ 8
first_within d = omega (arith, d.is_byte, d.low.within)

-- a lane marks the bytes of a kind: it is 0 at those, and what it computes from them does not borrow
unfoldable pub marks_kind : (ℕ → Bool) → Lane → ℕ → Bool
marks_kind kind e b = beq (kind b) (on_byte e b == 0) && (not (kind b) || keeps e b)

-- what one test of all bytes says of eight at a time
pub by_lane : (kind : ℕ → Bool) (e : Lane) → T (fits e) → T (all_below 256 (marks_kind kind e)) → {x r : ℕ} → r ≡ on_word e x → Stops kind x r
unfolding marks_kind
by_lane kind e fit t {x} {r} q = record { marks = at }
  where
    at :
        (b : ℕ → ℕ) → ((k : ℕ) → b k < 256) → x ≡ word 8 b →
        (f : ℕ → ℕ) × ((k : ℕ) → f k < 256) × (r ≡ word 8 f)
        × ((k : ℕ) → ((j : ℕ) → j < k → kind (b j) ≡ true) → kind (b k) ≡ (f k == 0))
    at b small w =
        let c = lanes e fit b small in
        let test : (k : ℕ) → T (marks_kind kind e (b k)) = λ k. all_at 256 (marks_kind kind e) t (b k) (small k) in
        let right : (k : ℕ) → Bool = λ k. beq (kind (b k)) (on_byte e (b k) == 0) in
        let keep : (k : ℕ) → kind (b k) ≡ true → T (keeps e (b k)) =
        λ k h. rw h at (and_right (right k) (not (kind (b k)) || keeps e (b k)) (test k)) in (
          c.bytes,
          c.small,
          q ∙ ap (on_word e) w ∙ c.is_word,
          λ k h.
              beq→eq (kind (b k)) (on_byte e (b k) == 0) (and_left (right k) (not (kind (b k)) || keeps e (b k)) (test k))
              ∙ ap (λ (n : ℕ). nat_eq n 0) (sym (c.alone k (λ j l. keep j (h j l)))),
        )

-- of the eight bytes of s from i on
module _ {kind : ℕ → Bool} {s : List ℕ} {i x w : ℕ} (small : (j : ℕ) → slice_index s j < 256) (l : Loaded 8 s i x) (m : Stops kind x w) where
  found :
      (f : ℕ → ℕ) × ((k : ℕ) → f k < 256) × (w ≡ word 8 f)
      × ((k : ℕ) → ((j : ℕ) → j < k → kind (slice_index s (i + j)) ≡ true) → kind (slice_index s (i + k)) ≡ (f k == 0))
  found = m.marks (λ k. slice_index s (i + k)) (λ k. small (i + k)) l.is_word

  -- where bytes are not marked they are of the kind, one after another
  unmarked : (n : ℕ) → ((j : ℕ) → j < n → found.0 j ≡ 0) → (j : ℕ) → j < n → kind (slice_index s (i + j)) ≡ true
  unmarked zero z j h = absurd (omega arith)
  unmarked (suc n) z j h =
      let before = unmarked n (λ k r. z k (omega arith)) in
      ⊎_elim (before j) (λ (r : n ≤ j). found.3 j (λ k q. before k (omega arith)) ∙ eq-eqb (found.0 j) 0 (z j h)) (lt_or_ge j n)

  -- all are of the kind where the word is 0
  pub stops_none : w ≡ 0 → (j : ℕ) → j < 8 → kind (slice_index s (i + j)) ≡ true
  unfolding word
  stops_none e = unmarked 8 (word_bytes 8 found.0 (λ k. 0) found.1 (λ k. omega arith) (sym found.2 ∙ e))

  module _ {n : ℕ} (d : FirstByte w n) where
    lowest_of : Lowest 64 (word 8 found.0) d.place
    lowest_of = rw found.2 at d.low

    -- those before the first that is marked
    pub stops_before : (j : ℕ) → j < n → kind (slice_index s (i + j)) ≡ true
    stops_before = unmarked n (λ j h. lowest_before 8 d.place found.0 found.1 lowest_of j (omega (arith, d.is_byte)))

    -- and that one is not
    module _ (some : w ≡ 0 → ⊥) where
      low_place : d.place < 64
      low_place = ⊎_elim (λ h. h) (λ h. absurd (some (no_bit h))) (lt_or_ge d.place 64)
        where
          no_bit : 64 ≤ d.place → w ≡ 0
          no_bit h =
              bit_ext 64 w 0 (rw found.2 (word_lt 8 found.0 found.1)) (omega arith)
              (λ j r. d.low.none_below j (omega arith) ∙ sym (bit-zero j))

      pub stops_at : kind (slice_index s (i + n)) ≡ false
      stops_at = found.3 n stops_before ∙ ne_eqb (found.0 n) 0 marked
        where
          marked : found.0 n ≡ 0 → ⊥
          marked z =
              let on = lowest_byte 8 d.place found.0 found.1 lowest_of low_place in
              let off : bit (d.place % 8) (found.0 (d.place / 8)) ≡ false = cc (d.is_byte, bit-zero (d.place % 8)) in
              let clash : ◌≡◌ {A = ℕ} 0 1 = cc (on, off) in
              omega arith
