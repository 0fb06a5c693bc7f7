-- A name written decoded: what is decoded so far stands in the buffer. Assumes nothing.
use mathlib.Core.Path.{◌≡◌, ap}
use mathlib.Core.List.{List, [], ◌∷◌, ◌++◌}
use Prim.Native.Nat.{ℕ, ◌+◌, ◌≤◌, ◌<◌}
use native.Mathlib.Omega.{arith}
use lib.ListN.{length, get_or, drop, length-append}
use Rattle.encoding.specs.Points.{utf8}
use Rattle.encoding.specs.Unescape.{unescaped}
use Rattle.escapes.specs.DecodedLaws.{Small, decoded-length}
use Rattle.escapes.specs.Escapes.{EscapeAt}
use Rattle.escapes.specs.LeftLaws.{rest_at}
use Rattle.names.proofs.Decoding.{Decoded, decoded_start, decoded_end, decoded_byte, decoded_escape}
use Rattle.names.specs.Names.{Written}
use Rattle.names.specs.WrittenLaws.{written_none, written_both, written-length}

-- what is decoded of the name stands in the buffer from `at` up to i, and the name fits there
pub record Writing (before s : List ℕ) (at : ℕ) (now : List ℕ) (i j : ℕ) : Type 0 where
  pub bytes : List ℕ
  pub decoded : Decoded s bytes j
  pub written : Written before at bytes now i
  pub room : at + length s ≤ length before
  pub short : length (unescaped s) ≤ length s

pub writing_start : {before s : List ℕ} {at : ℕ} → at + length s ≤ length before → Small s → Writing before s at before at 0
writing_start {before} {s} {at} h small =
    record { bytes = []; decoded = decoded_start s; written = written_none before at; room = h; short = decoded-length s small }

module _ {before s : List ℕ} {at : ℕ} {now : List ℕ} {i j : ℕ} (v : Writing before s at now i j) where
  -- what is decoded next fits
  fits : (new : List ℕ) {k : ℕ} → Decoded s (v.bytes ++ new) k → i + length new ≤ at + length s
  fits new {k} d =
      omega (
        arith,
        v.written.end,
        v.short,
        ap length d.is,
        length-append (v.bytes ++ new) (unescaped (drop k s)),
        length-append v.bytes new,
      )

  pub writing_within : i ≤ at + length s
  writing_within = omega (arith, v.written.end, v.short, ap length v.decoded.is, length-append v.bytes (unescaped (drop j s)))

  pub writing_length : length now ≡ length before
  writing_length = written-length v.written (omega (arith, v.room)) (omega (arith, writing_within, v.room))

  pub writing_end : length s ≤ j → Written before at (unescaped s) now i
  writing_end h = rw (decoded_end v.decoded h) v.written

  more : (new : List ℕ) {k : ℕ} → Decoded s (v.bytes ++ new) k → {after : List ℕ} {r : ℕ} → Written now i new after r → Writing before s at after r k
  more new d w =
      record { bytes = v.bytes ++ new; decoded = d; written = written_both v.written (omega (arith, v.room)) w; room = v.room; short = v.short }

  module _ (h : j < length s) where
    -- a byte
    module _ (f : get_or s j 0 ≡ 0x5C → ⊥) where
      pub byte_room : i + 1 ≤ length now
      byte_room = omega (arith, fits (get_or s j 0 ∷ []) (decoded_byte v.decoded h f), v.room, writing_length)

      pub writing_byte : {after : List ℕ} {r : ℕ} → Written now i (get_or s j 0 ∷ []) after r → Writing before s at after r (j + 1)
      writing_byte w = more (get_or s j 0 ∷ []) (decoded_byte v.decoded h f) w

    -- an escape
    module _ {p n : ℕ} (f : get_or s j 0 ≡ 0x5C) (e : EscapeAt (rest_at s j) p n) where
      pub point_room : i + length (utf8 p []) ≤ length now
      point_room = omega (arith, fits (utf8 p []) (decoded_escape v.decoded h f e), v.room, writing_length)

      pub writing_escape : {after : List ℕ} {r : ℕ} → Written now i (utf8 p []) after r → Writing before s at after r (j + n)
      writing_escape w = more (utf8 p []) (decoded_escape v.decoded h f e) w
