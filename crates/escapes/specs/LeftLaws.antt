-- What is left of a name from a place on, and what it is decoded: a byte, or an escape, and then the rest. Assumes nothing.
use Rattle.std.specs.Prelude.{◌≡◌, refl, Bool, true, false, List, [], ◌∷◌, ◌++◌, ℕ, ◌+◌, ◌-◌, ◌≤◌, ◌<◌, ltb, length, get_or, take, drop}
use Rattle.std.proofs.Common.{sym, ap, ap₂, ◌∙◌, add-one, arith, ltb-true, ltb-false, drop_of_length-le, length-take, length-drop, take_all, drop-drop, get_or-drop, get_or-take}
use Rattle.std.proofs.Math.ListN.{get_or-eq_default}
use Rattle.std.proofs.Math.Seq.{slice, slice-cons, length-slice}
use Rattle.encoding.specs.BytesLaws.{byte_at_lem}
use Rattle.encoding.specs.Points.{utf8}
use Rattle.encoding.specs.PointsLaws.{utf8_append}
use Rattle.encoding.specs.Unescape.{unescaped, point_at, size_at}
use Rattle.encoding.specs.UnescapeLaws.{unescaped_plain, unescaped_escape, size_two, size_twelve}
use Rattle.escapes.specs.Escapes.{EscapeAt}
use Rattle.escapes.specs.DecodedLaws.{Small, decoded-length}

-- the bytes from i on, as a slice lends them
abbrev pub rest_at : List ℕ → ℕ → List ℕ
rest_at s i = take (length s - i) (drop i s)

pub rest_read : (s : List ℕ) (i : ℕ) {p n : ℕ} → EscapeAt (rest_at s i) p n → EscapeAt (drop i s) p n
rest_read s i e = rw (take_all (length s - i) (drop i s) (omega (arith, length-drop i s))) at e

module _ (s : List ℕ) (i : ℕ) (h : i < length s) where
  pub plain_left : (get_or s i 0 ≡ 0x5C → ⊥) → unescaped (drop i s) ≡ (get_or s i 0 ∷ []) ++ unescaped (drop (i + 1) s)
  plain_left f = rw (byte_at_lem s i h) (unescaped_plain (get_or s i 0) (drop (i + 1) s) f)

  pub escape_left : {p n : ℕ} → get_or s i 0 ≡ 0x5C → EscapeAt (rest_at s i) p n → unescaped (drop i s) ≡ utf8 p [] ++ unescaped (drop (i + n) s)
  escape_left {p} {n} e lent =
      let t = drop i s in
      let q = rest_read s i lent in
      let whole : unescaped t ≡ utf8 (point_at t) (unescaped (drop (size_at t) t)) = rw (byte_at_lem s i h, e) (unescaped_escape (drop (i + 1) s)) in
      whole
      ∙ ap₂ (λ (m l : ℕ). utf8 m (unescaped (drop l t))) (sym q.point_is) (sym q.size_is)
      ∙ ap (λ (l : List ℕ). utf8 p (unescaped l)) (drop-drop n i s)
      ∙ utf8_append p (unescaped (drop (i + n) s))

-- the same of a slice, byte by byte
module _ (s : List ℕ) (i to : ℕ) where
  pub next : i < to → to ≤ length s → slice i to s ≡ get_or s i 0 ∷ slice (i + 1) to s
  next h k = rw add-one (slice-cons i to s 0 h k)

  pub nothing : to ≤ i → slice i to s ≡ []
  nothing h = drop_of_length-le (take to s) {i = i} (omega (arith, length-take to s))

  -- bytes decoded are as many as were written at most
  pub decoded_within : to ≤ length s → Small s → length (unescaped (slice i to s)) ≤ to - i
  decoded_within k small = omega (arith, decoded-length (slice i to s) here, length-slice i to s k)
    where
      here : Small (slice i to s)
      here n = rw (get_or-drop i (take to s) n 0) (go (ltb (i + n) to) refl)
        where
          go : (x : Bool) → ltb (i + n) to ≡ x → get_or (take to s) (i + n) 0 < 0x100
          go true e = rw (get_or-take to s (i + n) 0 (ltb-true (i + n) to e)) (small (i + n))
          go false e = rw (get_or-eq_default (take to s) 0 {n = i + n} (omega (arith, length-take to s, ltb-false (i + n) to e))) (omega arith)

-- an escape has from 2 to 12 bytes
pub size_bounds : {s : List ℕ} {p n : ℕ} → EscapeAt s p n → (2 ≤ n) × (n ≤ 12)
size_bounds {s} e = (omega (arith, e.size_is, size_two s), omega (arith, e.size_is, size_twelve s))
