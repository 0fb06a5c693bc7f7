-- What is left of a name from a place on, as it stands in a path: the piece of a byte, or of an escape's code point, and then the rest; and
-- whether half of a surrogate pair is among its escapes. Assumes nothing.
use mathlib.Core.Path.{◌≡◌, sym, ap, ap₂, ◌∙◌}
use mathlib.Core.Bool.{false, ◌||◌}
use mathlib.Core.List.{List, [], ◌++◌}
use Prim.Native.Nat.{ℕ, ◌+◌, ◌≤◌, ◌<◌}
use lib.ListN.{length, get_or, drop, drop_of_length-le}
use lib.Seq.{drop-drop}
use Rattle.encoding.specs.BytesLaws.{byte_at_lem}
use Rattle.encoding.specs.PointsLaws.{utf8_append}
use Rattle.encoding.specs.Unescape.{unescaped, point_at, size_at}
use Rattle.encoding.specs.UnescapeLaws.{unescaped-nil}
use Rattle.escapes.specs.Escapes.{EscapeAt}
use Rattle.escapes.specs.LeftLaws.{rest_at, rest_read, plain_left, escape_left}
use Rattle.paths.specs.Answer.{is_half_of}
use Rattle.path_names.specs.Escaped.{put_escaped, half_escaped}
use Rattle.path_names.specs.HalfLaws.{half_nil, half_plain, half_escape}
use Rattle.path_names.specs.Pieces.{point_piece, byte_piece}
use Rattle.path_names.specs.PiecesLaws.{byte_first, point_first}

-- what is left from i on
abbrev pub left : List ℕ → (i : ℕ) → List ℕ
left s i = put_escaped (unescaped (drop i s)) []

module _ (s : List ℕ) (i : ℕ) where
  pub left_none : length s ≤ i → left s i ≡ []
  unfolding put_escaped
  left_none h = rw (drop_of_length-le s h, unescaped-nil)

  pub half_none : length s ≤ i → half_escaped (drop i s) ≡ false
  half_none h = rw (drop_of_length-le s h) half_nil

  module _ (h : i < length s) where
    module _ (f : get_or s i 0 ≡ 0x5C → ⊥) where
      pub left_byte : left s i ≡ byte_piece (get_or s i 0) ++ left s (i + 1)
      left_byte = ap (λ (t : List ℕ). put_escaped t []) (plain_left s i h f) ∙ byte_first (get_or s i 0) (unescaped (drop (i + 1) s)) []

      pub half_byte : half_escaped (drop i s) ≡ half_escaped (drop (i + 1) s)
      half_byte = rw (byte_at_lem s i h) (half_plain (get_or s i 0) (drop (i + 1) s) f)

    module _ {p n : ℕ} (e : get_or s i 0 ≡ 0x5C) (x : EscapeAt (rest_at s i) p n) where
      pub left_escape : left s i ≡ point_piece p ++ left s (i + n)
      left_escape =
          let rest = unescaped (drop (i + n) s) in
          ap (λ (t : List ℕ). put_escaped t []) (escape_left s i h e x ∙ sym (utf8_append p rest)) ∙ point_first p rest []

      pub half_escaped_lem : half_escaped (drop i s) ≡ (is_half_of p || half_escaped (drop (i + n) s))
      half_escaped_lem =
          let t = drop i s in
          let y : EscapeAt t p n = rest_read s i x in
          let whole : half_escaped t ≡ (is_half_of (point_at t) || half_escaped (drop (size_at t) t))
          = rw (byte_at_lem s i h, e) (half_escape (drop (i + 1) s)) in
          whole
          ∙ ap₂ (λ (m l : ℕ). is_half_of m || half_escaped (drop l t)) (sym y.point_is) (sym y.size_is)
          ∙ ap (λ (l : List ℕ). is_half_of p || half_escaped l) (drop-drop n i s)
