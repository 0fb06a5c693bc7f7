-- A decoded name is written piece by piece: each byte as its piece, and the bytes of a code point as the piece of the code point. Assumes nothing.
use Rattle.std.specs.Prelude.{◌≡◌, refl, Some, None, Bool, true, false, ℕ, ◌+◌, ◌/◌, ◌%◌, ◌<◌, ◌≤◌, ltb}
use Rattle.std.proofs.Common.{sym, ◌∙◌, arith, ltb-true, ltb-false}
use Rattle.std.proofs.Math.Path.{ap}
use mathlib.Core.List.{List, [], ◌∷◌, ◌++◌}
use Rattle.encoding.specs.Points.{utf8}
use Rattle.encoding.specs.PointsLaws.{utf8_1, utf8_2, utf8_3, utf8_4, utf8_four, utf8_append}
use Rattle.paths.specs.Rendered.{hex_lower_of, rendered}
use Rattle.paths.specs.RenderedLaws.{NoShort, View, short, control, plain, view, render_short, render_control, render_plain, render_high}
use Rattle.path_names.specs.Escaped.{put_escaped}
use Rattle.path_names.specs.Pieces.{point_piece, byte_piece, control_piece, Letter, named, nameless}

-- bytes from 80 on, as all are of a code point from 80 on
pub data High : List ℕ → Type 0 where
  none : High []
  more : {b : ℕ} {u : List ℕ} → 0x80 ≤ b → High u → High (b ∷ u)

first : (b : ℕ) {u : List ℕ} → 0x80 ≤ b → High u → High (b ∷ u)
first b l h = more l h

pub utf8_high : (n : ℕ) → 0x80 ≤ n → High (utf8 n [])
utf8_high n l = go (ltb n 0x800) refl (ltb n 0x10000) refl
  where
    last : High ((0x80 + n % 64) ∷ [])
    last = first (0x80 + n % 64) (omega arith) none

    go : (x : Bool) → ltb n 0x800 ≡ x → (y : Bool) → ltb n 0x10000 ≡ y → High (utf8 n [])
    go true e y f = rw (utf8_2 n [] l (ltb-true n 0x800 e)) (first (0xC0 + n / 64) (omega arith) last)
    go false e true f =
        rw (utf8_3 n [] (ltb-false n 0x800 e) (ltb-true n 0x10000 f))
        (first (0xE0 + n / 4096) (omega arith) (first (0x80 + n / 64 % 64) (omega arith) last))
    go false e false f =
        rw (utf8_4 n [] (ltb-false n 0x10000 f))
        (first (0xF0 + n / 262144) (omega arith) (first (0x80 + n / 4096 % 64) (omega arith) (first (0x80 + n / 64 % 64) (omega arith) last)))

-- they stand as they are
escaped_high : {u : List ℕ} → High u → (bs s : List ℕ) → put_escaped (u ++ bs) s ≡ u ++ put_escaped bs s
unfolding put_escaped
escaped_high none bs s = refl
escaped_high (more {b} {u} l h) bs s =
    render_high b (b ∷ put_escaped (u ++ bs) s) (put_escaped (u ++ bs) s) l ∙ ap (λ (t : List ℕ). b ∷ t) (escaped_high h bs s)

-- the bytes of a code point one by one, and the code point at once
pub point_escaped : (n : ℕ) (bs s : List ℕ) → put_escaped (utf8 n bs) s ≡ rendered n (utf8 n (put_escaped bs s)) (put_escaped bs s)
unfolding put_escaped
point_escaped n bs s = go (ltb n 0x80) refl
  where
    go : (x : Bool) → ltb n 0x80 ≡ x → put_escaped (utf8 n bs) s ≡ rendered n (utf8 n (put_escaped bs s)) (put_escaped bs s)
    go true e = let h = ltb-true n 0x80 e in rw (utf8_1 n bs h, utf8_1 n (put_escaped bs s) h)
    go false e =
        let h = ltb-false n 0x80 e in
        ap (λ (t : List ℕ). put_escaped t s) (utf8_append n bs)
        ∙ escaped_high (utf8_high n h) bs s
        ∙ sym (utf8_append n (put_escaped bs s))
        ∙ sym (render_high n (utf8 n (put_escaped bs s)) (put_escaped bs s) h)

-- the piece, and what is after it
rendered-append : (n : ℕ) (i s : List ℕ) → rendered n (i ++ s) s ≡ rendered n i [] ++ s
rendered-append n i s = go (view n)
  where
    go : View n → rendered n (i ++ s) s ≡ rendered n i [] ++ s
    go (short c e) = rw (e, render_short (i ++ s) s c, render_short i [] c)
    go (control h f) = rw (render_control (i ++ s) s n h f, render_control i [] n h f)
    go (plain h f) = rw (render_plain (i ++ s) s n h f, render_plain i [] n h f)

pub byte_first : (b : ℕ) (bs s : List ℕ) → put_escaped (b ∷ bs) s ≡ byte_piece b ++ put_escaped bs s
unfolding put_escaped byte_piece
byte_first b bs s = rendered-append b (b ∷ []) (put_escaped bs s)

pub point_first : (n : ℕ) (bs s : List ℕ) → put_escaped (utf8 n bs) s ≡ point_piece n ++ put_escaped bs s
unfolding point_piece
point_first n bs s =
    point_escaped n bs s
    ∙ ap (λ (i : List ℕ). rendered n i (put_escaped bs s)) (utf8_append n (put_escaped bs s))
    ∙ rendered-append n (utf8 n []) (put_escaped bs s)

-- the piece of a byte below 80 is that of the code point, and from 80 on it is the byte
module _ (b : ℕ) where
  pub same_piece : b < 0x80 → byte_piece b ≡ point_piece b
  unfolding point_piece byte_piece
  same_piece h = rw (utf8_1 b [] h)

  pub high_piece : 0x80 ≤ b → byte_piece b ≡ b ∷ []
  unfolding byte_piece
  high_piece h = render_high b (b ∷ []) [] h

-- the escape of a control in three parts
pub control_parts :
    (n : ℕ) {d : ℕ} → d ≡ hex_lower_of (n % 16) → control_piece n ≡ (0x5C ∷ 0x75 ∷ 0x30 ∷ 0x30 ∷ []) ++ (((0x30 + n / 16) ∷ []) ++ (d ∷ []))
unfolding control_piece
control_parts n e = rw e

-- the piece of a code point by its letter
pub letter_piece : {n r : ℕ} → Letter n (Some r) → point_piece n ≡ 0x5C ∷ r ∷ []
unfolding point_piece
letter_piece {n} (named x e) = ap (λ (m : ℕ). rendered m (utf8 n []) []) e ∙ render_short (utf8 n []) [] x

module _ {n : ℕ} (l : Letter n None) where
  no_letter : NoShort n
  no_letter = go l
    where
      go : Letter n None → NoShort n
      go (nameless f) = f

  pub control_piece_lem : n < 0x20 → point_piece n ≡ control_piece n
  unfolding point_piece control_piece
  control_piece_lem h = render_control (utf8 n []) [] n h no_letter

  pub plain_piece : 0x20 ≤ n → point_piece n ≡ utf8 n []
  unfolding point_piece
  plain_piece h = render_plain (utf8 n []) [] n h no_letter

-- the piece of a code point and of a byte, each in its case
pub ruleset pieces = (letter_piece, control_piece_lem, plain_piece, same_piece, high_piece, utf8_four)
