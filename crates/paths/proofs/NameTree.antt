-- A character of a normalized name is written as its code point is rendered, and every code point that is no half of a surrogate pair is that
-- of a character: so for names. By the ranges of the grammar, none of which has a code point with a letter of its own. Assumes nothing.
use Rattle.std.specs.Prelude.{◌≡◌, refl, ◌⊎◌, List, [], ◌∷◌, map, Bool, true, false, ◌||◌, ℕ, ◌+◌, ◌-◌, ◌/◌, ◌%◌, ◌<◌, ◌≤◌, ltb}
use Rattle.std.proofs.Common.{sym, ap, ap₂, ◌∙◌, inl, inr, arith, lt-ltb, le-ltb, ltb-true, ltb-false}
use Rattle.bits.specs.Truth.{or_is}
use Rattle.encoding.specs.Bytes.{In}
use Rattle.encoding.specs.BytesLaws.{make, from_low, to_high}
use Rattle.encoding.specs.Points.{point_of, utf8}
use Rattle.encoding.specs.PointsLaws.{Scalar, small_scalar, wide_scalar, wide_written, utf8_1}
use Rattle.paths.specs.Normalized.{Escapable, backspace, form, line, carriage, tabulator, apostrophe, backslash, escapable_point}
use Rattle.paths.specs.Normalized.{LowerHex, digit, letter, lower_hex_byte, lower_hex_digit, Control, up_to_7, b, e_to_f, from_10}
use Rattle.paths.specs.Normalized.{control_point, Char, low, mid, high, wide, escaped, control, put_char, put_chars, char_point}
use Rattle.paths.specs.Rendered.{hex_lower_of, rendered, put_name}
use Rattle.paths.specs.RenderedLaws.{NoShort, View, short, plain, view, render_short, render_control, render_plain, render_high}
use Rattle.paths.specs.RenderedLaws as R
use Rattle.paths.specs.Whole.{Whole, none, more}
use Rattle.paths.specs.WideTree.{wide_high, wide_of}

-- m is not from lo to hi
abbrev Outside : (lo hi m : ℕ) → Type 0
Outside lo hi m = (ltb m lo || ltb hi m) ≡ true

outside : {lo hi m n : ℕ} → Outside lo hi m → lo ≤ n → n ≤ hi → n ≡ m → ⊥
outside {lo} {hi} {m} {n} o l h e = go ((or_is (ltb m lo) (ltb hi m)).0 o)
  where
    go : (ltb m lo ≡ true) ⊎ (ltb hi m ≡ true) → ⊥
    go (inl x) = omega (arith, ltb-true m lo x)
    go (inr x) = omega (arith, ltb-true hi m x)

-- no code point from lo to hi has a letter of its own
abbrev Clear : (lo hi : ℕ) → Type 0
Clear lo hi =
    Outside lo hi 0x08 × Outside lo hi 0x09 × Outside lo hi 0x0A × Outside lo hi 0x0C × Outside lo hi 0x0D × Outside lo hi 0x27 ×
    Outside lo hi 0x5C

clear : {lo hi n : ℕ} → Clear lo hi → lo ≤ n → n ≤ hi → NoShort n
clear o l h backspace = outside o.0 l h
clear o l h tabulator = outside o.1 l h
clear o l h line = outside o.2 l h
clear o l h form = outside o.3 l h
clear o l h carriage = outside o.4 l h
clear o l h apostrophe = outside o.5 l h
clear o l h backslash = outside o.6 l h

-- a character is written as its code point is rendered
abbrev Written : Char → Type 0
Written c = (s : List ℕ) → put_char c s ≡ rendered (char_point c) (utf8 (char_point c) s) s

plain_written :
    {lo hi : ℕ} → Clear lo hi → 0x20 ≤ lo → hi < 0x80 → (x : In lo hi) (s : List ℕ) →
    x.byte ∷ s ≡ rendered x.byte (utf8 x.byte s) s
plain_written o l h x s =
    sym
    (render_plain (utf8 x.byte s) s x.byte (omega (arith, from_low x)) (clear o (from_low x) (to_high x)) ∙
    utf8_1 x.byte s (omega (arith, to_high x)))

-- hexadecimal digits

lower_digit : (d : ℕ) → d < 10 → hex_lower_of d ≡ 0x30 + d
unfolding hex_lower_of
lower_digit d h = rw (lt-ltb d 10 h)

lower_letter : (d : ℕ) → 10 ≤ d → hex_lower_of d ≡ 0x57 + d
unfolding hex_lower_of
lower_letter d h = rw (le-ltb d 10 h)

hex_written : (x : LowerHex) → (lower_hex_digit x < 16) × (hex_lower_of (lower_hex_digit x) ≡ lower_hex_byte x)
hex_written (digit x) =
    let h = to_high x in let l = from_low x in (omega arith, lower_digit (x.byte - 0x30) (omega arith) ∙ omega arith)
hex_written (letter x) =
    let h = to_high x in let l = from_low x in (omega arith, lower_letter (x.byte - 0x57) (omega arith) ∙ omega arith)

hex_of : (d : ℕ) → d < 16 → (x : LowerHex) × (lower_hex_digit x ≡ d)
unfolding make
hex_of d h = go (ltb d 10) refl
  where
    go : (y : Bool) → ltb d 10 ≡ y → (x : LowerHex) × (lower_hex_digit x ≡ d)
    go true e = let k = ltb-true d 10 e in (digit (make (0x30 + d) (omega arith) (omega arith)), omega arith)
    go false e = let k = ltb-false d 10 e in (letter (make (0x57 + d) (omega arith) (omega arith)), omega arith)

-- controls

-- the digits of n are x and y
abbrev Digits : (n x y : ℕ) → Type 0
Digits n x y = (0x30 + n / 16 ≡ x) × (hex_lower_of (n % 16) ≡ y)

digits_written : {lo hi : ℕ} → Clear lo hi → hi < 0x20 → (n : ℕ) → lo ≤ n → n ≤ hi → {x y : ℕ} → Digits n x y → (i s : List ℕ) →
    0x5C ∷ 0x75 ∷ 0x30 ∷ 0x30 ∷ x ∷ y ∷ s ≡ rendered n i s
digits_written o u n l h (e, f) i s = sym (render_control i s n (omega arith) (clear o l h) ∙ rw (e, f))

control_written : (x : Control) → Written (control x)
unfolding put_char char_point
control_written (up_to_7 x) s =
    let l = from_low x in let h = to_high x in let n = x.byte - 0x30 in
    let r : n % 16 ≡ n = omega arith in
    let d : Digits n 0x30 x.byte = (omega arith, ap hex_lower_of r ∙ lower_digit n (omega arith) ∙ omega arith) in
    digits_written {lo = 0x00} {hi = 0x07} (refl, refl, refl, refl, refl, refl, refl) (omega arith) n (omega arith) (omega arith) d (utf8 n s) s
control_written b s =
    digits_written {lo = 0x0B} {hi = 0x0B} (refl, refl, refl, refl, refl, refl, refl) (omega arith) 0x0B (omega arith) (omega arith)
    (refl, lower_letter 0x0B (omega arith)) (utf8 0x0B s) s
control_written (e_to_f x) s =
    let l = from_low x in let h = to_high x in let n = x.byte - 0x57 in
    let r : n % 16 ≡ n = omega arith in
    let d : Digits n 0x30 x.byte = (omega arith, ap hex_lower_of r ∙ lower_letter n (omega arith) ∙ omega arith) in
    digits_written {lo = 0x0E} {hi = 0x0F} (refl, refl, refl, refl, refl, refl, refl) (omega arith) n (omega arith) (omega arith) d (utf8 n s) s
control_written (from_10 x) s =
    let (h, e) = hex_written x in let n = 0x10 + lower_hex_digit x in
    let r : n % 16 ≡ lower_hex_digit x = omega arith in
    let d : Digits n 0x31 (lower_hex_byte x) = (omega arith, ap hex_lower_of r ∙ e) in
    digits_written {lo = 0x10} {hi = 0x1F} (refl, refl, refl, refl, refl, refl, refl) (omega arith) n (omega arith) (omega arith) d (utf8 n s) s

control_small : (x : Control) → control_point x < 0x20
unfolding control_point
control_small (up_to_7 x) = omega (arith, to_high x)
control_small b = omega arith
control_small (e_to_f x) = omega (arith, to_high x)
control_small (from_10 x) = omega (arith, (hex_written x).0)

abbrev ControlOf : ℕ → Type 0
ControlOf n = (x : Control) × (control_point x ≡ n)

control_of : (n : ℕ) → n < 0x20 → NoShort n → ControlOf n
unfolding control_point make
control_of n h f = go (ltb n 0x08) refl (ltb n 0x0E) refl (ltb n 0x10) refl
  where
    go : (x : Bool) → ltb n 0x08 ≡ x → (y : Bool) → ltb n 0x0E ≡ y → (z : Bool) → ltb n 0x10 ≡ z → ControlOf n
    go true e y e' z g = let k = ltb-true n 0x08 e in (up_to_7 (make (0x30 + n) (omega arith) (omega arith)), omega arith)
    go false e true e' z g =
        (b, omega (arith, ltb-false n 0x08 e, ltb-true n 0x0E e', f backspace, f tabulator, f line, f form, f carriage))
    go false e false e' true g =
        let l = ltb-false n 0x0E e' in let k = ltb-true n 0x10 g in
        (e_to_f (make (0x57 + n) (omega arith) (omega arith)), omega arith)
    go false e false e' false g =
        let l = ltb-false n 0x10 g in
        let (x, d) = hex_of (n - 0x10) (omega arith) in
        (from_10 x, omega arith)

-- characters

char_written : (c : Char) → Written c
unfolding put_char char_point
char_written (low x) s = plain_written (refl, refl, refl, refl, refl, refl, refl) (omega arith) (omega arith) x s
char_written (mid x) s = plain_written (refl, refl, refl, refl, refl, refl, refl) (omega arith) (omega arith) x s
char_written (high x) s = plain_written (refl, refl, refl, refl, refl, refl, refl) (omega arith) (omega arith) x s
char_written (wide p) s = wide_written p s ∙ sym (render_high (point_of p) (utf8 (point_of p) s) s (wide_high p))
char_written (escaped x) s = sym (render_short (utf8 (escapable_point x) s) s x)
char_written (control x) s = control_written x s

char_scalar : (c : Char) → Scalar (char_point c)
unfolding char_point
char_scalar (low x) = small_scalar x.byte (omega (arith, to_high x))
char_scalar (mid x) = small_scalar x.byte (omega (arith, to_high x))
char_scalar (high x) = small_scalar x.byte (omega (arith, to_high x))
char_scalar (wide p) = wide_scalar p
char_scalar (escaped x) = small_scalar (escapable_point x) (escapable_small x)
  where
    escapable_small : (x : Escapable) → escapable_point x < 0x80
    escapable_small backspace = omega arith
    escapable_small form = omega arith
    escapable_small line = omega arith
    escapable_small carriage = omega arith
    escapable_small tabulator = omega arith
    escapable_small apostrophe = omega arith
    escapable_small backslash = omega arith
char_scalar (control x) = small_scalar (control_point x) (omega (arith, control_small x))

abbrev CharOf : ℕ → Type 0
CharOf n = (c : Char) × (char_point c ≡ n)

plain_of : (n : ℕ) → 0x20 ≤ n → NoShort n → Scalar n → CharOf n
unfolding char_point make
plain_of n l f c = go (ltb n 0x80) refl (ltb n 0x27) refl (ltb n 0x5C) refl
  where
    go : (x : Bool) → ltb n 0x80 ≡ x → (y : Bool) → ltb n 0x27 ≡ y → (z : Bool) → ltb n 0x5C ≡ z → CharOf n
    go true e true e' z g = let k = ltb-true n 0x27 e' in (low (make n l (omega arith)), refl)
    go true e false e' true g =
        let k = ltb-false n 0x27 e' in let h = ltb-true n 0x5C g in
        (mid (make n (omega (arith, f apostrophe)) (omega arith)), refl)
    go true e false e' false g =
        let k = ltb-false n 0x5C g in let h = ltb-true n 0x80 e in
        (high (make n (omega (arith, f backslash)) (omega arith)), refl)
    go false e y e' z g = let (p, q) = wide_of n (ltb-false n 0x80 e) c in (wide p, q)

char_of : (n : ℕ) → Scalar n → CharOf n
unfolding char_point
char_of n c = go (view n)
  where
    go : View n → CharOf n
    go (short x e) = (escaped x, sym e)
    go (R.control h f) = let (x, e) = control_of n h f in (control x, e)
    go (plain h f) = plain_of n h f c

-- names

pub name_written : (cs : List Char) (s : List ℕ) → put_chars cs s ≡ put_name (map char_point cs) s
unfolding put_chars put_name
name_written [] s = refl
name_written (c ∷ cs) s = rw (name_written cs s) (char_written c (put_name (map char_point cs) s))

pub name_whole : (cs : List Char) → Whole (map char_point cs)
name_whole [] = none
name_whole (c ∷ cs) = more (char_scalar c) (name_whole cs)

pub name_of : {ns : List ℕ} → Whole ns → (cs : List Char) × (map char_point cs ≡ ns)
name_of none = ([], refl)
name_of (more {n} c w) =
    let (x, e) = char_of n c in let (xs, es) = name_of w in
    (x ∷ xs, ap₂ (λ (m : ℕ) (ms : List ℕ). m ∷ ms) e es)
