-- How one code point is rendered between single quotes: by its letter, as a control by its digits, or as it stands. By the tests of `rendered`,
-- one after the other. Assumes nothing.
use Rattle.std.specs.Prelude.{◌≡◌, List, ◌∷◌, Bool, true, false, ℕ, ◌+◌, ◌/◌, ◌%◌, ◌<◌, ◌≤◌, eqb, ltb}
use Rattle.std.proofs.Math.Path.{refl}
use Rattle.std.proofs.Common.{arith}
use borrow.Author.Tests.{eqb-true, eqb-false, ne_eqb, lt-ltb, le-ltb, ltb-true, ltb-false}
use Rattle.paths.specs.Normalized.{Escapable, backspace, form, line, carriage, tabulator, apostrophe, backslash, escapable_point, escapable_byte}
use Rattle.paths.specs.Rendered.{hex_lower_of, rendered}

-- n has no letter of its own
abbrev pub NoShort : ℕ → Type 0
NoShort n = (c : Escapable) → n ≡ escapable_point c → ⊥

-- the three ways to render n
pub data View (n : ℕ) : Type 0 where
  short : (c : Escapable) → n ≡ escapable_point c → View n
  control : n < 0x20 → NoShort n → View n
  plain : 0x20 ≤ n → NoShort n → View n

pub view : (n : ℕ) → View n
view n =
    go (eqb n 0x08) refl (eqb n 0x09) refl (eqb n 0x0A) refl (eqb n 0x0C) refl (eqb n 0x0D) refl (eqb n 0x27) refl (eqb n 0x5C) refl
    (ltb n 0x20) refl
  where
    none :
        eqb n 0x08 ≡ false → eqb n 0x09 ≡ false → eqb n 0x0A ≡ false → eqb n 0x0C ≡ false → eqb n 0x0D ≡ false → eqb n 0x27 ≡ false →
        eqb n 0x5C ≡ false → NoShort n
    none e f g h i j k backspace = eqb-false n 0x08 e
    none e f g h i j k tabulator = eqb-false n 0x09 f
    none e f g h i j k line = eqb-false n 0x0A g
    none e f g h i j k form = eqb-false n 0x0C h
    none e f g h i j k carriage = eqb-false n 0x0D i
    none e f g h i j k apostrophe = eqb-false n 0x27 j
    none e f g h i j k backslash = eqb-false n 0x5C k

    go :
        (a : Bool) → eqb n 0x08 ≡ a → (b : Bool) → eqb n 0x09 ≡ b → (c : Bool) → eqb n 0x0A ≡ c → (d : Bool) → eqb n 0x0C ≡ d →
        (p : Bool) → eqb n 0x0D ≡ p → (q : Bool) → eqb n 0x27 ≡ q → (r : Bool) → eqb n 0x5C ≡ r → (t : Bool) → ltb n 0x20 ≡ t → View n
    go true e b f c g d h p i q j r k t l = short backspace (eqb-true n 0x08 e)
    go false e true f c g d h p i q j r k t l = short tabulator (eqb-true n 0x09 f)
    go false e false f true g d h p i q j r k t l = short line (eqb-true n 0x0A g)
    go false e false f false g true h p i q j r k t l = short form (eqb-true n 0x0C h)
    go false e false f false g false h true i q j r k t l = short carriage (eqb-true n 0x0D i)
    go false e false f false g false h false i true j r k t l = short apostrophe (eqb-true n 0x27 j)
    go false e false f false g false h false i false j true k t l = short backslash (eqb-true n 0x5C k)
    go false e false f false g false h false i false j false k true l = control (ltb-true n 0x20 l) (none e f g h i j k)
    go false e false f false g false h false i false j false k false l = plain (ltb-false n 0x20 l) (none e f g h i j k)

-- and what it is then rendered as: i is n as it stands, and s is what is after it
module _ (i s : List ℕ) where
  pub render_short : (c : Escapable) → rendered (escapable_point c) i s ≡ 0x5C ∷ escapable_byte c ∷ s
  unfolding rendered
  render_short backspace = refl
  render_short form = refl
  render_short line = refl
  render_short carriage = refl
  render_short tabulator = refl
  render_short apostrophe = refl
  render_short backslash = refl

  pub render_control :
      (n : ℕ) → n < 0x20 → NoShort n → rendered n i s ≡ 0x5C ∷ 0x75 ∷ 0x30 ∷ 0x30 ∷ (0x30 + n / 16) ∷ hex_lower_of (n % 16) ∷ s
  unfolding rendered
  render_control n h f =
      rw (
        ne_eqb n 0x08 (f backspace),
        ne_eqb n 0x09 (f tabulator),
        ne_eqb n 0x0A (f line),
        ne_eqb n 0x0C (f form),
        ne_eqb n 0x0D (f carriage),
        ne_eqb n 0x27 (f apostrophe),
        ne_eqb n 0x5C (f backslash),
        lt-ltb n 0x20 h,
      )

  pub render_plain : (n : ℕ) → 0x20 ≤ n → NoShort n → rendered n i s ≡ i
  unfolding rendered
  render_plain n h f =
      rw (
        ne_eqb n 0x08 (f backspace),
        ne_eqb n 0x09 (f tabulator),
        ne_eqb n 0x0A (f line),
        ne_eqb n 0x0C (f form),
        ne_eqb n 0x0D (f carriage),
        ne_eqb n 0x27 (f apostrophe),
        ne_eqb n 0x5C (f backslash),
        le-ltb n 0x20 h,
      )

-- past the backslash nothing has a letter
pub no_short : (n : ℕ) → 0x5D ≤ n → NoShort n
no_short n h backspace e = omega arith
no_short n h form e = omega arith
no_short n h line e = omega arith
no_short n h carriage e = omega arith
no_short n h tabulator e = omega arith
no_short n h apostrophe e = omega arith
no_short n h backslash e = omega arith

-- from 80 on all stands as it is
pub render_high : (n : ℕ) (i s : List ℕ) → 0x80 ≤ n → rendered n i s ≡ i
render_high n i s h = render_plain i s n (omega arith) (no_short n (omega arith))
