-- The label of a link, measured and written: a position is its digits in brackets, and a name is what it is escaped as in quotes and brackets.
-- Assumes nothing.
use mathlib.Core.Path.{◌≡◌, refl, ap, sym, ◌∙◌}
use mathlib.Core.List.{List, [], ◌∷◌, ◌++◌}
use mathlib.Core.Bool.{true, false}
use Prim.Native.Nat.{ℕ, ◌+◌, ◌-◌, ◌*◌, ◌^◌, ◌≤◌, ◌<◌}
use native.Mathlib.Omega.{arith}
use lib.ListN.{length, length-append}
use lib.Seq.{slice}
use Rattle.encoding.specs.Unescape.{unescaped}
use Rattle.encoding.specs.declared.refusals.Ground.TheVariants.{HalfName}
use Rattle.encoding.specs.Refusals.{refusing}
use Rattle.json_text.specs.Verdict.{max_bytes}
use Rattle.text.specs.Decimal.{decimal}
use Rattle.text.specs.DecimalLaws.{decimal_word}
use Rattle.text.specs.Put.{Room, Written}
use Rattle.text.specs.PutLaws.{room_first, room_after, written_both, first_fits, second_fits, third_fits, three_written}
use Rattle.path_names.specs.Escaped.{put_escaped, half_escaped}
use Rattle.seek.specs.declared.keeper.KeptLink.TheVariants.{Position, Name}
use Rattle.path.specs.Measured.{LabelSized, LabelRefused}
use Rattle.path.specs.Slots.{slot_text, slot_half}

-- a position
module _ (s : List ℕ) (j : ℕ) where
  abbrev digits : List ℕ
  digits = decimal j ++ (0x5D ∷ [])

  position_parts : slot_text s (Position j) ≡ (0x5B ∷ []) ++ digits
  unfolding slot_text
  position_parts = refl

  pub position_measured : {n : ℕ} → j < 2 ^ 32 → n ≡ length (decimal j) → LabelSized s (Position j) (n + 2)
  unfolding slot_half
  position_measured {n} h d =
      record {
        half_is = refl;
        size_is = omega (arith, ap length position_parts, length-append (decimal j) (0x5D ∷ []));
        small = omega (arith, decimal_word j h);
      }

  module _ {at : ℕ} {b : List ℕ} (room : Room (slot_text s (Position j)) at b) where
    parts_fit : Room ((0x5B ∷ []) ++ digits) at b
    parts_fit = rw position_parts at room

    pub bracket_fits : Room (0x5B ∷ []) at b
    bracket_fits = room_first (0x5B ∷ []) digits at b parts_fit

    module _ {m : List ℕ} {i : ℕ} (one : Written (0x5B ∷ []) at b m i) where
      pub digits_fit : Room digits i m
      digits_fit = room_after digits one parts_fit

      pub position_written : {a : List ℕ} {k : ℕ} → Written digits i m a k → Written (slot_text s (Position j)) at b a k
      position_written two = rw position_parts (written_both one two parts_fit)

-- a name
module _ (s : List ℕ) (x y : ℕ) where
  abbrev escaped : List ℕ
  escaped = put_escaped (unescaped (slice x y s)) []

  name_parts : slot_text s (Name x y) ≡ (0x5B ∷ 0x27 ∷ []) ++ (escaped ++ (0x27 ∷ 0x5D ∷ []))
  unfolding slot_text
  name_parts = refl

  pub name_measured : {n : ℕ} → false ≡ half_escaped (slice x y s) → n ≡ length escaped → n ≤ 6 * max_bytes → LabelSized s (Name x y) (n + 4)
  unfolding slot_half
  name_measured {n} h d l =
      record {
        half_is = sym h;
        size_is = omega (arith, ap length name_parts, length-append escaped (0x27 ∷ 0x5D ∷ []));
        small = omega arith;
      }

  pub name_refused : true ≡ half_escaped (slice x y s) → LabelRefused s (Name x y) (refusing HalfName (x - 1))
  unfolding slot_half
  name_refused h = record { half_is = sym h; is = refl }

  module _ {at : ℕ} {b : List ℕ} (room : Room (slot_text s (Name x y)) at b) where
    pub opening_fits : Room (0x5B ∷ 0x27 ∷ []) at b
    opening_fits = first_fits (0x5B ∷ 0x27 ∷ []) escaped (0x27 ∷ 0x5D ∷ []) name_parts room

    module _ {m : List ℕ} {i : ℕ} (one : Written (0x5B ∷ 0x27 ∷ []) at b m i) where
      pub name_fits : Room escaped i m
      name_fits = second_fits (0x5B ∷ 0x27 ∷ []) escaped (0x27 ∷ 0x5D ∷ []) name_parts room one

      module _ {n : List ℕ} {j : ℕ} (two : Written escaped i m n j) where
        pub closing_fits : Room (0x27 ∷ 0x5D ∷ []) j n
        closing_fits = third_fits (0x5B ∷ 0x27 ∷ []) escaped (0x27 ∷ 0x5D ∷ []) name_parts room one two

        pub name_written : {a : List ℕ} {k : ℕ} → Written (0x27 ∷ 0x5D ∷ []) j n a k → Written (slot_text s (Name x y)) at b a k
        name_written = three_written (0x5B ∷ 0x27 ∷ []) escaped (0x27 ∷ 0x5D ∷ []) name_parts room one two
