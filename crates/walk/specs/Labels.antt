-- The label of an item, by where the bytes of its name are and by its position. Assumes nothing.
use Rattle.std.specs.Prelude.{◌≡◌, refl, List, Bool, true, false, ℕ}
use Rattle.std.proofs.lemmas.Bool.{false≢true}
use Rattle.std.proofs.Common.{true≢false}
use Rattle.std.proofs.Math.Seq.{slice}
use denote.Bor.{Bor}
use Rattle.encoding.specs.Points.{Utf8Of}
use Rattle.encoding.specs.Unescape.{NoBackslash, Spells}
use Rattle.encoding.specs.UnescapeLaws.{spells_written}
use Rattle.json_text.specs.Grammar.{Key}
use Rattle.json_text.specs.Points.{points_of}
use Rattle.json_text.specs.PointsLaws.{chars_spell}
use Rattle.select.specs.Nodes.{Label, member, element, label_of}
use Rattle.query_parser.specs.declared.compiled.Kinds.{Kinds}
use Rattle.marks.specs.Advances.{IsChild, Taken}
use Rattle.marks.specs.declared.Child.{Child}
use Rattle.marks.specs.declared.Child.TheVariants.{Member, Escaped, Element}
use Rattle.scan.specs.Scans.{kind_if, NameAt}

-- the label of an item of an object whose name these bytes spell, or of the item of an array at this position
pub data LabelBy (written : List ℕ) (j : ℕ) : (is_object : Bool) → Label → Type 0 where
  by_name : {points : List ℕ} → Spells written points → LabelBy written j true (member points)
  by_position : LabelBy written j false (element j)

-- such a label is one of the child that a step is asked for: by the name's bytes, with escapes or without, or by the position
module _ {written : List ℕ} {j : ℕ} {child : Child} where
  pub of_escaped : {o : Bool} {l : Label} {name : Bor (List ℕ)} → o ≡ true → child ≡ Escaped name → name.now ≡ written → LabelBy written j o l
      → IsChild child l
  of_escaped e g f (by_name {points} spells) = rw g (points, rw f spells, refl)
  of_escaped e g f by_position = absurd (false≢true e)

  pub of_member : {o : Bool} {l : Label} {name : Bor (List ℕ)} → o ≡ true → child ≡ Member name → name.now ≡ written → NoBackslash written
      → LabelBy written j o l → IsChild child l
  of_member e g f bare (by_name {points} spells) = rw g (points, rw f (spells_written bare spells), refl)
  of_member e g f bare by_position = absurd (false≢true e)

  pub of_array : {o : Bool} {l : Label} → o ≡ false → child ≡ Element j → LabelBy written j o l → IsChild child l
  of_array e g (by_name spells) = absurd (true≢false e)
  of_array e g by_position = rw g refl

-- what takes a member by its name, written with escapes or without, or an element by its position, takes the item
module _ {names : List ℕ} {k : Kinds} {operands : List ℕ} {m hits hits' : ℕ} (written : List ℕ) (j : ℕ) where
  pub taken_escaped : {o : Bool} → o ≡ true → hits' ≡ hits
      → ((points : List ℕ) → Spells written points → Taken names k operands m (member points) hits)
      → (l : Label) → LabelBy written j o l → Taken names k operands m l hits'
  taken_escaped e f h l (by_name {points} spells) = rw f (h points spells)
  taken_escaped e f h l by_position = absurd (false≢true e)

  pub taken_member : {o : Bool} → o ≡ true → NoBackslash written → hits' ≡ hits
      → ((points : List ℕ) → Utf8Of written points → Taken names k operands m (member points) hits)
      → (l : Label) → LabelBy written j o l → Taken names k operands m l hits'
  taken_member e bare f h l (by_name {points} spells) = rw f (h points (spells_written bare spells))
  taken_member e bare f h l by_position = absurd (false≢true e)

  pub taken_array : {o : Bool} {i : ℕ} → o ≡ false → i ≡ j → hits' ≡ hits → Taken names k operands m (element i) hits
      → (l : Label) → LabelBy written j o l → Taken names k operands m l hits'
  taken_array e g f h l (by_name spells) = absurd (true≢false e)
  taken_array e g f h l by_position = rw (f, ← g) h

-- in an object or an array, the item at position j, its name from x to y
pub label_is : (s : List ℕ) (o : Bool) (key : Key (kind_if o)) (j x y : ℕ) → NameAt (kind_if o) key s x y
    → LabelBy (slice x y s) j o (label_of (kind_if o) key j)
unfolding label_of
label_is s true key j x y h = by_name {points = points_of key.chars} (rw h (chars_spell key.chars))
label_is s false key j x y h = by_position
