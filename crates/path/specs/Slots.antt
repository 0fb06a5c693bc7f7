-- What the links of a descent are written as in a path, and which of them has half of a surrogate pair: functions of all bytes and numbers.
use Rattle.std.specs.Prelude.{◌≡◌, Bool, length}
use mathlib.Core.List.{List, [], ◌∷◌, ◌++◌}
use Rattle.std.proofs.Math.Bool.{true, false}
use Rattle.std.proofs.Math.Option.{Option, some, none}
use Prim.Native.Nat.{ℕ, ◌-◌, ◌≤◌}
use Rattle.std.proofs.Math.Seq.{slice}
use Rattle.encoding.specs.Unescape.{unescaped}
use Rattle.path_names.specs.Escaped.{put_escaped, half_escaped}
use Rattle.seek.specs.declared.keeper.KeptLink.{KeptLink}
use Rattle.seek.specs.declared.keeper.KeptLink.TheVariants.{Position, Name}
use Rattle.text.specs.Decimal.{decimal}

module _ (s : List ℕ) where
  -- a label in brackets: a position, or a name by its bounds in the record
  unfoldable pub slot_text : KeptLink → List ℕ
  unfolding put_escaped unescaped decimal
  slot_text (Position j) = 0x5B ∷ (decimal j ++ (0x5D ∷ []))
  slot_text (Name x y) = 0x5B ∷ 0x27 ∷ (put_escaped (unescaped (slice x y s)) [] ++ (0x27 ∷ 0x5D ∷ []))

  -- whether a name has half of a surrogate pair
  unfoldable pub slot_half : KeptLink → Bool
  unfolding half_escaped
  slot_half (Position j) = false
  slot_half (Name x y) = half_escaped (slice x y s)

  -- the opening quote of a name
  abbrev pub slot_quote : KeptLink → ℕ
  slot_quote (Position j) = 0
  slot_quote (Name x y) = x - 1

  -- a name's bounds lie in the record, behind its opening quote
  abbrev pub SlotWithin : KeptLink → Type 0
  SlotWithin (Position j) = Unit {0}
  SlotWithin (Name x y) = (1 ≤ x) × (x ≤ y) × (y ≤ length s)

  -- the labels of links, of which the last one is written first
  unfoldable pub slots_text : List KeptLink → List ℕ
  unfolding slot_text
  slots_text [] = []
  slots_text (k ∷ ks) = slots_text ks ++ slot_text k

  -- the opening quote of the first name with half of a pair
  unfoldable pub or_slot : Option ℕ → KeptLink → Option ℕ
  unfolding slot_half
  or_slot (some q) k = some q
  or_slot none k = elim (slot_half k) [ true ↦ some (slot_quote k) | false ↦ none ]

  unfoldable pub slots_half : List KeptLink → Option ℕ
  unfolding or_slot
  slots_half [] = none
  slots_half (k ∷ ks) = or_slot (slots_half ks) k

  -- the bounds of each name among them lie in the record
  abbrev pub SlotsWithin : List KeptLink → Type 0
  SlotsWithin [] = Unit {0}
  SlotsWithin (k ∷ ks) = SlotWithin k × SlotsWithin ks
