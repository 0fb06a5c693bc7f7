-- What is known of a path before it is written: of the label of one link, and of all of them.
use Rattle.std.specs.Prelude.{◌≡◌, List, ◌∷◌, ℕ, ◌+◌, ◌*◌, ◌≤◌, false, true, Result, Ok, Err, length}
use Rattle.std.proofs.Math.Option.{Option, some, none}
use Rattle.encoding.specs.declared.refusals.Ground.TheVariants.{HalfName}
use Rattle.encoding.specs.declared.refusals.Refusal.{Refusal}
use Rattle.encoding.specs.Refusals.{refusing}
use Rattle.json_text.specs.Verdict.{max_bytes}
use Rattle.seek.specs.declared.keeper.KeptLink.{KeptLink}
use Rattle.path.specs.Slots.{slot_text, slot_half, slot_quote, slots_text, slots_half}

-- no label has more bytes: in a name each byte is written as at most six, and a position has at most ten digits
abbrev pub max_label : ℕ
max_label = 6 * max_bytes + 12

-- the size of a label; or a refusal of a name with half of a surrogate pair, by its opening quote
pub record LabelSized (s : List ℕ) (k : KeptLink) (size : ℕ) : Type 0 where
  pub half_is : slot_half s k ≡ false
  pub size_is : size ≡ length (slot_text s k)
  pub small : size ≤ max_label

pub record LabelRefused (s : List ℕ) (k : KeptLink) (e : Refusal) : Type 0 where
  pub half_is : slot_half s k ≡ true
  pub is : e ≡ refusing HalfName (slot_quote s k)

abbrev pub MeasuresLabel : (s : List ℕ) → KeptLink → Result ℕ Refusal → Type 0
MeasuresLabel s k (Ok size) = LabelSized s k size
MeasuresLabel s k (Err e) = LabelRefused s k e

-- the path, with the `$` before its labels
abbrev pub path_from : (s : List ℕ) → List KeptLink → List ℕ
path_from s ks = 0x24 ∷ slots_text s ks

-- the size of the path, where no name has half of a surrogate pair; or a refusal of the first such name, by its opening quote
pub record PathSized (s : List ℕ) (ks : List KeptLink) (size : ℕ) : Type 0 where
  pub whole : slots_half s ks ≡ none
  pub sized : size ≡ length (path_from s ks)

pub record PathRefused (s : List ℕ) (ks : List KeptLink) (e : Refusal) : Type 0 where
  pub place : ℕ
  pub half_at : slots_half s ks ≡ some place
  pub is : e ≡ refusing HalfName place

abbrev pub Measures : (s : List ℕ) → List KeptLink → Result ℕ Refusal → Type 0
Measures s ks (Ok size) = PathSized s ks size
Measures s ks (Err e) = PathRefused s ks e
