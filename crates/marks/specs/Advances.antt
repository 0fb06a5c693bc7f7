-- What the functions on marks promise (document 01, "Marks, frames, the pile").
use Rattle.std.specs.Prelude.{◌≡◌, ⊤, List, Bool, true, ◌&&◌, ℕ, ◌≤◌, ltb, eqb, get_or, length}
use Rattle.std.proofs.Math.ListN.{get_elem?}
use Rattle.std.proofs.Math.Seq.{slice}
use Rattle.bits.specs.Bits.{bit}
use Rattle.encoding.specs.Bytes.{same_numbers}
use Rattle.encoding.specs.Points.{Utf8Of}
use Rattle.encoding.specs.Unescape.{unescaped, Spells}
use Rattle.query_parser.specs.Holds.{Holds, name_start_of, name_end_of}
use Rattle.query.specs.Steps.{Step}
use Rattle.query.specs.Verdict.{max_query_bytes}
use Rattle.query_parser.specs.declared.compiled.Kinds.{Kinds}
use Rattle.marks.specs.declared.Child.{Child}
use Rattle.marks.specs.declared.Child.TheVariants.{Member, Escaped, Element}
use Rattle.select.specs.Nodes.{Label, member, element}
use Rattle.select.specs.MarksStep.{step_hits}
use Rattle.automaton.specs.State.{next_marks, next_picked}

-- each of these steps has a name's bounds as its operand
abbrev pub Named : (steps : ℕ) → (operands : List ℕ) → Type 0
Named m operands =
    (i : ℕ) → bit i m ≡ true
    → (name_start_of (get_or operands i 0) ≤ name_end_of (get_or operands i 0)) × (name_end_of (get_or operands i 0) ≤ max_query_bytes)

-- the name with this operand has these bytes in UTF-8
unfoldable pub is_name : (names : List ℕ) → (operand : ℕ) → (bytes : List ℕ) → Bool
unfolding same_numbers
is_name names w bytes = same_numbers (slice (name_start_of w) (name_end_of w) names) bytes

-- the name of step i has these bytes, and its position is this one

unfoldable pub name_is : (names operands bytes : List ℕ) → ℕ → Bool
unfolding is_name
name_is names operands bytes i = is_name names (get_or operands i 0) bytes

unfoldable pub position_is : (operands : List ℕ) → (position : ℕ) → ℕ → Bool
position_is operands j i = eqb (get_or operands i 0) j

-- the labels of a child: the code points whose UTF-8 its name's bytes are, those that they spell, or its position
abbrev pub IsChild : Child → Label → Type 0
IsChild (Member name) l = (points : List ℕ) × Utf8Of name.now points × (l ≡ member points)
IsChild (Escaped name) l = (points : List ℕ) × Spells name.now points × (l ≡ member points)
IsChild (Element j) l = l ≡ element j

-- whether step i takes the child, by its name or by its position
abbrev pub child_is : (names operands : List ℕ) → Child → ℕ → Bool
child_is names operands (Member name) i = name_is names operands name.now i
child_is names operands (Escaped name) i = name_is names operands (unescaped name.now) i
child_is names operands (Element j) i = position_is operands j i

-- the steps that take such a child by its name or its position
abbrev pub asked_of : Kinds → Child → ℕ
asked_of k (Member name) = k.named
asked_of k (Escaped name) = k.named
asked_of k (Element j) = k.positioned

-- what the steps with these marks compare such a child with is at hand: a name's bounds, within the names; a position always is
abbrev pub AtHand : (names operands : List ℕ) → Child → (marks : ℕ) → Type 0
AtHand names operands (Member name) m = (max_query_bytes ≤ length names) × Named m operands
AtHand names operands (Escaped name) m = (max_query_bytes ≤ length names) × Named m operands
AtHand names operands (Element j) m = ⊤

-- of the marks of so many steps, those of which f holds
abbrev pub Chosen : (count marks : ℕ) → (ℕ → Bool) → ℕ → Type 0
Chosen count m f r = (i : ℕ) → bit i r ≡ (ltb i count && (bit i m && f i))

-- the marks whose next step takes the child with this label
pub record Taken (names : List ℕ) (k : Kinds) (operands : List ℕ) (marks : ℕ) (l : Label) (r : ℕ) : Type 0 where
  pub taken : (x : List Step) → Holds names x k operands → (i : ℕ) → bit i r ≡ (bit i marks && step_hits (get_elem? x i) l)

-- a child's marks, and whether it is picked out, from its parent's marks and its label
pub record Advances (names : List ℕ) (k : Kinds) (operands : List ℕ) (marks : ℕ) (l : Label) (marks' : ℕ) (picked : Bool) : Type 0 where
  pub marks_are : (x : List Step) → Holds names x k operands → marks' ≡ next_marks x marks l
  pub picked_is : (x : List Step) → Holds names x k operands → picked ≡ next_picked x marks l
