-- What the compiled form of a query holds: its steps, as bits, and for each an operand, the name or the position that it takes
-- (document 01, "Marks, frames, the pile"). The names stand beside it, decoded, in UTF-8.
use Rattle.std.specs.Prelude.{◌≡◌, List, [], Bool, true, false, ℕ, ◌/◌, ◌%◌, ◌≤◌, length, get_or, replicate}
use Rattle.std.proofs.Math.Option.{Option, some, none}
use Rattle.std.proofs.Math.ListN.{get_elem?}
use Rattle.std.proofs.Math.Seq.{slice}
use Rattle.bits.specs.Bits.{bit}
use Rattle.encoding.specs.Points.{Utf8Of}
use Rattle.query_parser.specs.declared.compiled.Kinds.{Kinds}
use Rattle.query_parser.specs.declared.compiled.Compiled.{Compiled}
use Rattle.query.specs.Steps.{Selector, name, every, position, Step, is_deep}
use Rattle.query.specs.Verdict.{max_query_bytes, max_steps}

-- what a selector is: `*`, a name or a position; the name, and the position

abbrev pub is_every : Selector → Bool
is_every (name w) = false
is_every every = true
is_every (position j) = false

abbrev pub is_named : Selector → Bool
is_named (name w) = true
is_named every = false
is_named (position j) = false

abbrev pub is_positioned : Selector → Bool
is_positioned (name w) = false
is_positioned every = false
is_positioned (position j) = true

abbrev pub name_taken : Selector → List ℕ
name_taken (name w) = w
name_taken every = []
name_taken (position j) = []

abbrev pub position_taken : Selector → ℕ
position_taken (name w) = 0
position_taken every = 0
position_taken (position j) = j

-- the same of a step, if there is one; and the code points of its name

abbrev pub every_at : Option Step → Bool
every_at none = false
every_at (some x) = is_every x.selector

abbrev pub named_at : Option Step → Bool
named_at none = false
named_at (some x) = is_named x.selector

abbrev pub positioned_at : Option Step → Bool
positioned_at none = false
positioned_at (some x) = is_positioned x.selector

abbrev pub name_at : Option Step → List ℕ
name_at none = []
name_at (some x) = name_taken x.selector

abbrev pub position_at : Option Step → ℕ
position_at none = 0
position_at (some x) = position_taken x.selector

-- the operand of a step with a name is the bounds of its UTF-8 among the names as one number: the place of its first byte, and the place
-- after its last

abbrev pub name_start_of : ℕ → ℕ
name_start_of w = w / 65536

abbrev pub name_end_of : ℕ → ℕ
name_end_of w = w % 65536

-- there is room for the steps, and each name lies where a query can have one
pub record Fits (k : Kinds) (operands : List ℕ) : Type 0 where
  pub few : k.count ≤ max_steps
  pub operands_length : length operands ≡ max_steps
  pub order : (i : ℕ) → bit i k.named ≡ true → name_start_of (get_or operands i 0) ≤ name_end_of (get_or operands i 0)
  pub within : (i : ℕ) → bit i k.named ≡ true → name_end_of (get_or operands i 0) ≤ max_query_bytes

-- these are exactly the steps x; bit and operand i are those of the step number i, counted from 0
pub record Holds (names : List ℕ) (x : List Step) (k : Kinds) (operands : List ℕ) : Type 0 where
  pub fits : Fits k operands
  pub count : k.count ≡ length x
  pub deep : (i : ℕ) → bit i k.deep ≡ is_deep (get_elem? x i)
  pub every : (i : ℕ) → bit i k.every ≡ every_at (get_elem? x i)
  pub named : (i : ℕ) → bit i k.named ≡ named_at (get_elem? x i)
  pub positioned : (i : ℕ) → bit i k.positioned ≡ positioned_at (get_elem? x i)
  pub name : (i : ℕ) → bit i k.named ≡ true
      → Utf8Of (slice (name_start_of (get_or operands i 0)) (name_end_of (get_or operands i 0)) names) (name_at (get_elem? x i))
  pub position : (i : ℕ) → bit i k.positioned ≡ true → get_or operands i 0 ≡ position_at (get_elem? x i)

-- no steps: every number is 0
abbrev pub no_steps_of : Compiled
no_steps_of = record {
  kinds = record { count = 0; deep = 0; every = 0; named = 0; positioned = 0 };
  operands = replicate max_steps 0;
}
