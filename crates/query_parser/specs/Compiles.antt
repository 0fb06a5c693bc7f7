-- What one step is in the compiled form, and what is held of the steps while a query is read: each name stands decoded where it stands in
-- the query, so that it ends in the part that was read.
use Rattle.std.specs.Prelude.{◌≡◌, List, [], ◌∷◌, ◌++◌, Bool, true, false, ℕ, ◌≤◌, length, get_or}
use Rattle.std.proofs.Math.Seq.{slice}
use Rattle.bits.specs.Bits.{bit}
use Rattle.encoding.specs.Points.{Utf8Of}
use Rattle.names.specs.Names.{names_size}
use Rattle.query_parser.specs.declared.compiled.Compiled.{Compiled}
use Rattle.query.specs.Steps.{Step}
use Rattle.query.specs.Verdict.{max_query_bytes, decoded_step}
use Rattle.query_steps.specs.declared.Found.{Found}
use Rattle.query_steps.specs.declared.Taking.{Taking}
use Rattle.query_steps.specs.declared.Taking.TheVariants.{Every, Name, Position}
use Rattle.query_steps.specs.Reader.{placed_at, StepTaken}
use Rattle.query_parser.specs.Holds.{is_every, is_named, is_positioned, name_taken, position_taken, name_start_of, name_end_of, Holds}

-- whether it is `*`, a name or a position that was found

abbrev pub takes_every : Taking → Bool
takes_every Every = true
takes_every (Name a b) = false
takes_every (Position j) = false

abbrev pub takes_name : Taking → Bool
takes_name Every = false
takes_name (Name a b) = true
takes_name (Position j) = false

abbrev pub takes_position : Taking → Bool
takes_position Every = false
takes_position (Name a b) = false
takes_position (Position j) = true

-- the kind of what was found, and the operand; a name ends at m or before
pub record Compiles (names : List ℕ) (m : ℕ) (s : Step) (f : Found) (w : ℕ) : Type 0 where
  pub deep : f.deep ≡ s.deep
  pub every : takes_every f.taking ≡ is_every s.selector
  pub named : takes_name f.taking ≡ is_named s.selector
  pub positioned : takes_position f.taking ≡ is_positioned s.selector
  pub order : takes_name f.taking ≡ true → name_start_of w ≤ name_end_of w
  pub within : takes_name f.taking ≡ true → name_end_of w ≤ m
  pub name : takes_name f.taking ≡ true → Utf8Of (slice (name_start_of w) (name_end_of w) names) (name_taken s.selector)
  pub position : takes_position f.taking ≡ true → w ≡ position_taken s.selector

-- the steps x are held, and each of their names ends at n or before
pub record HeldTo (names : List ℕ) (n : ℕ) (x : List Step) (c : Compiled) : Type 0 where
  pub holds : Holds names x c.kinds c.operands
  pub ends : (i : ℕ) → bit i c.kinds.named ≡ true → name_end_of (get_or c.operands i 0) ≤ n

-- a name stands in the query, at places that the buffer of names has too
abbrev pub Stands : List ℕ → Taking → Type 0
Stands q Every = Unit {0}
Stands q (Name a b) = (a ≤ b) × (b ≤ length q) × (b ≤ names_size)
Stands q (Position j) = Unit {0}

-- of a step that is read from n up to m: the names that end at n or before stay as they are, and the step is compiled, its name decoded
pub record Decodes (q : List ℕ) (f : Found) (before after : List ℕ) (w : ℕ) : Type 0 where
  pub stays : {n m : ℕ} → StepTaken q n f m → (i j : ℕ) → j ≤ n → slice i j after ≡ slice i j before
  pub compiles : {n m : ℕ} → StepTaken q n f m → Compiles after m (decoded_step (placed_at q f).step) f w

-- one step more
pub record Adds (c : Compiled) (f : Found) (w : ℕ) (r : Compiled) : Type 0 where
  pub held : {names : List ℕ} {m : ℕ} {x : List Step} {s : Step} → m ≤ max_query_bytes → HeldTo names m x c → Compiles names m s f w
      → HeldTo names m (x ++ s ∷ []) r
