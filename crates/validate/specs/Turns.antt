-- What one turn of the check does to the verdict: it reads what is due, up to what is due next.
use Rattle.std.specs.Prelude.{◌≡◌, List, false, ℕ, ◌≤◌, ◌<◌, length, get_or, Result, Ok, Err}
use Rattle.encoding.specs.Verdict.{Verdict}
use Rattle.encoding.specs.Refusals.{refused}
use Rattle.encoding.specs.declared.refusals.Refusal.{Refusal}
use Rattle.swar.specs.Kinds.{blank}
use Rattle.json_text.specs.Grammar.{object}
use Rattle.json_text.specs.Machine.{Ctl, item, after, value_due, Stack}
use Rattle.json_text.specs.CheckLaws.{here}
use Rattle.validate.specs.declared.nest.Kind.{Kind}
use Rattle.validate.specs.declared.turns.Due.{Due}
use Rattle.validate.specs.declared.turns.Due.TheVariants.{Value, Name, After}
use Rattle.validate.specs.declared.turns.Turn.{Turn}
use Rattle.validate.specs.Nesting.{kind_of, room_in}

abbrev pub due_of : Due → Ctl
due_of Value = value_due
due_of Name = item object false
due_of After = after

-- what is due as an item of a container
abbrev pub ItemDue : Kind → Due → Type 0
ItemDue x due = due_of due ≡ item (kind_of x) false

-- the verdict from place i on, in these containers
unfoldable pub standing : List ℕ → Due → Stack → ℕ → Verdict
standing s due k i = here s (due_of due) k (room_in k) i

-- where a turn may begin: at a byte that is no blank
pub record Ready (s : List ℕ) (i : ℕ) : Type 0 where
  pub inside : i < length s
  pub solid : blank (get_or s i 0) ≡ false

-- what a turn from place i on comes to, v being the verdict from there on: the same from a later place on, in the containers there
pub record Taken (v : Verdict) (s : List ℕ) (i : ℕ) (k : Stack) (turn : Turn) : Type 0 where
  pub forward : i < turn.at
  pub within : turn.at ≤ length s
  pub same : v ≡ standing s turn.due k turn.at

-- or a refusal
pub record Refused (v : Verdict) (s : List ℕ) (r : Refusal) : Type 0 where
  pub within : r.place ≤ length s
  pub same : v ≡ refused r

abbrev pub Turned : Verdict → List ℕ → ℕ → Stack → Result Turn Refusal → Type 0
Turned v s i k (Ok turn) = Taken v s i k turn
Turned v s i k (Err r) = Refused v s r
