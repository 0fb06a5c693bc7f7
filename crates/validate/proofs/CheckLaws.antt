-- How the turns of the check come to its verdict. Assumes nothing.
use Rattle.std.specs.Prelude.{◌≡◌, refl, List, [], Bool, true, false, ℕ, ◌≤◌, ◌<◌, length, get_or, ◌&&◌}
use Rattle.std.proofs.Common.{◌∙◌, arith, le-leb}
use Rattle.std.proofs.lemmas.Bool.{lt-leb}
use Rattle.encoding.specs.Verdict.{Verdict, taken, refused}
use Rattle.swar.specs.Kinds.{blank}
use Rattle.swar.specs.Run.{Run}
use Rattle.json_text.specs.Grammar.{array, object}
use Rattle.json_text.specs.Machine.{Stack, final, is_empty}
use Rattle.json_text.specs.Check.{ended}
use Rattle.json_text.specs.CheckLaws.{here, end_at}
use Rattle.json_text.specs.Led.{outcome, led_here}
use Rattle.json_text.specs.Verdict.{max_bytes, text_verdict, record_verdict}
use Rattle.scalars.specs.Blanks.{Loose, at_item, at_after, led_blanks}
use Rattle.validate.specs.declared.turns.Due.{Due}
use Rattle.validate.specs.declared.turns.Due.TheVariants.{Value, Name, After}
use Rattle.validate.specs.declared.turns.Turn.{Turn}
use Rattle.validate.specs.Nesting.{room_in}
use Rattle.validate.specs.Turns.{due_of, standing, Ready, Taken}

-- the check has come to place i, where no blank stands
pub record Reached (v : Verdict) (s : List ℕ) (k : Stack) (i : ℕ) (due : Due) : Type 0 where
  pub within : i ≤ length s
  pub solid : i < length s → blank (get_or s i 0) ≡ false
  pub same : v ≡ standing s due k i

-- blanks are passed
due_loose : (due : Due) → Loose (due_of due)
due_loose Value = at_item array false
due_loose Name = at_item object false
due_loose After = at_after

blanks_same : (s : List ℕ) (k : Stack) (due : Due) {i r : ℕ} → i ≤ length s → Run blank s i r → standing s due k i ≡ standing s due k r
unfolding standing outcome
blanks_same s k due {i} h g = (led_blanks (due_loose due) (led_here s i (due_of due) h) g.passed).same k (room_in k)

-- from the start
pub start_at : {s : List ℕ} {i : ℕ} → Run blank s 0 i → Reached (text_verdict s) s [] i Value
unfolding text_verdict standing here
start_at {s} g = record { within = g.passed.within; solid = g.stop; same = blanks_same s [] Value (omega arith) g }

-- only after a value can a text be at its end, and only outside of containers
not_final : (due : Due) → (due ≡ After → ⊥) → final (due_of due) ≡ false
not_final Value n = refl
not_final Name n = refl
not_final After n = absurd (n refl)

both_false : (x : Bool) → (x && false) ≡ false
both_false true = refl
both_false false = refl

module _ {v : Verdict} {s : List ℕ} {k : Stack} {i : ℕ} {due : Due} (p : Reached v s k i due) where
  -- a turn, and the blanks after it
  pub ready : i < length s → Ready s i
  ready h = record { inside = h; solid = p.solid h }

  pub next_at : {k' : Stack} {turn : Turn} {j : ℕ} → Taken (standing s due k i) s i k' turn → Run blank s turn.at j → Reached v s k' j turn.due
  next_at {k'} {turn} t g =
      record { within = g.passed.within; solid = g.stop; same = p.same ∙ t.same ∙ blanks_same s k' turn.due t.within g }

  -- the end of the bytes
  module _ (h : length s ≤ i) where
    ended_at : v ≡ ended (final (due_of due) && is_empty k) i
    unfolding standing
    ended_at = p.same ∙ end_at s i (due_of due) k (room_in k) h

    pub end_taken : due ≡ After → true ≡ is_empty k → taken ≡ v
    end_taken e z = rw (ended_at, e, ← z)

    pub end_open : false ≡ is_empty k → refused 5 i ≡ v
    end_open z = rw (ended_at, ← z, both_false (final (due_of due)))

    pub end_due : (due ≡ After → ⊥) → refused 5 i ≡ v
    end_due n = rw (ended_at, not_final due n)

-- ground 4 goes before the others
pub too_long : (s : List ℕ) → max_bytes < length s → refused 4 max_bytes ≡ record_verdict s
unfolding record_verdict
too_long s h = rw (lt-leb (length s) max_bytes h, record_verdict)

pub short_enough : (s : List ℕ) → length s ≤ max_bytes → text_verdict s ≡ record_verdict s
unfolding record_verdict
short_enough s h = rw (le-leb (length s) max_bytes h, record_verdict)
