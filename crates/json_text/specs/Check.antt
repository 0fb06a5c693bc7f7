-- The check of a record's text in one pass of the machine: grounds 5 and 6 of document 01.
use Rattle.std.specs.Prelude.{List, [], ◌∷◌, Bool, true, false, ℕ, suc}
use Rattle.encoding.specs.Verdict.{Verdict, taken, refused}
use Rattle.json_text.specs.Room.{Room, endless}
use Rattle.json_text.specs.Machine.{Ctl, Stack, State, dead, at, step, accept}

-- at the end of the bytes
abbrev pub ended : Bool → ℕ → Verdict
ended true i = taken
ended false i = refused 5 i

-- the byte at place i is dead in the room; by the state that it leads to without a limit
abbrev pub blame : State → ℕ → Verdict
blame dead i = refused 5 i
blame (at c k ρ) i = refused 6 i

-- the verdict on the bytes that are left, the first of which is at place i
unfoldable pub check_from : Ctl → Stack → Room → ℕ → List ℕ → Verdict
unfolding step
check_from c k ρ i [] = ended (accept (at c k ρ)) i
check_from c k ρ i (b ∷ s) =
    elim (step (at c k ρ) b) [ dead ↦ blame (step (at c k endless) b) i | at c' k' ρ' ↦ check_from c' k' ρ' (suc i) s ]
