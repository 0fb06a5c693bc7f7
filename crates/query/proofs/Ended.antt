-- Behind a step: what is read from where one is done says nothing of it, for only blanks and the beginning of the next step lead on.
-- Assumes nothing.
use Rattle.std.specs.Prelude.{◌≡◌, refl, List, [], ◌∷◌, Bool, true, false, ℕ, suc}
use Rattle.std.proofs.Common.{sym, subst}
use Rattle.query.specs.Grammar as G
use Rattle.query.specs.Machine as M
use Rattle.query.specs.Machine.{Control, root, done, gap, opened, closing, in_position, inside, in_escape, tail_due}
use Rattle.query.specs.Machine.{State, dead, begin_rules, step, final}
use Rattle.query.specs.Read.{begin, Placed, named, Reading, good, bad, note, reading}
use Rattle.query.specs.MachineLaws.{Lives, every_pick}
use Rattle.query.proofs.Spell as P
use Rattle.query.proofs.Spell.{done_gap}

-- a reading that says nothing of the step before it
pub data Ended : Reading → Type 0 where
  clean : (l : List Placed) → Ended (good (named [] l))
  cut : (p : ℕ) → Ended (bad p)

-- where a step may begin, blanks and the beginning of a step alone lead on
abbrev Begins : Control → Type 0
Begins root = ⊥
Begins done = ⊥
Begins gap = Unit {0}
Begins (M.dotted G.plain) = Unit {0}
Begins (M.dotted G.deep) = ⊥
Begins opened = Unit {0}
Begins closing = ⊥
Begins (in_position v) = ⊥
Begins (inside h) = ⊥
Begins (in_escape d q) = ⊥
Begins (tail_due p n h) = ⊥

ended_begin : (n b : ℕ) (r : Reading) → Ended (note begin n b r)
ended_begin n b (good a) = clean _
ended_begin n b (bad p) = cut p

ended_state : (n b : ℕ) (s : List ℕ) (m : State) → step (M.at gap) b ≡ m → Lives Begins m → Ended (reading gap (suc n) s) →
    Ended (reading gap n (b ∷ s))
ended_state n b s dead e l again = subst Ended (sym (P.stop gap n b s e)) (cut n)
ended_state n b s (M.at root) e l again = absurd l
ended_state n b s (M.at done) e l again = absurd l
ended_state n b s (M.at gap) e l again = subst Ended (sym (P.kept gap gap n b s e refl)) again
ended_state n b s (M.at (M.dotted G.plain)) e l again = subst Ended (sym (P.turn gap (M.dotted G.plain) n b s e))
    (ended_begin n b (reading (M.dotted G.plain) (suc n) s))
ended_state n b s (M.at (M.dotted G.deep)) e l again = absurd l
ended_state n b s (M.at opened) e l again = subst Ended (sym (P.turn gap opened n b s e)) (ended_begin n b (reading opened (suc n) s))
ended_state n b s (M.at closing) e l again = absurd l
ended_state n b s (M.at (in_position v)) e l again = absurd l
ended_state n b s (M.at (inside h)) e l again = absurd l
ended_state n b s (M.at (in_escape d q)) e l again = absurd l
ended_state n b s (M.at (tail_due p k h)) e l again = absurd l

begins_lives : (b : ℕ) → Lives Begins (step (M.at gap) b)
unfolding step
begins_lives b = every_pick Begins begin_rules b (tt, (tt, (tt, (tt, (tt, (tt, tt))))))

-- where nothing is left
ended-nil : (c : Control) (n : ℕ) → Ended (reading c n [])
unfolding reading
ended-nil c n = go (final c)
  where
    go : (x : Bool) → Ended (elim x [ true ↦ good (named [] []) | false ↦ bad n ])
    go true = clean []
    go false = cut n

ended_gap : (n : ℕ) (s : List ℕ) → Ended (reading gap n s)
ended_gap n [] = ended-nil gap n
ended_gap n (b ∷ s) = ended_state n b s (step (M.at gap) b) refl (begins_lives b) (ended_gap (suc n) s)

pub ended : (n : ℕ) (s : List ℕ) → Ended (reading done n s)
ended n [] = ended-nil done n
ended n (b ∷ s) = subst Ended (sym (done_gap n b s)) (ended_gap n (b ∷ s))
