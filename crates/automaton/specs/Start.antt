-- The state at the root: with no step there is no mark and the root is picked out; with one or more it has mark 0 alone. Assumes nothing.
use Rattle.std.specs.Prelude.{◌≡◌, refl, List, [], ◌∷◌, Bool, true, false, ℕ, zero, suc, eqb, length}
use Rattle.std.proofs.Common.{arith}
use Rattle.std.proofs.Math.Dec.{eqb-suc-zero}
use Rattle.bits.specs.Bits.{number, digit}
use Rattle.query.specs.Steps.{Step}
use Rattle.automaton.specs.State.{start}

-- a number none of whose bits is on
pub number_none : (n : ℕ) (f : ℕ → Bool) → ((i : ℕ) → f i ≡ false) → number n f ≡ 0
unfolding number digit
number_none zero f h = refl
number_none (suc n) f h = rw (number_none n (λ i. f (suc i)) (λ i. h (suc i)), h 0)

pub start_none : (q : List Step) → length q ≡ 0 → start q ≡ record { marks = 0; picked = true; frames = 0 }
unfolding start number
start_none [] e = refl
start_none (s ∷ q) e = absurd (omega arith)

pub start_some : (q : List Step) → (length q ≡ 0 → ⊥) → start q ≡ record { marks = 1; picked = false; frames = 0 }
unfolding start number digit
start_some [] n = absurd (n refl)
start_some (s ∷ q) n = rw (number_none (length q) (λ i. eqb (suc i) 0) eqb-suc-zero, eqb-suc-zero (length q))
