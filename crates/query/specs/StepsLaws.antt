-- Past the last step of a query there is none. Assumes nothing.
use Rattle.std.specs.Prelude.{◌≡◌, refl, List, [], ◌∷◌, ℕ, zero, suc, ◌≤◌, length}
use Rattle.std.proofs.Math.Option.{none}
use Rattle.std.proofs.Common.{arith}
use Rattle.std.proofs.Math.ListN.{get_elem?}
use Rattle.query.specs.Steps.{Step}

pub no_step_lem : (x : List Step) (i : ℕ) → length x ≤ i → get_elem? x i ≡ none
no_step_lem [] i h = refl
no_step_lem (y ∷ x) zero h = absurd (omega arith)
no_step_lem (y ∷ x) (suc i) h = no_step_lem x i (omega arith)
