-- What is told of the steps of a query: a bound on the frames, or none.
use Rattle.std.specs.Prelude.{◌≡◌, List, ℕ, Option, Some, None, length}
use Rattle.std.proofs.Math.Option as M
use Rattle.std.proofs.Math.ListN.{get_elem?}
use Rattle.bits.specs.Bits.{bit}
use Rattle.query.specs.Steps.{Step, is_deep}

-- the bound that is told, if one is
abbrev pub told : Option ℕ → M.Option ℕ
told (Some k) = M.some k
told None = M.none

-- there are so many steps, and these are deep
pub record DeepSteps (q : List Step) (count mask : ℕ) : Type 0 where
  pub number : count ≡ length q
  pub deep : (i : ℕ) → bit i mask ≡ is_deep (get_elem? q i)
