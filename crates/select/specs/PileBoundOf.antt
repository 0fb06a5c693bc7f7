-- The bound on the peak by the steps of a query (PileBound.antt), by computing.
use Rattle.std.specs.Prelude.{List, [], ◌∷◌, Bool, true, false, ◌&&◌, ℕ, suc, length}
use Rattle.std.proofs.Math.Option.{Option, some, none}
use Rattle.query.specs.Steps.{Step}

unfoldable pub all_deep : List Step → Bool
all_deep [] = true
all_deep (s ∷ q) = s.deep && all_deep q

unfoldable pub some_if : Bool → ℕ → Option ℕ
some_if true k = some k
some_if false k = none

unfoldable pub one_more : Option ℕ → Option ℕ
one_more (some k) = some (suc k)
one_more none = none

-- where the first step is deep, the others have to be deep too, and each of them counts; a plain first step counts
unfoldable pub bound_from : (deep : Bool) → (rest : List Step) → (bound : Option ℕ) → Option ℕ
unfolding all_deep some_if one_more
bound_from true rest b = some_if (all_deep rest) (length rest)
bound_from false rest b = one_more b

unfoldable pub pile_bound : List Step → Option ℕ
unfolding bound_from
pile_bound [] = some 0
pile_bound (s ∷ q) = bound_from s.deep q (pile_bound q)
