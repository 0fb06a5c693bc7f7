-- Laws of the number that digits stand for: those behind are read on from those before, and make it no smaller. Assumes nothing.
use Rattle.std.specs.Prelude.{◌≡◌, refl, List, [], ◌∷◌, ◌++◌, ℕ, ◌-◌, ◌+◌, ◌*◌, ◌≤◌}
use Rattle.std.proofs.Common.{arith}
use Rattle.encoding.specs.Decimal.{read_on}

pub read_append : (n : ℕ) (s t : List ℕ) → read_on n (s ++ t) ≡ read_on (read_on n s) t
unfolding read_on
read_append n [] t = refl
read_append n (b ∷ s) t = read_append (n * 10 + (b - 0x30)) s t

pub read_from : (n : ℕ) (s : List ℕ) → n ≤ read_on n s
unfolding read_on
read_from n [] = omega arith
read_from n (b ∷ s) = omega (arith, read_from (n * 10 + (b - 0x30)) s)
