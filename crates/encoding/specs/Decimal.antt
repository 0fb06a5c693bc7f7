-- The number that digits stand for, the most significant first.
use Rattle.std.specs.Prelude.{List, [], ◌∷◌, ℕ, ◌+◌, ◌-◌, ◌*◌}

-- with n already read
unfoldable pub read_on : ℕ → List ℕ → ℕ
read_on n [] = n
read_on n (b ∷ s) = read_on (n * 10 + (b - 0x30)) s

unfoldable pub value_of : List ℕ → ℕ
unfolding read_on
value_of s = read_on 0 s
