-- What a reader of bytes answers, by what it says of a place: that of what stands behind what it read, or that of the dead byte.
use Rattle.std.specs.Prelude.{Bool, true, false, ℕ, Result, Ok, Err}
use Rattle.encoding.specs.declared.Dead.{Dead}

abbrev pub Reads : (Bool → ℕ → Type 0) → Result ℕ Dead → Type 0
Reads Says (Ok end) = Says true end
Reads Says (Err dead) = Says false dead.at
