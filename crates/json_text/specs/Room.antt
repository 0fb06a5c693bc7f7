-- Room for nesting: how many containers may still be opened, one in the other.
use Rattle.std.specs.Prelude.{ℕ, suc}

pub data Room : Type 0 where
  left : ℕ → Room
  endless : Room

-- the room after one container is closed
abbrev pub wider : Room → Room
wider (left n) = left (suc n)
wider endless = endless
