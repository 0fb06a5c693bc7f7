-- A reader's answer that says one thing of its place says each thing that follows. Assumes nothing.
use Rattle.std.specs.Prelude.{Bool, true, false, ℕ, Result, Ok, Err}
use Rattle.encoding.specs.declared.Dead.{Dead}
use Rattle.encoding.specs.Reads.{Reads}

pub reads_so : {P Q : Bool → ℕ → Type 0} → ((ok : Bool) (at : ℕ) → P ok at → Q ok at) → (r : Result ℕ Dead) → Reads P r → Reads Q r
reads_so f (Ok end) p = f true end p
reads_so f (Err dead) p = f false dead.at p
