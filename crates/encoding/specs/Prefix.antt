-- The dead byte of a text (document 01, "Grounds for refusing"), for any grammar given as the set of its texts.
use Rattle.std.specs.Prelude.{List, ◌++◌, ℕ, suc, ◌≤◌, ◌<◌, length, take}

-- some text of the grammar begins with p
unfoldable pub Alive : (List ℕ → Type 0) → List ℕ → Type 0
Alive L p = (u : List ℕ) × L (p ++ u)

-- the place of the dead byte of s, the first one with which no text of the grammar can begin up to and including it: up to and including
-- each byte before it some text begins as s does, up to and including it none; where s has no such byte, the place is the length of s
pub record DeadPlace (L : List ℕ → Type 0) (s : List ℕ) (place : ℕ) : Type 0 where
  pub within : place ≤ length s
  pub before : (i : ℕ) → i < place → Alive L (take (suc i) s)
  pub dead : place < length s → Alive L (take (suc place) s) → ⊥
