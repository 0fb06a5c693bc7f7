-- The buffer of a query's decoded names, and what is promised of what is written into it and of what a name is compared with.
use Rattle.std.specs.Prelude.{◌≡◌, ◌≢◌, List, ◌++◌, Option, MatchOption, ℕ, ◌+◌, length, take, drop}
use denote.Bor.{Bor}

-- how many bytes the buffer has
abbrev pub names_size : ℕ
names_size = 1024

-- bytes were written from i on, up to r, and all others kept
pub record Written (before : List ℕ) (i : ℕ) (bytes after : List ℕ) (r : ℕ) : Type 0 where
  pub end : r ≡ i + length bytes
  pub all : after ≡ take i before ++ bytes ++ drop r before

-- what is left of a name after these bytes, or that it does not begin with them
abbrev pub After : (name bytes : List ℕ) → Option (Bor (List ℕ)) → Type 0
After name bytes r = MatchOption r ((rest : List ℕ) → name ≢ bytes ++ rest) (λ rest. name ≡ bytes ++ rest.now)
