-- What the parts of the sorter promise, over the places of 64 bytes.
use Rattle.std.specs.Prelude.{◌≡◌, ℕ, zero, suc, ◌+◌, ◌<◌, Bool, true, not, ◌&&◌, List, length}
use Rattle.std.specs.Bool.{xor}
use Rattle.bits.specs.Bits.{bit}
use Rattle.classifier.specs.Classes.{byte_at}

-- an odd run of places at which f holds stands just before place i, where `odd` says so of place 0
unfoldable pub odd_run : (odd : Bool) → (ℕ → Bool) → ℕ → Bool
odd_run odd f zero = odd
odd_run odd f (suc i) = f i && not (odd_run odd f i)

-- the places before i at which f holds are odd in number, where `inside` counts as one before place 0
unfoldable pub parity : (inside : Bool) → (ℕ → Bool) → ℕ → Bool
parity inside f zero = inside
parity inside f (suc i) = xor (f i) (parity inside f i)

-- the real ones of the quotes q where b are the backslashes, the places inside strings, and whether an odd run is last
pub record StringsFound (q b : ℕ) (inside odd : Bool) (quotes strings : ℕ) (ends : Bool) : Type 0 where
  pub quotes_at : (i : ℕ) → i < 64 → bit i quotes ≡ (bit i q && not (odd_run odd (λ j. bit j b) i))
  pub strings_at : (i : ℕ) → i < 64 → bit i strings ≡ parity inside (λ j. bit j quotes) (i + 1)
  pub ends_is : ends ≡ odd_run odd (λ j. bit j b) 64

-- no place has both an opening and a closing bracket
abbrev pub NotBoth : (opening closing : ℕ) → Type 0
NotBoth a b = (j : ℕ) → bit j a ≡ true → bit j b ≡ true → ⊥

-- d has 64 bytes: those of s and zeros behind them
pub record Padded (s d : List ℕ) : Type 0 where
  pub long : length d ≡ 64
  pub like : (i : ℕ) → i < 64 → byte_at d i ≡ byte_at s i
