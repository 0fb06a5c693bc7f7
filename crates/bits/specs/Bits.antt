-- The bits of a number, the lowest first, and the number that has given bits.
use Rattle.std.specs.Prelude.{ℕ, zero, suc, ◌+◌, ◌*◌, ◌/◌, ◌%◌, ◌<◌, ◌≤◌, ◌≡◌, Bool, true, false}

-- a number that is not 0
unfoldable pub on : ℕ → Bool
on zero = false
on (suc n) = true

-- bit i of n; bit 0 is the lowest
unfoldable pub bit : ℕ → ℕ → Bool
unfolding on
bit zero n = on (n % 2)
bit (suc i) n = bit i (n / 2)

-- a bit as a number
unfoldable pub digit : Bool → ℕ
digit false = 0
digit true = 1

-- the number of n bits whose bit i is f i; every further bit is 0
unfoldable pub number : ℕ → (ℕ → Bool) → ℕ
unfolding digit
number zero f = 0
number (suc n) f = number n (λ i. f (suc i)) * 2 + digit (f 0)

-- i is the least index whose bit of w is on; n where none of the n bits is (document 01, "The next bracket is the lowest bit that is on")
pub record Lowest (n w i : ℕ) : Type 0 where
  pub is_on : i < n → bit i w ≡ true
  pub none_below : (j : ℕ) → j < i → bit j w ≡ false
  pub within : i ≤ n
