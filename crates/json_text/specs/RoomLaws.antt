-- What has room: so many containers, a value, a text; with the laws of it that follow the nesting of a value. Assumes nothing.
use Rattle.std.specs.Prelude.{List, ℕ, suc, max, ◌≤◌}
use Rattle.std.proofs.Common.{arith}
use Rattle.std.proofs.Math.Nat.{le-max_left, le-max_right, max-le}
use Rattle.json_text.specs.Grammar.{Value, nesting, JsonText, Nested}
use Rattle.json_text.specs.Room.{Room, left, endless, wider}

-- so many containers, one in the other, have room
abbrev pub Fits : Room → ℕ → Type 0
Fits (left n) d = d ≤ n
Fits endless d = Unit {0}

-- the value nests no deeper than there is room
abbrev pub Within : Room → Value → Type 0
Within ρ v = Fits ρ (nesting v)

-- the JSON texts that have room
abbrev pub Texts : Room → List ℕ → Type 0
Texts (left n) = Nested n
Texts endless = JsonText

pub fits_nothing : (ρ : Room) → Fits ρ 0
fits_nothing (left n) = omega arith
fits_nothing endless = tt

pub fits-max : (ρ : Room) (d e : ℕ) → Fits ρ d → Fits ρ e → Fits ρ (max d e)
fits-max (left n) d e p q = max-le p q
fits-max endless d e p q = tt

pub fits_left : (ρ : Room) (d e : ℕ) → Fits ρ (max d e) → Fits ρ d
fits_left (left n) d e p = omega (arith, le-max_left d e)
fits_left endless d e p = tt

pub fits_right : (ρ : Room) (d e : ℕ) → Fits ρ (max d e) → Fits ρ e
fits_right (left n) d e p = omega (arith, le-max_right d e)
fits_right endless d e p = tt

pub fits_more : (ρ : Room) (d : ℕ) → Fits ρ d → Fits (wider ρ) (suc d)
fits_more (left n) d p = omega arith
fits_more endless d p = tt

pub fits_less : (ρ : Room) (d : ℕ) → Fits (wider ρ) (suc d) → Fits ρ d
fits_less (left n) d p = omega arith
fits_less endless d p = tt
