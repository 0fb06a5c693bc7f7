-- A byte that is among some bytes, or is not, and what that says of a machine that has one rule for each of them.
use Rattle.std.specs.Prelude.{◌≡◌, refl, eqb, List, [], ◌∷◌, Bool, true, false, ◌&&◌, ◌⊎◌, ℕ, ◌≤◌, ◌<◌, T, leb, length, get_or}
use Rattle.std.proofs.Math.Option.{Option, some, none}
use Rattle.std.proofs.Common.{arith, leb→le, inl, inr}
use borrow.Author.Tests.{eqb-true, eqb-false}
use Rattle.bits.specs.Truth.{and_left, and_right}
use Rattle.json_text.specs.Room.{Room}
use Rattle.json_text.specs.Machine.{Ctl, Stack, top, at, Rule, one, lowest, highest, rules, step}
use Rattle.json_text.specs.MachineLaws.{Picks, inside, past, nowhere, step_by}

-- whether b is among the bytes
pub data Among : List ℕ → ℕ → Bool → Type 0 where
  this : {b n : ℕ} {ns : List ℕ} → b ≡ n → Among (n ∷ ns) b true
  other : {b n : ℕ} {ns : List ℕ} {ok : Bool} → (b ≡ n → ⊥) → Among ns b ok → Among (n ∷ ns) b ok
  no_more : {b : ℕ} → Among [] b false

-- whether b is the byte n
pub among_one : (b n : ℕ) → Among (n ∷ []) b (eqb b n)
among_one b n = by (eqb b n) refl
  where
    by : (x : Bool) → eqb b n ≡ x → Among (n ∷ []) b x
    by true e = this (eqb-true b n e)
    by false e = other (eqb-false b n e) no_more

-- one of two bytes
pub among_two : {b m n : ℕ} → (b ≡ m) ⊎ (b ≡ n) → Among (m ∷ n ∷ []) b true
among_two (inl e) = this e
among_two {b} {m} {n} (inr e) = by (eqb b m) refl
  where
    by : (x : Bool) → eqb b m ≡ x → Among (m ∷ n ∷ []) b true
    by true t = this (eqb-true b m t)
    by false f = other (eqb-false b m f) (this e)

-- whether a byte stands at place i that is among them
pub data AmongAt (ns : List ℕ) (s : List ℕ) (i : ℕ) : Bool → Type 0 where
  byte : {ok : Bool} → i < length s → Among ns (get_or s i 0) ok → AmongAt ns s i ok
  nothing : length s ≤ i → AmongAt ns s i false

-- a rule for each of the bytes, and then others
abbrev pub each : List ℕ → Ctl → List Rule → List Rule
each [] d rs = rs
each (n ∷ ns) d rs = one n d ∷ each ns d rs

pub missed : {b n : ℕ} → (b ≡ n → ⊥) → n ≤ b → b ≤ n → ⊥
missed f p q = f (omega arith)

-- one of them
pub among_picks : {ns : List ℕ} {b : ℕ} (d : Ctl) (rs : List Rule) → Among ns b true → (n : ℕ) × Picks (each ns d rs) b (some (one n d))
among_picks {b = b} d rs (this {n = n} e) = let l : n ≤ b = omega arith in let h : b ≤ n = omega arith in (n, inside l h)
among_picks d rs (other f a) = let p = among_picks d rs a in (p.0, past (missed f) p.1)

-- none of them
pub among_past : {ns : List ℕ} {b : ℕ} {o : Option Rule} (d : Ctl) (rs : List Rule) → Among ns b false → Picks rs b o → Picks (each ns d rs) b o
among_past d rs (other f a) p = past (missed f) (among_past d rs a p)
among_past d rs no_more p = p

-- a control state that goes to d by the bytes, and has other rules or none
module _ (c d : Ctl) {ns : List ℕ} (rs : List Rule) (k : Stack) (e : rules c (top k) ≡ each ns d rs) (ρ : Room) {b : ℕ} where
  pub among_step : Among ns b true → step (at c k ρ) b ≡ at d k ρ
  among_step a = let p = among_picks d rs a in step_by c k ρ {o = some (one p.0 d)} (rw e p.1)

-- no rule takes a byte above m
unfoldable pub topped : List Rule → ℕ → Bool
topped [] m = true
topped (r ∷ rs) m = leb (highest r) m && topped rs m

pub over_all : (rs : List Rule) (m b : ℕ) → T (topped rs m) → m < b → Picks rs b none
unfolding topped
over_all [] m b t h = nowhere
over_all (r ∷ rs) m b t h =
    let e = leb→le (highest r) m (and_left (leb (highest r) m) (topped rs m) t) in
    let f : lowest r ≤ b → b ≤ highest r → ⊥ = λ p q. omega arith in
    past f (over_all rs m b (and_right (leb (highest r) m) (topped rs m) t) h)

-- a byte that is found stands in the text
pub among_within : {ns s : List ℕ} {i : ℕ} → AmongAt ns s i true → i < length s
among_within (byte h x) = h

pub among_byte : {n : ℕ} {s : List ℕ} {i : ℕ} → AmongAt (n ∷ []) s i true → get_or s i 0 ≡ n
among_byte (byte h (this e)) = e
among_byte (byte h (other n x)) = elim x [ ]
