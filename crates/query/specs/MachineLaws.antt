-- Laws of the machine's tables: where a table leads all bytes of a range, by computing; and what holds of every rule. Assumes nothing.
use Rattle.std.specs.Prelude.{◌≡◌, refl, List, [], ◌∷◌, ◌++◌, Bool, true, false, ◌&&◌, ◌||◌, ℕ, ◌≤◌, ◌<◌, T, leb, ltb}
use Rattle.std.proofs.Common.{ap, ◌∙◌, arith, leb→le, ltb→lt}
use Rattle.std.proofs.Math.Option.{Option, some, none}
use Rattle.bits.specs.Truth.{and_left, and_right, to_T, refuted, or_elim}
use Rattle.encoding.specs.Bytes.{In}
use Rattle.encoding.specs.BytesLaws.{inside, from_low, to_high}
use Rattle.query.specs.Machine.{Control, State, dead, at, Rule, only, rules, takes, pick, step}

-- the bounds of a byte that a rule has
pub taken_between : (r : Rule) (b : ℕ) → T (takes r b) → (r.low ≤ b) × (b ≤ r.high)
taken_between r b t =
    (leb→le r.low b (and_left (leb r.low b) (leb b r.high) t), leb→le b r.high (and_right (leb r.low b) (leb b r.high) t))

pub hit : (r : Rule) (rs : List Rule) (b : ℕ) → takes r b ≡ true → pick (r ∷ rs) b ≡ at r.to
unfolding pick
hit r rs b e = rw (e, pick)

pub miss : (r : Rule) (rs : List Rule) (b : ℕ) → takes r b ≡ false → pick (r ∷ rs) b ≡ pick rs b
unfolding pick
miss r rs b e = rw (e, pick)

-- a byte that is not the rule's one byte
pub miss_only : (n : ℕ) (c : Control) (rs : List Rule) (b : ℕ) → (b ≡ n → ⊥) → pick (only n c ∷ rs) b ≡ pick rs b
miss_only n c rs b f = miss (only n c) rs b (refuted (takes (only n c) b) (λ e. f (omega (arith, taken_between (only n c) b (to_T e)))))

-- a rule has all bytes of the range, or none
abbrev covers : Rule → ℕ → ℕ → Bool
covers r lo hi = leb r.low lo && leb hi r.high

abbrev parted : Rule → ℕ → ℕ → Bool
parted r lo hi = ltb r.high lo || ltb hi r.low

-- where the table leads all bytes of the range, if it leads them alike
unfoldable pub landing : ℕ → ℕ → List Rule → Option State
landing lo hi [] = some dead
landing lo hi (r ∷ rs) =
    elim (covers r lo hi) [ true ↦ some (at r.to) | false ↦ elim (parted r lo hi) [ true ↦ landing lo hi rs | false ↦ none ] ]

covered : {lo hi b : ℕ} → lo ≤ b → b ≤ hi → (r : Rule) → T (covers r lo hi) → takes r b ≡ true
covered {lo} {hi} {b} l h r t =
    let x : r.low ≤ lo = leb→le r.low lo (and_left (leb r.low lo) (leb hi r.high) t) in
    let y : hi ≤ r.high = leb→le hi r.high (and_right (leb r.low lo) (leb hi r.high) t) in
    inside r.low r.high b (omega arith) (omega arith)

passed : {lo hi b : ℕ} → lo ≤ b → b ≤ hi → (r : Rule) → T (parted r lo hi) → takes r b ≡ false
passed {lo} {hi} {b} l h r t =
    refuted (takes r b)
    (λ q. or_elim (ltb r.high lo) (ltb hi r.low) t
    (λ x. omega (arith, ltb→lt r.high lo x, taken_between r b (to_T q)))
    (λ x. omega (arith, ltb→lt hi r.low x, taken_between r b (to_T q))))

pub lands : {lo hi b : ℕ} → lo ≤ b → b ≤ hi → (rs : List Rule) (m : State) → landing lo hi rs ≡ some m → pick rs b ≡ m
unfolding landing pick
lands l h [] m e = cc
lands {lo} {hi} {b} l h (r ∷ rs) m e = go (covers r lo hi) refl (parted r lo hi) refl e (λ q. lands l h rs m q)
  where
    go : (x : Bool) → covers r lo hi ≡ x → (y : Bool) → parted r lo hi ≡ y →
        elim x [ true ↦ some (at r.to) | false ↦ elim y [ true ↦ landing lo hi rs | false ↦ none ] ] ≡ some m →
        (landing lo hi rs ≡ some m → pick rs b ≡ m) → pick (r ∷ rs) b ≡ m
    go true p y q f again = hit r rs b (covered l h r (to_T p)) ∙ cc
    go false p true q f again = miss r rs b (passed l h r (to_T q)) ∙ again f
    go false p false q f again = cc

-- rules that have no byte of the range are passed over
unfoldable pub all_parted : ℕ → ℕ → List Rule → Bool
all_parted lo hi [] = true
all_parted lo hi (r ∷ rs) = parted r lo hi && all_parted lo hi rs

pub passes : {lo hi b : ℕ} → lo ≤ b → b ≤ hi → (rs us : List Rule) → T (all_parted lo hi rs) → pick (rs ++ us) b ≡ pick us b
unfolding all_parted
passes l h [] us t = refl
passes {lo} {hi} {b} l h (r ∷ rs) us t =
    miss r (rs ++ us) b (passed l h r (and_left (parted r lo hi) (all_parted lo hi rs) t)) ∙
    passes l h rs us (and_right (parted r lo hi) (all_parted lo hi rs) t)

-- rules that do not have the byte may be left off the end
pub trims : (rs us : List Rule) (b : ℕ) → pick us b ≡ dead → pick (rs ++ us) b ≡ pick rs b
unfolding pick
trims [] us b e = e
trims (r ∷ rs) us b e = ap (λ (m : State). elim (takes r b) as (λ _. State) [ true ↦ at r.to | false ↦ m ]) (trims rs us b e)

-- a byte above every rule is dead
unfoldable pub all_under : ℕ → List Rule → Bool
all_under lo [] = true
all_under lo (r ∷ rs) = ltb r.high lo && all_under lo rs

pub dies_above : {lo b : ℕ} → lo ≤ b → (rs : List Rule) → T (all_under lo rs) → pick rs b ≡ dead
unfolding all_under pick
dies_above l [] t = refl
dies_above {lo} {b} l (r ∷ rs) t =
    let h : r.high < lo = ltb→lt r.high lo (and_left (ltb r.high lo) (all_under lo rs) t) in
    miss r rs b (refuted (takes r b) (λ q. omega (arith, taken_between r b (to_T q)))) ∙
    dies_above l rs (and_right (ltb r.high lo) (all_under lo rs) t)

-- a step by a byte of a range, by computing
pub leads : (c : Control) {lo hi b : ℕ} → lo ≤ b → b ≤ hi → (m : State) → landing lo hi (rules c) ≡ some m → step (at c) b ≡ m
unfolding step
leads c l h m e = lands l h (rules c) m e

pub leads_in : (c : Control) {lo hi : ℕ} (b : In lo hi) (m : State) → landing lo hi (rules c) ≡ some m → step (at c) b.byte ≡ m
leads_in c b m e = leads c (from_low b) (to_high b) m e

-- what holds of every rule's target holds of the state that a byte leads to
abbrev pub Every : (Control → Type 0) → List Rule → Type 0
Every P [] = Unit {0}
Every P (r ∷ rs) = P r.to × Every P rs

abbrev pub Lives : (Control → Type 0) → State → Type 0
Lives P dead = Unit {0}
Lives P (at c) = P c

pub every_pick : (P : Control → Type 0) (rs : List Rule) (b : ℕ) → Every P rs → Lives P (pick rs b)
unfolding pick
every_pick P [] b f = tt
every_pick P (r ∷ rs) b f = go (takes r b) (every_pick P rs b f.1)
  where
    go : (x : Bool) → Lives P (pick rs b) → Lives P (elim x [ true ↦ at r.to | false ↦ pick rs b ])
    go true again = f.0
    go false again = again
