-- Laws of the machine's step: over a whole range of bytes at once, by what is known of one byte, and in more room. Assumes nothing.
use Rattle.std.specs.Prelude.{◌≡◌, refl, List, [], ◌∷◌, ◌++◌, Bool, true, false, ◌&&◌, ◌||◌, ℕ, zero, suc, ◌≤◌, leb, ltb}
use Rattle.std.proofs.Common.{◌∙◌, arith, ltb→lt, le-leb, leb-true}
use Rattle.std.proofs.Math.Bool.{and-eq-true_iff}
use Rattle.std.proofs.Math.Option.{Option, some, none}
use Rattle.bits.specs.Truth.{to_T, refuted, or_elim}
use Rattle.encoding.specs.Bytes as B
use Rattle.encoding.specs.Bytes.{In, Blank, blank_byte}
use Rattle.encoding.specs.BytesLaws.{from_low, to_high}
use Rattle.json_text.specs.Grammar.{Kind, array, object, opening, closing}
use Rattle.json_text.specs.Room.{Room, left, endless, wider}
use Rattle.json_text.specs.Machine.{Ctl, item, colon, after, Stack, top, pop, State, dead, at, entered, Rule, one, span}
use Rattle.json_text.specs.Machine.{opens, closes, lowest, highest, takes, apply, after_rules, rules, pick, step}

-- the first rule that has the byte, or a later one
pick_this : (r : Rule) (rs : List Rule) (b : ℕ) (k : Stack) (ρ : Room) → takes r b ≡ true → pick (r ∷ rs) b k ρ ≡ apply r k ρ
unfolding pick
pick_this r rs b k ρ e = rw (e, pick)

pub pick_later : (r : Rule) (rs : List Rule) (b : ℕ) (k : Stack) (ρ : Room) → takes r b ≡ false → pick (r ∷ rs) b k ρ ≡ pick rs b k ρ
unfolding pick
pick_later r rs b k ρ e = rw (e, pick)

pub takes_between : (r : Rule) (b : ℕ) → takes r b ≡ true → (lowest r ≤ b) × (b ≤ highest r)
takes_between r b e =
    let q = (and-eq-true_iff (leb (lowest r) b) (leb b (highest r))).0 e in
    (leb-true (lowest r) b q.0, leb-true b (highest r) q.1)

between_takes : (r : Rule) (b : ℕ) → lowest r ≤ b → b ≤ highest r → takes r b ≡ true
between_takes r b p q = rw (le-leb (lowest r) b p, le-leb b (highest r) q)

pub apart_takes : (r : Rule) (b : ℕ) → (lowest r ≤ b → b ≤ highest r → ⊥) → takes r b ≡ false
apart_takes r b f = refuted (takes r b) (λ e. f (takes_between r b e).0 (takes_between r b e).1)

-- where the rules take all of a range alike: what they make of it
unfoldable pub landing : ℕ → ℕ → List Rule → Stack → Room → Option State
landing lo hi [] k ρ = some dead
landing lo hi (r ∷ rs) k ρ =
    elim (leb (lowest r) lo && leb hi (highest r)) [
      | true ↦ some (apply r k ρ)
      | false ↦ elim (ltb (highest r) lo || ltb hi (lowest r)) [ true ↦ landing lo hi rs k ρ | false ↦ none ]
    ]

pub lands : (lo hi : ℕ) (rs : List Rule) (k : Stack) (ρ : Room) (st : State) → landing lo hi rs k ρ ≡ some st → (b : ℕ) → lo ≤ b → b ≤ hi →
    pick rs b k ρ ≡ st
unfolding landing pick
lands lo hi [] k ρ st e b p q = cc
lands lo hi (r ∷ rs) k ρ st e b p q =
    by (leb (lowest r) lo && leb hi (highest r)) refl (ltb (highest r) lo || ltb hi (lowest r)) refl e (λ h. lands lo hi rs k ρ st h b p q)
  where
    by : (x : Bool) → leb (lowest r) lo && leb hi (highest r) ≡ x → (y : Bool) → ltb (highest r) lo || ltb hi (lowest r) ≡ y →
        elim x [ true ↦ some (apply r k ρ) | false ↦ elim y [ true ↦ landing lo hi rs k ρ | false ↦ none ] ] ≡ some st →
        (landing lo hi rs k ρ ≡ some st → pick rs b k ρ ≡ st) → pick (r ∷ rs) b k ρ ≡ st
    by true covered y parted h again =
        let w = (and-eq-true_iff (leb (lowest r) lo) (leb hi (highest r))).0 covered in
        pick_this r rs b k ρ
        (between_takes r b (omega (arith, leb-true (lowest r) lo w.0)) (omega (arith, leb-true hi (highest r) w.1))) ∙ cc
    by false covered true parted h again =
        pick_later r rs b k ρ
        (apart_takes r b
        (λ l u. or_elim (ltb (highest r) lo) (ltb hi (lowest r)) (to_T parted)
        (λ x. omega (arith, ltb→lt (highest r) lo x))
        (λ x. omega (arith, ltb→lt hi (lowest r) x)))) ∙ again h
    by false covered false parted h again = cc

-- the step of a whole range, by one computation
pub step_range : (c : Ctl) (k : Stack) (ρ : Room) (lo hi b : ℕ) (st : State) → landing lo hi (rules c (top k)) k ρ ≡ some st → lo ≤ b →
    b ≤ hi → step (at c k ρ) b ≡ st
unfolding step
step_range c k ρ lo hi b st e p q = lands lo hi (rules c (top k)) k ρ st e b p q

pub step_in : (c : Ctl) (k : Stack) (ρ : Room) {lo hi : ℕ} (b : In lo hi) (st : State) → landing lo hi (rules c (top k)) k ρ ≡ some st →
    step (at c k ρ) b.byte ≡ st
step_in c k ρ {lo} {hi} b st e = step_range c k ρ lo hi b.byte st e (from_low b) (to_high b)

-- the first rule that has the byte, by what is known of the byte; none where no rule has it
pub data Picks : List Rule → ℕ → Option Rule → Type 0 where
  inside : {b : ℕ} {r : Rule} {rs : List Rule} → lowest r ≤ b → b ≤ highest r → Picks (r ∷ rs) b (some r)
  past : {b : ℕ} {r : Rule} {o : Option Rule} {rs : List Rule} → (lowest r ≤ b → b ≤ highest r → ⊥) → Picks rs b o → Picks (r ∷ rs) b o
  nowhere : {b : ℕ} → Picks [] b none

abbrev pub picked : Option Rule → Stack → Room → State
picked none k ρ = dead
picked (some r) k ρ = apply r k ρ

picks : {rs : List Rule} {b : ℕ} {o : Option Rule} (k : Stack) (ρ : Room) → Picks rs b o → pick rs b k ρ ≡ picked o k ρ
unfolding pick
picks k ρ (inside {b} {r} {rs} p q) = pick_this r rs b k ρ (between_takes r b p q)
picks k ρ (past {b} {r} {o} {rs} f p) = pick_later r rs b k ρ (apart_takes r b f) ∙ picks k ρ p
picks k ρ nowhere = refl

pub step_by : (c : Ctl) (k : Stack) (ρ : Room) {b : ℕ} {o : Option Rule} → Picks (rules c (top k)) b o → step (at c k ρ) b ≡ picked o k ρ
unfolding step
step_by c k ρ p = picks k ρ p

-- in a control state that goes on as after a value, a byte that only the later rules can have
pub step_over : (c : Ctl) (k : Stack) (ρ : Room) {b : ℕ} (rs : List Rule) → rules c (top k) ≡ rs ++ after_rules (top k) → Picks rs b none →
    step (at c k ρ) b ≡ step (at after k ρ) b
unfolding step
step_over c k ρ {b} rs e p = rw e (later rs p)
  where
    later : (qs : List Rule) → Picks qs b none → pick (qs ++ after_rules (top k)) b k ρ ≡ pick (after_rules (top k)) b k ρ
    later [] nowhere = refl
    later (r ∷ qs) (past f q) = pick_later r (qs ++ after_rules (top k)) b k ρ (apart_takes r b f) ∙ later qs q

-- blanks, brackets, commas
pub item_blank : (x : Kind) (f : Bool) (k : Stack) (ρ : Room) (b : Blank) → step (at (item x f) k ρ) (blank_byte b) ≡ at (item x f) k ρ
unfolding step
item_blank array f k ρ B.space = refl
item_blank array f k ρ B.tab = refl
item_blank array f k ρ B.feed = refl
item_blank array f k ρ B.return = refl
item_blank object f k ρ B.space = refl
item_blank object f k ρ B.tab = refl
item_blank object f k ρ B.feed = refl
item_blank object f k ρ B.return = refl

pub colon_blank : (k : Stack) (ρ : Room) (b : Blank) → step (at colon k ρ) (blank_byte b) ≡ at colon k ρ
unfolding step
colon_blank k ρ B.space = refl
colon_blank k ρ B.tab = refl
colon_blank k ρ B.feed = refl
colon_blank k ρ B.return = refl

pub after_blank : (k : Stack) (ρ : Room) (b : Blank) → step (at after k ρ) (blank_byte b) ≡ at after k ρ
unfolding step
after_blank k ρ B.space = refl
after_blank k ρ B.tab = refl
after_blank k ρ B.feed = refl
after_blank k ρ B.return = refl

pub item_open : (x : Kind) (f : Bool) (k : Stack) (ρ : Room) → step (at (item array f) k ρ) (opening x) ≡ entered x k ρ
unfolding step
item_open array f k ρ = refl
item_open object f k ρ = refl

pub item_close : (x : Kind) (k : Stack) (ρ : Room) → step (at (item x true) k ρ) (closing x) ≡ at after (pop k) (wider ρ)
unfolding step
item_close array k ρ = refl
item_close object k ρ = refl

pub after_comma : (x : Kind) (k : Stack) (ρ : Room) → step (at after (x ∷ k) ρ) 0x2C ≡ at (item x false) (x ∷ k) ρ
unfolding step
after_comma x k ρ = refl

pub after_close : (x : Kind) (k : Stack) (ρ : Room) → step (at after (x ∷ k) ρ) (closing x) ≡ at after k (wider ρ)
unfolding step
after_close array k ρ = refl
after_close object k ρ = refl

-- what a byte does in a room and without a limit: the same, unless it is an opening bracket that has no room
pub data Freed (b : ℕ) : State → State → Type 0 where
  both_dead : Freed b dead dead
  alike : {c : Ctl} {k : Stack} {ρ : Room} → Freed b (at c k ρ) (at c k endless)
  no_room : {c : Ctl} {k : Stack} (x : Kind) → b ≡ opening x → Freed b dead (at c k endless)

apply_freed : (r : Rule) (b : ℕ) (k : Stack) (ρ : Room) → takes r b ≡ true → Freed b (apply r k ρ) (apply r k endless)
apply_freed (one n c) b k ρ e = alike
apply_freed (span lo hi c) b k ρ e = alike
apply_freed (opens x) b k (left zero) e = no_room x (omega (arith, takes_between (opens x) b e))
apply_freed (opens x) b k (left (suc n)) e = alike
apply_freed (opens x) b k endless e = alike
apply_freed (closes x) b k ρ e = alike

pick_freed : (rs : List Rule) (b : ℕ) (k : Stack) (ρ : Room) → Freed b (pick rs b k ρ) (pick rs b k endless)
unfolding pick
pick_freed [] b k ρ = both_dead
pick_freed (r ∷ rs) b k ρ = by (takes r b) refl (pick_freed rs b k ρ)
  where
    by : (x : Bool) → takes r b ≡ x → Freed b (pick rs b k ρ) (pick rs b k endless) →
        Freed b (elim x as (λ _. State) [ true ↦ apply r k ρ | false ↦ pick rs b k ρ ])
        (elim x as (λ _. State) [ true ↦ apply r k endless | false ↦ pick rs b k endless ])
    by true e again = apply_freed r b k ρ e
    by false e again = again

pub step_freed : (c : Ctl) (k : Stack) (ρ : Room) (b : ℕ) → Freed b (step (at c k ρ) b) (step (at c k endless) b)
unfolding step
step_freed c k ρ b = pick_freed (rules c (top k)) b k ρ
