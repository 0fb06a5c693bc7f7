-- The laws of the check by places: what one byte, a bracket, a run of bytes and the end of the text do to the verdict.
-- Each follows from the machine's step at that byte. Assumes nothing.
use Rattle.std.specs.Prelude.{◌≡◌, List, ◌∷◌, Bool, true, ◌&&◌, ℕ, zero, suc, ◌+◌, ◌-◌, ◌≤◌, ◌<◌, length, get_or, drop}
use Rattle.std.proofs.Math.Path.{refl, ap}
use Rattle.std.proofs.Common.{sym, ◌∙◌, arith, drop_of_length-le, drop-cons}
use Rattle.std.proofs.Math.Numerals.{add-one}
use Rattle.encoding.specs.Verdict.{Verdict, refused}
use Rattle.json_text.specs.Grammar.{Kind, array, opening}
use Rattle.json_text.specs.Room.{Room, left, endless}
use Rattle.json_text.specs.Machine.{Ctl, item, Stack, State, dead, at, entered, step, final, is_empty, accept}
use Rattle.json_text.specs.MachineLaws.{Freed, both_dead, alike, no_room, step_freed, item_open}
use Rattle.json_text.specs.Check.{ended, blame, check_from}

-- the verdict on the text s from place i on
unfoldable pub here : List ℕ → Ctl → Stack → Room → ℕ → Verdict
unfolding check_from
here s c k ρ i = check_from c k ρ i (drop i s)

-- one byte
module _ (s : List ℕ) (i : ℕ) (c : Ctl) (k : Stack) (ρ : Room) where
  pub go_at : (c' : Ctl) (k' : Stack) (ρ' : Room) → i < length s → step (at c k ρ) (get_or s i 0) ≡ at c' k' ρ' →
      here s c k ρ i ≡ here s c' k' ρ' (i + 1)
  unfolding here check_from
  go_at c' k' ρ' h e = ap (check_from c k ρ i) (drop-cons s i 0 h) ∙ rw (e, check_from, add-one i) refl

  -- dead in the room
  pub stop_at : i < length s → step (at c k ρ) (get_or s i 0) ≡ dead → here s c k ρ i ≡ blame (step (at c k endless) (get_or s i 0)) i
  unfolding here check_from
  stop_at h e = ap (check_from c k ρ i) (drop-cons s i 0 h) ∙ rw (e, check_from) refl

  -- dead without a limit: ground 5
  pub die_at : i < length s → step (at c k endless) (get_or s i 0) ≡ dead → here s c k ρ i ≡ refused 5 i
  die_at h e =
      stop_at h (by (step (at c k ρ) (get_or s i 0)) (step (at c k endless) (get_or s i 0)) (step_freed c k ρ (get_or s i 0)) e)
      ∙ ap (λ (x : State). blame x i) e
    where
      by : (st st' : State) → Freed (get_or s i 0) st st' → st' ≡ dead → st ≡ dead
      by _ _ both_dead q = refl
      by _ _ alike q = cc
      by _ _ (no_room x o) q = refl

  pub end_at : length s ≤ i → here s c k ρ i ≡ ended (accept (at c k ρ)) i
  unfolding here check_from
  end_at h = ap (check_from c k ρ i) (drop_of_length-le s h)

-- what a byte leads to, by its state in the room and its state without a limit
abbrev after_byte : State → State → ℕ → List ℕ → Verdict
after_byte st st' i s = elim st as (λ _. Verdict) [ dead ↦ blame st' i | at c k ρ ↦ check_from c k ρ (suc i) s ]

-- two control states that take the byte alike
pub same_at : (s : List ℕ) (i : ℕ) (c c' : Ctl) (k : Stack) (ρ : Room) → i < length s →
    ((σ : Room) → step (at c k σ) (get_or s i 0) ≡ step (at c' k σ) (get_or s i 0)) → here s c k ρ i ≡ here s c' k ρ i
unfolding here check_from
same_at s i c c' k ρ h e =
    ap (check_from c k ρ i) (drop-cons s i 0 h)
    ∙ ap (λ (x : State). after_byte x (step (at c k endless) (get_or s i 0)) i (drop (suc i) s)) (e ρ)
    ∙ ap (λ (y : State). after_byte (step (at c' k ρ) (get_or s i 0)) y i (drop (suc i) s)) (e endless)
    ∙ sym (ap (check_from c' k ρ i) (drop-cons s i 0 h))

-- two control states that end alike, at the end of the bytes
pub end_same : (s : List ℕ) (i : ℕ) (c c' : Ctl) (k : Stack) (ρ : Room) → length s ≤ i → final c ≡ final c' →
    here s c k ρ i ≡ here s c' k ρ i
end_same s i c c' k ρ h e = end_at s i c k ρ h ∙ ap (λ (x : Bool). ended (x && is_empty k) i) e ∙ sym (end_at s i c' k ρ h)

-- brackets
module _ (s : List ℕ) (i : ℕ) (f : Bool) (k : Stack) (x : Kind) (h : i < length s) (e : get_or s i 0 ≡ opening x) where
  opened : (ρ : Room) → step (at (item array f) k ρ) (get_or s i 0) ≡ entered x k ρ
  opened ρ = rw e (item_open x f k ρ)

  pub enter_at : (n : ℕ) → here s (item array f) k (left (suc n)) i ≡ here s (item x true) (x ∷ k) (left n) (i + 1)
  enter_at n = go_at s i (item array f) k (left (suc n)) (item x true) (x ∷ k) (left n) h (opened (left (suc n)))

  -- no room: ground 6
  pub deep_at : here s (item array f) k (left 0) i ≡ refused 6 i
  deep_at = stop_at s i (item array f) k (left 0) h (opened (left 0)) ∙ ap (λ (y : State). blame y i) (opened endless)

-- a run of bytes that keep the machine where it is
pub skip : (s : List ℕ) (c : Ctl) (k : Stack) (ρ : Room) (i r : ℕ) → i ≤ r → r ≤ length s →
    ((j : ℕ) → i ≤ j → j < r → step (at c k ρ) (get_or s j 0) ≡ at c k ρ) → here s c k ρ i ≡ here s c k ρ r
skip s c k ρ i r p q f =
    let e : i + (r - i) ≡ r = omega arith in
    by (r - i) i (omega arith) (λ j x y. f j x (omega arith)) ∙ ap (here s c k ρ) e
  where
    by : (n i : ℕ) → i + n ≤ length s → ((j : ℕ) → i ≤ j → j < i + n → step (at c k ρ) (get_or s j 0) ≡ at c k ρ) →
        here s c k ρ i ≡ here s c k ρ (i + n)
    by zero i h g = let e : i + 0 ≡ i = omega arith in rw e refl
    by (suc n) i h g =
        let e : i + 1 + n ≡ i + suc n = omega arith in
        go_at s i c k ρ c k ρ (omega arith) (g i (omega arith) (omega arith))
        ∙ by n (i + 1) (omega arith) (λ j x y. g j (omega arith) (omega arith)) ∙ ap (here s c k ρ) e
