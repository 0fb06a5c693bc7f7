-- What a stretch of the text does to the verdict, in every container and every room. Assumes nothing.
use Rattle.std.specs.Prelude.{◌≡◌, List, Bool, true, false, ℕ, ◌+◌, ◌≤◌, ◌<◌, length, get_or}
use Rattle.std.proofs.Math.Path.{refl}
use Rattle.std.proofs.Common.{◌∙◌, arith}
use Rattle.encoding.specs.Verdict.{Verdict, refused}
use Rattle.json_text.specs.Room.{Room, endless}
use Rattle.json_text.specs.Machine.{Ctl, Stack, dead, at, step, final}
use Rattle.json_text.specs.CheckLaws.{here, go_at, die_at, end_at, same_at, end_same, skip}

-- the verdict goes on from the control state d at place r, or is ground 5 there
unfoldable pub outcome : Bool → List ℕ → Ctl → Stack → Room → ℕ → Verdict
unfolding here
outcome true s d k ρ r = here s d k ρ r
outcome false s d k ρ r = refused 5 r

-- from the control state c at place i the machine comes to d at place r, or (false) is dead at r
pub record Led (s : List ℕ) (i : ℕ) (c d : Ctl) (ok : Bool) (r : ℕ) : Type 0 where
  pub from : i ≤ r
  pub within : r ≤ length s
  pub same : (k : Stack) (ρ : Room) → here s c k ρ i ≡ outcome ok s d k ρ r

pub led_here : (s : List ℕ) (i : ℕ) (c : Ctl) → i ≤ length s → Led s i c c true i
unfolding outcome
led_here s i c h = record { from = omega arith; within = h; same = λ k ρ. refl }

module _ {s : List ℕ} {i : ℕ} {c d : Ctl} {r : ℕ} (p : Led s i c d true r) where
  -- one byte more
  pub led_go : (d' : Ctl) → r < length s → ((k : Stack) (ρ : Room) → step (at d k ρ) (get_or s r 0) ≡ at d' k ρ) → Led s i c d' true (r + 1)
  unfolding outcome
  led_go d' h f =
      record { from = omega (arith, p.from); within = omega arith; same = λ k ρ. p.same k ρ ∙ go_at s r d k ρ d' k ρ h (f k ρ) }

  -- a dead byte
  pub led_die : (d' : Ctl) → r < length s → ((k : Stack) → step (at d k endless) (get_or s r 0) ≡ dead) → Led s i c d' false r
  unfolding outcome
  led_die d' h f = record { from = p.from; within = p.within; same = λ k ρ. p.same k ρ ∙ die_at s r d k ρ h (f k) }

  -- the end of the bytes, where no value can be at its end
  pub led_end : (d' : Ctl) → length s ≤ r → final d ≡ false → Led s i c d' false r
  unfolding outcome
  led_end d' h f = record { from = p.from; within = p.within; same = λ k ρ. p.same k ρ ∙ end_at s r d k ρ h ∙ rw f refl }

  -- the end of the bytes, where the two control states end alike
  pub led_over : (d' : Ctl) → length s ≤ r → final d ≡ final d' → Led s i c d' true r
  unfolding outcome
  led_over d' h f = record { from = p.from; within = p.within; same = λ k ρ. p.same k ρ ∙ end_same s r d d' k ρ h f }

  -- a control state that takes the next byte alike
  pub led_same : (d' : Ctl) → r < length s → ((k : Stack) (ρ : Room) → step (at d k ρ) (get_or s r 0) ≡ step (at d' k ρ) (get_or s r 0)) →
      Led s i c d' true r
  unfolding outcome
  led_same d' h f = record { from = p.from; within = p.within; same = λ k ρ. p.same k ρ ∙ same_at s r d d' k ρ h (f k) }

  -- a run of bytes that keep the machine where it is
  pub led_skip : (q : ℕ) → r ≤ q → q ≤ length s →
      ((k : Stack) (ρ : Room) (j : ℕ) → r ≤ j → j < q → step (at d k ρ) (get_or s j 0) ≡ at d k ρ) → Led s i c d true q
  unfolding outcome
  led_skip q h l f = record { from = omega (arith, p.from); within = l; same = λ k ρ. p.same k ρ ∙ skip s d k ρ r q h l (f k ρ) }

  -- one stretch and then another
  pub led_on : {d' : Ctl} {ok : Bool} {q : ℕ} → Led s r d d' ok q → Led s i c d' ok q
  unfolding outcome
  led_on q = record { from = omega (arith, p.from, q.from); within = q.within; same = λ k ρ. p.same k ρ ∙ q.same k ρ }

-- where the machine is dead, any control state is said of it
pub led_dead : {s : List ℕ} {i : ℕ} {c d : Ctl} {r : ℕ} (d' : Ctl) → Led s i c d false r → Led s i c d' false r
unfolding outcome
led_dead d' p = record { from = p.from; within = p.within; same = p.same }
