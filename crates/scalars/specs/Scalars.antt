-- Numbers and literal names (RFC 8259 §3) where a value is due.
use Rattle.std.specs.Prelude.{◌≡◌, List, [], ◌∷◌, Bool, ◌⊎◌, ℕ, ◌+◌, ◌≤◌, ◌<◌, length, get_or}
use Rattle.std.proofs.Math.Path.{refl, sym}
use Rattle.std.proofs.Common.{◌∙◌, inl, inr, ⊎_elim, arith}
use Rattle.std.proofs.Math.Bool.{true, false}
use Rattle.std.proofs.lemmas.Bool.{false≢true}
use Rattle.std.proofs.Math.Option.{none}
use Rattle.bits.specs.Laws.{lt_or_ge}
use Rattle.swar.specs.Kinds.{blank}
use Rattle.json_text.specs.Grammar.{array, object}
use Rattle.json_text.specs.Room.{Room, endless}
use Rattle.json_text.specs.Machine.{Ctl, value_due, after, in_string, word_due, after_minus, after_zero, in_int, Stack, at, one, opens, rules, step}
use Rattle.json_text.specs.MachineLaws.{Picks, past, nowhere, landing, step_range, step_by}
use Rattle.json_text.specs.Led.{Led, led_here, led_go, led_die, led_same, led_on}
use Rattle.scalars.specs.Among.{missed}
use Rattle.scalars.specs.Blanks.{past_blanks}
use Rattle.scalars.specs.Numbers.{NoDigit, over, digit_or_not, no_nonzero, no_zero, Number}

-- a number or a literal name is read from place i on
pub record Scalar (s : List ℕ) (i : ℕ) (ok : Bool) (r : ℕ) : Type 0 where
  pub moved : ok ≡ true → i < r
  pub led : Led s i value_due after ok r

-- a byte that begins neither a string nor a container, and is no blank
pub record Bare (b : ℕ) : Type 0 where
  pub no_blank : blank b ≡ false
  pub no_quote : b ≡ 0x22 → ⊥
  pub no_array : b ≡ 0x5B → ⊥
  pub no_object : b ≡ 0x7B → ⊥

-- the first letter of a literal name, and what it makes due
pub data Begins : ℕ → Ctl → Type 0 where
  true_name : Begins 0x74 (word_due 0x72 (0x75 ∷ 0x65 ∷ []))
  null_name : Begins 0x6E (word_due 0x75 (0x6C ∷ 0x6C ∷ []))
  false_name : Begins 0x66 (word_due 0x61 (0x6C ∷ 0x73 ∷ 0x65 ∷ []))

begins_step : {n : ℕ} {d : Ctl} → Begins n d → (k : Stack) (ρ : Room) {b : ℕ} → b ≡ n → step (at value_due k ρ) b ≡ at d k ρ
unfolding step
begins_step true_name k ρ e = rw e refl
begins_step null_name k ρ e = rw e refl
begins_step false_name k ρ e = rw e refl

-- a byte that begins no value
module _ {b : ℕ} (w : Bare b) (d : NoDigit b) (m : b ≡ 0x2D → ⊥) (f : b ≡ 0x66 → ⊥) (n : b ≡ 0x6E → ⊥) (t : b ≡ 0x74 → ⊥) where
  nothing_begins : Picks (rules value_due none) b none
  nothing_begins =
      past (no_nonzero d)
      (past_blanks value_due
      (one 0x30 after_zero ∷ one 0x2D after_minus ∷ one 0x22 (in_string false) ∷ one 0x66 (word_due 0x61 (0x6C ∷ 0x73 ∷ 0x65 ∷ [])) ∷
      one 0x6E (word_due 0x75 (0x6C ∷ 0x6C ∷ [])) ∷ one 0x74 (word_due 0x72 (0x75 ∷ 0x65 ∷ [])) ∷ opens array ∷ opens object ∷ [])
      w.no_blank
      (past (missed (no_zero d)) (past (missed m) (past (missed w.no_quote)
      (past (missed f) (past (missed n) (past (missed t) (past (missed w.no_array) (past (missed w.no_object) nowhere)))))))))

-- a byte that is neither a sign nor a letter of a literal name is taken as after a minus sign: a digit leads into a number, and others nowhere
module _ {b : ℕ} (w : Bare b) (h : b ≤ 0x39) (m : b ≡ 0x2D → ⊥) (k : Stack) (ρ : Room) where
  digit_alike : 0x30 ≤ b → step (at value_due k ρ) b ≡ step (at after_minus k ρ) b
  unfolding landing step
  digit_alike l = ⊎_elim nought nonzero (lt_or_ge b 0x31)
    where
      nought : b < 0x31 → step (at value_due k ρ) b ≡ step (at after_minus k ρ) b
      nought u = let z : b ≡ 0x30 = omega arith in rw z refl

      nonzero : 0x31 ≤ b → step (at value_due k ρ) b ≡ step (at after_minus k ρ) b
      nonzero u =
          step_range value_due k ρ 0x31 0x39 b (at in_int k ρ) refl u h ∙ sym (step_range after_minus k ρ 0x31 0x39 b (at in_int k ρ) refl u h)

  bare_alike : step (at value_due k ρ) b ≡ step (at after_minus k ρ) b
  bare_alike = by (digit_or_not b)
    where
      by : NoDigit b ⊎ ((0x30 ≤ b) × (b ≤ 0x39)) → step (at value_due k ρ) b ≡ step (at after_minus k ρ) b
      by (inl d) =
          step_by value_due k ρ {o = none} (nothing_begins w d m (λ e. omega arith) (λ e. omega arith) (λ e. omega arith))
          ∙ sym (step_by after_minus k ρ {o = none} (past (no_nonzero d) (past (missed (no_zero d)) nowhere)))
      by (inr d) = digit_alike d.0

module _ {s : List ℕ} {i : ℕ} (h : i < length s) where
  value_here : Led s i value_due value_due true i
  value_here = led_here s i value_due (omega arith)

  -- a number, by its sign or without one
  pub minus_led : get_or s i 0 ≡ 0x2D → Led s i value_due after_minus true (i + 1)
  unfolding step
  minus_led e = led_go value_here after_minus h (λ k ρ. rw e refl)

  pub bare_led : Bare (get_or s i 0) → get_or s i 0 ≤ 0x39 → (get_or s i 0 ≡ 0x2D → ⊥) → Led s i value_due after_minus true i
  bare_led w l m = led_same value_here after_minus h (λ k ρ. bare_alike w l m k ρ)

  -- a literal name
  pub word_begins : {n : ℕ} {d : Ctl} → Begins n d → get_or s i 0 ≡ n → (ok : Bool) (r : ℕ) → Led s (i + 1) d after ok r → Scalar s i ok r
  word_begins {d = d} w e ok r p =
      record { moved = λ x. omega (arith, p.from); led = led_on (led_go value_here d h (λ k ρ. begins_step w k ρ e)) p }

  pub word_wrong :
      Bare (get_or s i 0) → 0x39 < get_or s i 0 → (get_or s i 0 ≡ 0x74 → ⊥) → (get_or s i 0 ≡ 0x6E → ⊥) → (get_or s i 0 ≡ 0x66 → ⊥) → Scalar s i false i
  word_wrong w l t n f =
      record {
        moved = λ e. absurd (false≢true e);
        led = led_die value_here after h (λ k. step_by value_due k endless {o = none} (nothing_begins w (over l) (λ e. omega arith) f n t));
      }

pub number_scalar : {s : List ℕ} {i j : ℕ} → Led s i value_due after_minus true j → (ok : Bool) (r : ℕ) → Number s j ok r → Scalar s i ok r
number_scalar p ok r q = record { moved = λ e. omega (arith, p.from, q.moved e); led = led_on p q.led }
