-- Literal names (RFC 8259 §3) as the record grammar's machine takes them.
use Rattle.std.specs.Prelude.{◌≡◌, refl, List, [], ◌∷◌, true, false, ℕ, ◌+◌}
use Rattle.std.proofs.Math.Option.{none}
use Rattle.json_text.specs.Room.{endless}
use Rattle.json_text.specs.Machine.{Ctl, word_due, after, Stack, top, rules}
use Rattle.json_text.specs.MachineLaws.{nowhere, step_by}
use Rattle.json_text.specs.Led.{Led, led_go, led_die, led_end}
use Rattle.scalars.specs.Among.{each, AmongAt, byte, nothing, among_past, among_step}

-- what is due after a letter of a literal name, by the letters after it
abbrev pub letters_due : List ℕ → Ctl
letters_due [] = after
letters_due (b ∷ bs) = word_due b bs

word_rules : (b : ℕ) (bs : List ℕ) (k : Stack) → rules (word_due b bs) (top k) ≡ each (b ∷ []) (letters_due bs) []
word_rules b [] k = refl
word_rules b (b' ∷ bs) k = refl

-- the next letter stands there, or it does not
module _ {s : List ℕ} {a : ℕ} {c : Ctl} {b : ℕ} {bs : List ℕ} {i : ℕ} (p : Led s a c (word_due b bs) true i) where
  pub letter_led : AmongAt (b ∷ []) s i true → Led s a c (letters_due bs) true (i + 1)
  letter_led (byte h x) = led_go p (letters_due bs) h (λ k ρ. among_step (word_due b bs) (letters_due bs) [] k (word_rules b bs k) ρ x)

  pub letter_dead : AmongAt (b ∷ []) s i false → (d : Ctl) → Led s a c d false i
  letter_dead (byte h x) d =
      led_die p d h (λ k. step_by (word_due b bs) k endless {o = none} (rw (word_rules b bs k) (among_past (letters_due bs) [] x nowhere)))
  letter_dead (nothing h) d = led_end p d h refl
