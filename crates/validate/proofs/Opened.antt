-- A container that was just opened: where nothing closes it, its first item is due as any other. Assumes nothing.
use Rattle.std.specs.Prelude.{◌≡◌, refl, List, [], ◌∷◌, ◌++◌, ℕ, ◌≤◌, ◌<◌, length, get_or}
use Rattle.std.proofs.Math.Path.{ap}
use Rattle.std.proofs.Common.{sym, ◌∙◌}
use Rattle.std.proofs.Math.Bool.{true, false}
use Rattle.encoding.specs.Bytes.{Blank, space, tab, feed, return, blank_byte}
use Rattle.swar.specs.Kinds.{blank}
use Rattle.swar.specs.KindLaws.{not_blank}
use Rattle.json_text.specs.Grammar.{Kind, array, object, closing}
use Rattle.json_text.specs.Room.{Room}
use Rattle.json_text.specs.Machine.{Ctl, item, in_string, word_due, after_minus, after_zero, in_int, Stack, State, at, Rule, one, span, opens, closes, takes, apply, blank_rules, pick, step}
use Rattle.json_text.specs.MachineLaws.{pick_later, apart_takes}
use Rattle.json_text.specs.Led.{Led, led_here, led_over, led_same}
use Rattle.scalars.specs.Among.{AmongAt, byte, nothing, other, no_more, missed}

module _ (b : ℕ) (k : Stack) (ρ : Room) where
  one_past : (n : ℕ) (c : Ctl) (rs : List Rule) → (b ≡ n → ⊥) → pick (one n c ∷ rs) b k ρ ≡ pick rs b k ρ
  one_past n c rs f = pick_later (one n c) rs b k ρ (apart_takes (one n c) b (missed f))

  blanks_past : (c : Ctl) (rs : List Rule) → blank b ≡ false → pick (blank_rules c rs) b k ρ ≡ pick rs b k ρ
  blanks_past c rs e =
      one_past 0x20 c (one 0x0A c ∷ one 0x0D c ∷ one 0x09 c ∷ rs) (none space)
      ∙ one_past 0x0A c (one 0x0D c ∷ one 0x09 c ∷ rs) (none feed)
      ∙ one_past 0x0D c (one 0x09 c ∷ rs) (none return)
      ∙ one_past 0x09 c rs (none tab)
    where
      none : (w : Blank) → b ≡ blank_byte w → ⊥
      none = not_blank e

  -- the same rule before two lists of rules that pick alike
  same_after : (r : Rule) (rs qs : List Rule) → pick rs b k ρ ≡ pick qs b k ρ → pick (r ∷ rs) b k ρ ≡ pick (r ∷ qs) b k ρ
  unfolding pick
  same_after r rs qs e = ap (λ (st : State). elim (takes r b) as (λ _. State) [ true ↦ apply r k ρ | false ↦ st ]) e

  end_past : (x : Kind) (rs : List Rule) → (b ≡ closing x → ⊥) → pick (rs ++ closes x ∷ []) b k ρ ≡ pick rs b k ρ
  end_past x [] n = pick_later (closes x) [] b k ρ (apart_takes (closes x) b (missed n))
  end_past x (r ∷ rs) n = same_after r (rs ++ closes x ∷ []) rs (end_past x rs n)

-- the rules of an item, but for the first of an array's, for blanks and for the closing bracket
abbrev item_rules : Kind → List Rule
item_rules array =
    one 0x30 after_zero ∷ one 0x2D after_minus ∷ one 0x22 (in_string false) ∷
    one 0x66 (word_due 0x61 (0x6C ∷ 0x73 ∷ 0x65 ∷ [])) ∷ one 0x6E (word_due 0x75 (0x6C ∷ 0x6C ∷ [])) ∷ one 0x74 (word_due 0x72 (0x75 ∷ 0x65 ∷ [])) ∷
    opens array ∷ opens object ∷ []
item_rules object = one 0x22 (in_string true) ∷ []

module _ (b : ℕ) (e : blank b ≡ false) (k : Stack) (ρ : Room) where
  rest_alike : (x : Kind) → (b ≡ closing x → ⊥) → pick (blank_rules (item x true) (item_rules x ++ closes x ∷ [])) b k ρ ≡ pick (blank_rules (item x false) (item_rules x)) b k ρ
  rest_alike x n =
      blanks_past b k ρ (item x true) (item_rules x ++ closes x ∷ []) e ∙ end_past b k ρ x (item_rules x) n
      ∙ sym (blanks_past b k ρ (item x false) (item_rules x) e)

  opened_alike : (x : Kind) → (b ≡ closing x → ⊥) → step (at (item x true) k ρ) b ≡ step (at (item x false) k ρ) b
  unfolding step
  opened_alike array n =
      same_after b k ρ (span 0x31 0x39 in_int) (blank_rules (item array true) (item_rules array ++ closes array ∷ []))
      (blank_rules (item array false) (item_rules array)) (rest_alike array n)
  opened_alike object n = rest_alike object n

pub led_opened : {s : List ℕ} {i : ℕ} (x : Kind) {close : ℕ} → close ≡ closing x → i ≤ length s → (i < length s → blank (get_or s i 0) ≡ false) →
    AmongAt (close ∷ []) s i false → Led s i (item x true) (item x false) true i
led_opened {s} {i} x c l f (byte h (other n no_more)) =
    led_same (led_here s i (item x true) l) (item x false) h (λ k ρ. opened_alike (get_or s i 0) (f h) k ρ x (λ e. n (e ∙ sym c)))
led_opened {s} {i} x c l f (nothing h) = led_over (led_here s i (item x true) l) (item x false) h refl
