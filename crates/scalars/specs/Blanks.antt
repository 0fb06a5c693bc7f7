-- Blanks (RFC 8259 §2) as the record grammar's machine passes them.
use Rattle.std.specs.Prelude.{◌≡◌, List, Bool, true, false, ℕ, get_or}
use Rattle.std.proofs.Math.Option.{Option}
use Rattle.encoding.specs.Bytes.{Blank, space, tab, feed, return, blank_byte}
use Rattle.swar.specs.Kinds.{blank}
use Rattle.swar.specs.KindLaws.{is_blank, not_blank}
use Rattle.swar.specs.Run.{Passed}
use Rattle.json_text.specs.Grammar.{Kind}
use Rattle.json_text.specs.Room.{Room}
use Rattle.json_text.specs.Machine.{Ctl, item, colon, after, Stack, at, Rule, blank_rules, step}
use Rattle.json_text.specs.MachineLaws.{Picks, past, item_blank, colon_blank, after_blank}
use Rattle.json_text.specs.Led.{Led, led_skip}
use Rattle.scalars.specs.Among.{missed}

-- the control states that pass blanks
pub data Loose : Ctl → Type 0 where
  at_item : (x : Kind) (f : Bool) → Loose (item x f)
  at_colon : Loose colon
  at_after : Loose after

loose_step : {c : Ctl} → Loose c → (k : Stack) (ρ : Room) (w : Blank) → step (at c k ρ) (blank_byte w) ≡ at c k ρ
loose_step (at_item x f) k ρ w = item_blank x f k ρ w
loose_step at_colon k ρ w = colon_blank k ρ w
loose_step at_after k ρ w = after_blank k ρ w

blank_step : {c : Ctl} → Loose c → (k : Stack) (ρ : Room) (b : ℕ) → blank b ≡ true → step (at c k ρ) b ≡ at c k ρ
blank_step l k ρ b e = let w = is_blank e in rw w.1 (loose_step l k ρ w.0)

-- a run of blanks
pub led_blanks : {s : List ℕ} {a : ℕ} {c d : Ctl} {i r : ℕ} → Loose d → Led s a c d true i → Passed blank s i r → Led s a c d true r
led_blanks {s} {r = r} l p g = led_skip p r g.forward g.within (λ k ρ j x y. blank_step l k ρ (get_or s j 0) (g.each j x y))

-- no rule for blanks has a byte that is none
pub past_blanks : {b : ℕ} {o : Option Rule} (c : Ctl) (rs : List Rule) → blank b ≡ false → Picks rs b o → Picks (blank_rules c rs) b o
past_blanks {b} c rs e p =
    past (missed (none space)) (past (missed (none feed)) (past (missed (none return)) (past (missed (none tab)) p)))
  where
    none : (w : Blank) → b ≡ blank_byte w → ⊥
    none = not_blank e
