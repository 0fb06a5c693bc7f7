-- Strings (RFC 8259 §7) as the record grammar's machine takes them.
use Rattle.std.specs.Prelude.{◌≡◌, List, [], ◌∷◌, Bool, true, false, ℕ, zero, suc, ◌+◌, ◌-◌, ◌≤◌, ◌<◌, length, get_or}
use Rattle.std.proofs.Math.Path.{refl}
use Rattle.std.proofs.lemmas.Bool.{false≢true}
use Rattle.std.proofs.Math.Option.{some, none}
use Rattle.std.specs.Char.{IsAsciiHexdigit, IsNotAsciiHexdigit}
use Rattle.std.specs.Int.{IsOutOfRange}
use Rattle.std.proofs.Common.{inl, inr, arith}
use Rattle.lanes.specs.Kinds.{plain}
use Rattle.swar.specs.KindLaws as Kinds
use Rattle.swar.specs.KindLaws.{Plain, NotPlain, is_plain}
use Rattle.swar.specs.Run.{Passed}
use Rattle.encoding.specs.Utf8Steps as U
use Rattle.encoding.specs.Utf8Steps.{Due, First, Next, lowest, highest}
use Rattle.encoding.proofs.Utf8At as A
use Rattle.encoding.proofs.Utf8At.{RestAt, ReadsAt, reads_at, scanned_within}
use Rattle.encoding.specs.WideRun as W
use Rattle.encoding.specs.WideRun.{WideAt, WideRun}
use Rattle.encoding.proofs.WideRunLaws.{run_moved}
use Rattle.json_text.specs.Room.{Room, endless}
use Rattle.json_text.specs.Machine.{Ctl, in_string, escaping, hex_due, closed, Stack, State, at, dead, one, span, hex_rules, rules, step, final}
use Rattle.json_text.specs.MachineLaws.{inside, past, nowhere, landing, step_range, step_by}
use Rattle.json_text.specs.Led.{Led, led_here, led_go, led_die, led_end, led_skip, led_on, led_dead}
use Rattle.scalars.specs.Among.{Among, among_step, among_past, topped, over_all}
use Rattle.moves.specs.Moves.{escape_letters, tails}

-- the machine is led so in a value's string and in a member's name
abbrev pub LedBoth : List ℕ → ℕ → (c d : Bool → Ctl) → Bool → ℕ → Type 0
LedBoth s i c d ok r = (f : Bool) → Led s i (c f) (d f) ok r

-- characters of a string are read from place i on
pub record Character (s : List ℕ) (i : ℕ) (ok : Bool) (r : ℕ) : Type 0 where
  pub moved : ok ≡ true → i < r
  pub led : LedBoth s i in_string in_string ok r

-- plain bytes, the closing quote, a backslash, and what is no byte of a string
module _ (f : Bool) (k : Stack) (ρ : Room) where
  plain_step : {b : ℕ} → Plain b → step (at (in_string f) k ρ) b ≡ at (in_string f) k ρ
  unfolding landing
  plain_step {b} (Kinds.low l h) = step_range (in_string f) k ρ 0x20 0x21 b (at (in_string f) k ρ) refl l h
  plain_step {b} (Kinds.mid l h) = step_range (in_string f) k ρ 0x23 0x5B b (at (in_string f) k ρ) refl l h
  plain_step {b} (Kinds.high l h) = step_range (in_string f) k ρ 0x5D 0x7F b (at (in_string f) k ρ) refl l h

  quote_step : {b : ℕ} → b ≡ 0x22 → step (at (in_string f) k ρ) b ≡ at (closed f) k ρ
  unfolding step
  quote_step e = rw e refl

  backslash_step : {b : ℕ} → b ≡ 0x5C → step (at (in_string f) k ρ) b ≡ at (escaping f) k ρ
  unfolding step
  backslash_step e = rw e refl

  control_dead : {b : ℕ} → b < 0x20 → step (at (in_string f) k ρ) b ≡ dead
  unfolding landing
  control_dead {b} h = step_range (in_string f) k ρ 0x00 0x1F b dead refl (omega arith) (omega arith)

-- a run of plain bytes
pub led_plain : {s : List ℕ} {a : ℕ} {c : Ctl} {f : Bool} {i r : ℕ} → Led s a c (in_string f) true i → Passed plain s i r → Led s a c (in_string f) true r
led_plain {s} {f = f} {r = r} p g =
    led_skip p r g.forward g.within (λ k ρ j x y. plain_step f k ρ (is_plain (g.each j x y)))

-- escapes
module _ {s : List ℕ} {i : ℕ} (h : i < length s) (f : Bool) where
  escape_here : Led s i (escaping f) (escaping f) true i
  escape_here = led_here s i (escaping f) (omega arith)

  pub escape_letter : Among escape_letters (get_or s i 0) true → Led s i (escaping f) (in_string f) true (i + 1)
  escape_letter x = led_go escape_here (in_string f) h (λ k ρ. among_step (escaping f) (in_string f) (one 0x75 (hex_due 3 f) ∷ []) k refl ρ x)

  pub escape_wrong : Among escape_letters (get_or s i 0) false → (get_or s i 0 ≡ 0x75 → ⊥) → Led s i (escaping f) (in_string f) false i
  escape_wrong x n =
      led_die escape_here (in_string f) h
      (λ k. step_by (escaping f) k endless {o = none} (among_past (in_string f) (one 0x75 (hex_due 3 f) ∷ []) x (past (λ l u. n (omega arith)) nowhere)))

  pub escape_hex : get_or s i 0 ≡ 0x75 → {ok : Bool} {r : ℕ} → Led s (i + 1) (hex_due 3 f) (in_string f) ok r → Led s i (escaping f) (in_string f) ok r
  unfolding step
  escape_hex e p = led_on (led_go escape_here (hex_due 3 f) h (λ k ρ. rw e refl)) p

-- so many hexadecimal digits are due
abbrev pub hex_left : ℕ → Bool → Ctl
hex_left zero f = in_string f
hex_left (suc n) f = hex_due n f

-- a range of bytes that hexadecimal digits take alike
hex_range : (n : ℕ) (f : Bool) (k : Stack) (ρ : Room) (lo hi b : ℕ) (st : State) → landing lo hi (hex_rules (hex_left n f)) k ρ ≡ some st → lo ≤ b →
    b ≤ hi → step (at (hex_due n f) k ρ) b ≡ st
hex_range zero f k ρ lo hi b st e l h = step_range (hex_due zero f) k ρ lo hi b st e l h
hex_range (suc n) f k ρ lo hi b st e l h = step_range (hex_due (suc n) f) k ρ lo hi b st e l h

hex_above : (n : ℕ) (f : Bool) (k : Stack) (ρ : Room) (b : ℕ) → 0x66 < b → step (at (hex_due n f) k ρ) b ≡ dead
unfolding topped
hex_above zero f k ρ b h = step_by (hex_due zero f) k ρ {o = none} (over_all (hex_rules (in_string f)) 0x66 b tt h)
hex_above (suc n) f k ρ b h = step_by (hex_due (suc n) f) k ρ {o = none} (over_all (hex_rules (hex_due n f)) 0x66 b tt h)

module _ (n : ℕ) (f : Bool) (k : Stack) (ρ : Room) (b : ℕ) where
  hex_step : IsAsciiHexdigit b → step (at (hex_due n f) k ρ) b ≡ at (hex_left n f) k ρ
  unfolding landing
  hex_step (inl (inl d)) = hex_range n f k ρ 0x30 0x39 b (at (hex_left n f) k ρ) refl d.0 d.1
  hex_step (inl (inr d)) = hex_range n f k ρ 0x41 0x46 b (at (hex_left n f) k ρ) refl d.0 d.1
  hex_step (inr d) = hex_range n f k ρ 0x61 0x66 b (at (hex_left n f) k ρ) refl d.0 d.1

  hex_dead : IsNotAsciiHexdigit b → step (at (hex_due n f) k ρ) b ≡ dead
  unfolding landing
  hex_dead x = by x.0.0 x.0.1 x.1
    where
      by : IsOutOfRange 0x30 0x39 b → IsOutOfRange 0x41 0x46 b → IsOutOfRange 0x61 0x66 b → step (at (hex_due n f) k ρ) b ≡ dead
      by (inl h) p q = hex_range n f k ρ 0x00 0x2F b dead refl (omega arith) (omega arith)
      by (inr l) (inl h) q = hex_range n f k ρ 0x3A 0x40 b dead refl (omega arith) (omega arith)
      by (inr o) (inr l) (inl h) = hex_range n f k ρ 0x47 0x60 b dead refl (omega arith) (omega arith)
      by (inr o) (inr p) (inr l) = hex_above n f k ρ b l

-- four are due at first; where some are left, one is; and where none is, the string goes on
pub hex_start : {s : List ℕ} {i : ℕ} (f : Bool) (n : ℕ) → n ≡ 4 → i ≤ length s → Led s i (hex_due 3 f) (hex_left n f) true i
hex_start {s} {i} f n e h = rw e (led_here s i (hex_due 3 f) h)

module _ {s : List ℕ} {a : ℕ} {c : Ctl} (f : Bool) (n : ℕ) {i : ℕ} (p : Led s a c (hex_left n f) true i) where
  module _ (l : 0 < n) where
    pub hex_next : Led s a c (hex_due (n - 1) f) true i
    hex_next = let e : n ≡ suc (n - 1) = omega arith in rw e at p

    pub hex_end_lem : length s ≤ i → Led s a c (in_string f) false i
    hex_end_lem h = led_end hex_next (in_string f) h refl

    pub hex_wrong : i < length s → IsNotAsciiHexdigit (get_or s i 0) → Led s a c (in_string f) false i
    hex_wrong h x = led_die hex_next (in_string f) h (λ k. hex_dead (n - 1) f k endless (get_or s i 0) x)

    pub hex_more : i < length s → IsAsciiHexdigit (get_or s i 0) → (m : ℕ) → m ≡ n - 1 → Led s a c (hex_left m f) true (i + 1)
    hex_more h x m e = rw e (led_go hex_next (hex_left (n - 1) f) h (λ k ρ. hex_step (n - 1) f k ρ (get_or s i 0) x))

  pub hex_done : n ≡ 0 → {j : ℕ} → i ≡ j → Led s a c (in_string f) true j
  hex_done z e = rw (z, e) at p

-- code points from 80 (hexadecimal) on

module _ (f : Bool) (k : Stack) (ρ : Room) {b : ℕ} where
  first_step : {d : Due} → First b d → step (at (in_string f) k ρ) b ≡ at (tails d f) k ρ
  unfolding landing
  first_step (U.in_c2_df l h) = step_range (in_string f) k ρ 0xC2 0xDF b (at (tails U.one f) k ρ) refl l h
  first_step (U.in_e0 l h) = step_range (in_string f) k ρ 0xE0 0xE0 b (at (tails U.due_e0 f) k ρ) refl l h
  first_step (U.in_e1_ec l h) = step_range (in_string f) k ρ 0xE1 0xEC b (at (tails U.two f) k ρ) refl l h
  first_step (U.in_ed l h) = step_range (in_string f) k ρ 0xED 0xED b (at (tails U.due_ed f) k ρ) refl l h
  first_step (U.in_ee_ef l h) = step_range (in_string f) k ρ 0xEE 0xEF b (at (tails U.two f) k ρ) refl l h
  first_step (U.in_f0 l h) = step_range (in_string f) k ρ 0xF0 0xF0 b (at (tails U.due_f0 f) k ρ) refl l h
  first_step (U.in_f1_f3 l h) = step_range (in_string f) k ρ 0xF1 0xF3 b (at (tails U.three f) k ρ) refl l h
  first_step (U.in_f4 l h) = step_range (in_string f) k ρ 0xF4 0xF4 b (at (tails U.due_f4 f) k ρ) refl l h

  too_low_dead : 0x80 ≤ b → b < 0xC2 → step (at (in_string f) k ρ) b ≡ dead
  unfolding landing
  too_low_dead l h = step_range (in_string f) k ρ 0x80 0xC1 b dead refl l (omega arith)

  too_high_dead : 0xF4 < b → step (at (in_string f) k ρ) b ≡ dead
  unfolding topped
  too_high_dead h = step_by (in_string f) k ρ {o = none} (over_all (rules (in_string f) none) 0xF4 b tt h)

  next_step : {d e : Due} → Next d e → lowest d ≤ b → b ≤ highest d → step (at (tails d f) k ρ) b ≡ at (tails e f) k ρ
  next_step U.three_two l h = step_by (tails U.three f) k ρ {o = some (span 0x80 0xBF (tails U.two f))} (inside l h)
  next_step U.two_one l h = step_by (tails U.two f) k ρ {o = some (span 0x80 0xBF (tails U.one f))} (inside l h)
  next_step U.e0_one l h = step_by (tails U.due_e0 f) k ρ {o = some (span 0xA0 0xBF (tails U.one f))} (inside l h)
  next_step U.ed_one l h = step_by (tails U.due_ed f) k ρ {o = some (span 0x80 0x9F (tails U.one f))} (inside l h)
  next_step U.f0_two l h = step_by (tails U.due_f0 f) k ρ {o = some (span 0x90 0xBF (tails U.two f))} (inside l h)
  next_step U.f4_two l h = step_by (tails U.due_f4 f) k ρ {o = some (span 0x80 0x8F (tails U.two f))} (inside l h)

  last_step : 0x80 ≤ b → b ≤ 0xBF → step (at (tails U.one f) k ρ) b ≡ at (in_string f) k ρ
  last_step l h = step_by (tails U.one f) k ρ {o = some (span 0x80 0xBF (in_string f))} (inside l h)

  -- a byte out of the bounds
  out_dead : (d : Due) → (lowest d ≤ b → b ≤ highest d → ⊥) → step (at (tails d f) k ρ) b ≡ dead
  out_dead U.one n = step_by (tails U.one f) k ρ {o = none} (past n nowhere)
  out_dead U.two n = step_by (tails U.two f) k ρ {o = none} (past n nowhere)
  out_dead U.three n = step_by (tails U.three f) k ρ {o = none} (past n nowhere)
  out_dead U.due_e0 n = step_by (tails U.due_e0 f) k ρ {o = none} (past n nowhere)
  out_dead U.due_ed n = step_by (tails U.due_ed f) k ρ {o = none} (past n nowhere)
  out_dead U.due_f0 n = step_by (tails U.due_f0 f) k ρ {o = none} (past n nowhere)
  out_dead U.due_f4 n = step_by (tails U.due_f4 f) k ρ {o = none} (past n nowhere)

tails_final : (d : Due) (f : Bool) → final (tails d f) ≡ false
tails_final U.one f = refl
tails_final U.two f = refl
tails_final U.three f = refl
tails_final U.due_e0 f = refl
tails_final U.due_ed f = refl
tails_final U.due_f0 f = refl
tails_final U.due_f4 f = refl

led_tails : {s : List ℕ} {a : ℕ} {c : Ctl} (f : Bool) {d : Due} {i : ℕ} {ok : Bool} {r : ℕ} → Led s a c (tails d f) true i → RestAt s d i ok r →
    Led s a c (in_string f) ok r
led_tails f p (A.cut {d} h) = led_end p (in_string f) h (tails_final d f)
led_tails f p (A.under {d} h l) = led_die p (in_string f) h (λ k. out_dead f k endless d (λ x y. omega arith))
led_tails f p (A.over {d} h l) = led_die p (in_string f) h (λ k. out_dead f k endless d (λ x y. omega arith))
led_tails f p (A.last h l u) = led_go p (in_string f) h (λ k ρ. last_step f k ρ l u)
led_tails f p (A.next {e = e} n h l u q) = led_tails f (led_go p (tails e f) h (λ k ρ. next_step f k ρ n l u)) q

-- a code point from 80 on is read where a byte from 80 on stands
point_led : {s : List ℕ} {i : ℕ} {ok : Bool} {r : ℕ} (f : Bool) → WideAt s i → ReadsAt s i ok r → Led s i (in_string f) (in_string f) ok r
point_led {s} {i} f w q = by q
  where
    start : Led s i (in_string f) (in_string f) true i
    start = led_here s i (in_string f) (omega (arith, w.inside))

    by : {ok : Bool} {r : ℕ} → ReadsAt s i ok r → Led s i (in_string f) (in_string f) ok r
    by (A.cut l) = absurd (omega (arith, w.inside))
    by (A.too_low l u) = led_die start (in_string f) l (λ k. too_low_dead f k endless w.from_80 u)
    by (A.too_high l u) = led_die start (in_string f) l (λ k. too_high_dead f k endless u)
    by (A.first {d} l x t) = led_tails f (led_go start (tails d f) l (λ k ρ. first_step f k ρ x)) t

-- and so are those after it
run_led : {s : List ℕ} {i : ℕ} {ok : Bool} {r : ℕ} (f : Bool) → i ≤ length s → WideRun s i ok r → Led s i (in_string f) (in_string f) ok r
run_led {s} {i} f h (W.over l) = led_here s i (in_string f) h
run_led {s} {i} f h (W.narrow l) = led_here s i (in_string f) h
run_led f h (W.broken w p) = point_led f w (reads_at p)
run_led f h (W.more w p q) = led_on (point_led f w (reads_at p)) (run_led f (scanned_within p h) q)

pub wide_characters : {s : List ℕ} {i : ℕ} {ok : Bool} {r : ℕ} → WideAt s i → WideRun s i ok r → Character s i ok r
wide_characters w q = record { moved = λ e. run_moved q w e; led = λ f. run_led f (omega (arith, w.inside)) q }

-- an escape, and a byte that no string has
module _ {s : List ℕ} {i : ℕ} (h : i < length s) where
  pub escaped_character : get_or s i 0 ≡ 0x5C → {ok : Bool} {r : ℕ} → LedBoth s (i + 1) escaping in_string ok r → Character s i ok r
  escaped_character e p =
      record {
        moved = λ x. omega (arith, (p true).from);
        led = λ f. led_on (led_go (led_here s i (in_string f) (omega arith)) (escaping f) h (λ k ρ. backslash_step f k ρ e)) (p f);
      }

  pub wrong_character :
      NotPlain (get_or s i 0) → (get_or s i 0 ≡ 0x22 → ⊥) → get_or s i 0 < 0x80 → (get_or s i 0 ≡ 0x5C → ⊥) → Character s i false i
  wrong_character x q l n =
      record {
        moved = λ e. absurd (false≢true e);
        led = λ f. led_die (led_here s i (in_string f) (omega arith)) (in_string f) h (λ k. control_dead f k endless (by x));
      }
    where
      by : NotPlain (get_or s i 0) → get_or s i 0 < 0x20
      by (Kinds.control u) = u
      by (Kinds.quote e) = absurd (q e)
      by (Kinds.backslash e) = absurd (n e)
      by (Kinds.wide u) = absurd (omega arith)

-- the closing quote, and the end of the bytes before it
module _ {s : List ℕ} {a : ℕ} {c : Ctl} {f : Bool} {i : ℕ} (p : Led s a c (in_string f) true i) where
  pub string_closed : i < length s → get_or s i 0 ≡ 0x22 → Led s a c (closed f) true (i + 1)
  string_closed h e = led_go p (closed f) h (λ k ρ. quote_step f k ρ e)

  pub string_open : length s ≤ i → Led s a c (closed f) false i
  string_open h = led_end p (closed f) h refl

  -- more characters
  pub string_on : {r : ℕ} → Character s i true r → Led s a c (in_string f) true r
  string_on x = led_on p (x.led f)

  pub string_wrong : {r : ℕ} → Character s i false r → Led s a c (closed f) false r
  string_wrong x = led_on p (led_dead (closed f) (x.led f))
