-- Numbers (RFC 8259 §6) as the record grammar's machine takes them.
use Rattle.std.specs.Prelude.{◌≡◌, List, [], ◌∷◌, ◌++◌, Bool, true, false, not, ◌⊎◌, ℕ, ◌+◌, ◌≤◌, ◌<◌, length, get_or}
use Rattle.std.proofs.Math.Path.{refl}
use Rattle.std.proofs.Common.{sym, ◌∙◌, append_assoc, true≢false, inl, inr, ⊎_elim, arith}
use Rattle.std.proofs.lemmas.Bool.{false≢true, not-false}
use Rattle.std.proofs.Math.Option.{Option, some, none}
use Rattle.bits.specs.Laws.{lt_or_ge}
use Rattle.encoding.specs.BytesLaws.{beneath, beyond}
use Rattle.encoding.specs.BytesLaws as BytesLaws
use Rattle.lanes.specs.Kinds.{digit}
use Rattle.swar.specs.Run.{Passed, Run}
use Rattle.swar.specs.Passing.{one_more}
use Rattle.json_text.specs.Grammar.{Kind}
use Rattle.json_text.specs.Room.{Room, endless}
use Rattle.json_text.specs.Machine.{Ctl, after, after_minus, after_zero, in_int, after_point, in_frac, after_e, after_sign, in_exp, Stack, top, at, dead, Rule, one, span, after_rules, rules, step, final}
use Rattle.json_text.specs.MachineLaws.{Picks, past, nowhere, landing, step_range, step_by, step_over}
use Rattle.scalars.specs.Among.{Among, this, other, no_more, AmongAt, byte, nothing, missed, each, among_picks, among_past, among_within, among_byte}
use Rattle.json_text.specs.Led.{Led, led_here, led_go, led_die, led_end, led_over, led_same, led_skip, led_on}

-- a byte that is none
pub data NoDigit (b : ℕ) : Type 0 where
  under : b < 0x30 → NoDigit b
  over : 0x39 < b → NoDigit b

pub digit_or_not : (b : ℕ) → NoDigit b ⊎ ((0x30 ≤ b) × (b ≤ 0x39))
digit_or_not b =
    ⊎_elim (λ (below : b < 0x30). inl (under below)) (λ (from : 0x30 ≤ b).
    ⊎_elim (λ (above : 0x39 < b). inl (over above)) (λ (to : b ≤ 0x39). inr (from, to)) (lt_or_ge 0x39 b)) (lt_or_ge b 0x30)

module _ (b : ℕ) where
  pub digit_holds : 0x30 ≤ b → b ≤ 0x39 → digit b ≡ true
  unfolding digit
  digit_holds l h = BytesLaws.inside 0x30 0x39 b l h

  pub digit_fails : NoDigit b → digit b ≡ false
  unfolding digit
  digit_fails (under h) = beneath 0x30 0x39 b h
  digit_fails (over h) = beyond 0x30 0x39 b h

  pub is_digit : digit b ≡ true → (0x30 ≤ b) × (b ≤ 0x39)
  is_digit e = ⊎_elim (λ n. absurd (true≢false (sym e ∙ digit_fails n))) (λ d. d) (digit_or_not b)

  pub not_digit : digit b ≡ false → NoDigit b
  not_digit e = ⊎_elim (λ n. n) (λ d. absurd (true≢false (sym (digit_holds d.0 d.1) ∙ e))) (digit_or_not b)

-- whether a digit stands at place i
pub record DigitAt (s : List ℕ) (i : ℕ) (r : Bool) : Type 0 where
  pub inside : r ≡ true → i < length s
  pub is : i < length s → digit (get_or s i 0) ≡ r

module _ {s : List ℕ} {i : ℕ} where
  pub digit_stands : i < length s → 0x30 ≤ get_or s i 0 → get_or s i 0 ≤ 0x39 → DigitAt s i true
  digit_stands h l u = record { inside = λ e. h; is = λ x. digit_holds _ l u }

  pub no_digit_stands : (i < length s → NoDigit (get_or s i 0)) → DigitAt s i false
  no_digit_stands n = record { inside = λ e. absurd (false≢true e); is = λ h. digit_fails _ (n h) }

pub digit_inside : {s : List ℕ} {i : ℕ} {r : Bool} → DigitAt s i r → not r ≡ false → i < length s
digit_inside {r = r} d e = d.inside (not-false r e)

-- a run of digits goes on with one, and ends where none stands
module _ {s : List ℕ} {i : ℕ} {r : Bool} (d : DigitAt s i r) {from : ℕ} (p : Passed digit s from i) where
  pub digit_more : r ≡ true → Passed digit s from (i + 1)
  digit_more e = one_more p (d.inside e) (d.is (d.inside e) ∙ e)

  pub digits_stop : r ≡ false → Run digit s from i
  digits_stop e = record { passed = p; stop = λ h. d.is h ∙ e }

-- the control states in which digits keep the machine
pub data Digit : Ctl → Type 0 where
  int : Digit in_int
  frac : Digit in_frac
  exp : Digit in_exp

digit_step : {c : Ctl} → Digit c → (k : Stack) (ρ : Room) (b : ℕ) → 0x30 ≤ b → b ≤ 0x39 → step (at c k ρ) b ≡ at c k ρ
unfolding landing
digit_step int k ρ b l h = step_range in_int k ρ 0x30 0x39 b (at in_int k ρ) refl l h
digit_step frac k ρ b l h = step_range in_frac k ρ 0x30 0x39 b (at in_frac k ρ) refl l h
digit_step exp k ρ b l h = step_range in_exp k ρ 0x30 0x39 b (at in_exp k ρ) refl l h

pub led_digits : {s : List ℕ} {a : ℕ} {c d : Ctl} {i r : ℕ} → Digit d → Led s a c d true i → Passed digit s i r → Led s a c d true r
led_digits {s} {r = r} w p g =
    led_skip p r g.forward g.within
    (λ k ρ j x y. let e = is_digit (get_or s j 0) (g.each j x y) in digit_step w k ρ (get_or s j 0) e.0 e.1)

-- none of the rules has the byte at place i
abbrev pub Unpicked : List Rule → List ℕ → ℕ → Type 0
Unpicked rs s i = i < length s → Picks rs (get_or s i 0) none

-- the control states in which the whole part of a number may be at its end, each with its rules for more of it
pub data Whole : Ctl → List Rule → Type 0 where
  zero : Whole after_zero []
  int : Whole in_int (span 0x30 0x39 in_int ∷ [])

-- the control states in which the digits of a number may be at their end, each with its rules for what may follow them, but for an exponent
pub data Ends : Ctl → List Rule → Type 0 where
  zero : Ends after_zero (one 0x2E after_point ∷ [])
  int : Ends in_int (span 0x30 0x39 in_int ∷ one 0x2E after_point ∷ [])
  frac : Ends in_frac (span 0x30 0x39 in_frac ∷ [])

-- from the control state c at place a the machine has come to place i, where the whole part, or the digits, are at their end
pub data WholeAt (s : List ℕ) (a : ℕ) (c : Ctl) (i : ℕ) : Type 0 where
  whole : {d : Ctl} {rs : List Rule} → Whole d rs → Led s a c d true i → Unpicked rs s i → WholeAt s a c i

pub data EndAt (s : List ℕ) (a : ℕ) (c : Ctl) (i : ℕ) : Type 0 where
  digits : {d : Ctl} {rs : List Rule} → Ends d rs → Led s a c d true i → Unpicked rs s i → EndAt s a c i

-- the whole part of a number stands from place i up to place r, or there is none and r is i
pub record WholePart (s : List ℕ) (i r : ℕ) : Type 0 where
  pub forward : i ≤ r
  pub within : r ≤ length s
  pub none : r ≡ i → Led s i after_minus after false i
  pub some : (r ≡ i → ⊥) → WholeAt s i after_minus r

-- a fraction or none is read from place i on
pub record Fraction (s : List ℕ) (i : ℕ) (ok : Bool) (r : ℕ) : Type 0 where
  pub forward : i ≤ r
  pub within : r ≤ length s
  pub refused : ok ≡ false → {a : ℕ} {c : Ctl} → WholeAt s a c i → Led s a c after false r
  pub ended : ok ≡ true → {a : ℕ} {c : Ctl} → WholeAt s a c i → EndAt s a c r

-- an exponent or nothing is read from place i on
pub record Exponent (s : List ℕ) (i : ℕ) (ok : Bool) (r : ℕ) : Type 0 where
  pub forward : i ≤ r
  pub led : {a : ℕ} {c : Ctl} → EndAt s a c i → Led s a c after ok r

-- a number that has no sign, or what follows the sign, is read from place i on
pub record Number (s : List ℕ) (i : ℕ) (ok : Bool) (r : ℕ) : Type 0 where
  pub moved : ok ≡ true → i < r
  pub led : Led s i after_minus after ok r

-- laws

no_digit : {b : ℕ} → NoDigit b → 0x30 ≤ b → b ≤ 0x39 → ⊥
no_digit (under h) p q = omega arith
no_digit (over h) p q = omega arith

pub no_nonzero : {b : ℕ} → NoDigit b → 0x31 ≤ b → b ≤ 0x39 → ⊥
no_nonzero n p q = no_digit n (omega arith) q

pub no_zero : {b : ℕ} → NoDigit b → b ≡ 0x30 → ⊥
no_zero n e = no_digit n (omega arith) (omega arith)

unpicked_digit : {b : ℕ} (r : Ctl) → NoDigit b → Picks (span 0x30 0x39 r ∷ []) b none
unpicked_digit r n = past (no_digit n) nowhere

-- a value is at its end, and goes on as after a value
module _ {s : List ℕ} {a : ℕ} {c₀ c : Ctl} {i : ℕ} (p : Led s a c₀ c true i) (rs : List Rule)
    (e : (k : Stack) → rules c (top k) ≡ rs ++ after_rules (top k)) (f : final c ≡ true) (u : Unpicked rs s i) where
  pub led_finish : Led s a c₀ after true i
  led_finish =
      ⊎_elim (λ (h : i < length s). led_same p after h (λ k ρ. step_over c k ρ rs (e k) (u h))) (λ h. led_over p after h f) (lt_or_ge i (length s))

-- the control states that want a digit, and where it leads
pub data WantsDigit : Ctl → Ctl → Type 0 where
  point : WantsDigit after_point in_frac
  sign : WantsDigit after_sign in_exp

wanted_step : {c d : Ctl} → WantsDigit c d → (k : Stack) (ρ : Room) (b : ℕ) → 0x30 ≤ b → b ≤ 0x39 → step (at c k ρ) b ≡ at d k ρ
unfolding landing
wanted_step point k ρ b l h = step_range after_point k ρ 0x30 0x39 b (at in_frac k ρ) refl l h
wanted_step sign k ρ b l h = step_range after_sign k ρ 0x30 0x39 b (at in_exp k ρ) refl l h

wanted_dead : {c d : Ctl} → WantsDigit c d → (k : Stack) (b : ℕ) → NoDigit b → step (at c k endless) b ≡ dead
wanted_dead point k b n = step_by after_point k endless {o = none} (unpicked_digit in_frac n)
wanted_dead sign k b n = step_by after_sign k endless {o = none} (unpicked_digit in_exp n)

wanted_final : {c d : Ctl} → WantsDigit c d → final c ≡ false
wanted_final point = refl
wanted_final sign = refl

wanted_keeps : {c d : Ctl} → WantsDigit c d → Digit d
wanted_keeps point = frac
wanted_keeps sign = exp

-- digits, one at least
module _ {s : List ℕ} {a : ℕ} {c₀ c d : Ctl} {i r : ℕ} (w : WantsDigit c d) (p : Led s a c₀ c true i) (g : Run digit s i r) where
  pub digits_none : (d' : Ctl) → r ≡ i → Led s a c₀ d' false i
  digits_none d' q =
      ⊎_elim (λ (h : i < length s). led_die p d' h (λ k. wanted_dead w k _ (not_digit _ (rw q at g.stop h)))) (λ h. led_end p d' h (wanted_final w))
      (lt_or_ge i (length s))

  pub digits_some : (r ≡ i → ⊥) → Led s a c₀ d true r
  digits_some q =
      let b = g.passed in
      let l : i < r = omega (arith, b.forward) in
      let e = is_digit (get_or s i 0) (b.each i (omega arith) l) in
      led_digits (wanted_keeps w)
      (led_go p d (omega (arith, b.within)) (λ k ρ. wanted_step w k ρ (get_or s i 0) e.0 e.1))
      record { forward = omega arith; within = b.within; each = λ j x y. b.each j (omega arith) y }

-- an exponent, from its digits back to its letter
module _ {s : List ℕ} {a : ℕ} {c₀ : Ctl} {i r : ℕ} (p : Led s a c₀ after_sign true i) (g : Run digit s i r) where
  pub power_none : r ≡ i → Led s a c₀ after false i
  power_none q = digits_none sign p g after q

  pub power_some : (r ≡ i → ⊥) → Led s a c₀ after true r
  power_some q =
      led_finish (digits_some sign p g q) (span 0x30 0x39 in_exp ∷ []) (λ k. refl) refl (λ h. unpicked_digit in_exp (not_digit _ (g.stop h)))

abbrev signs : List ℕ
signs = 0x2B ∷ 0x2D ∷ []

sign_step : {b : ℕ} → Among signs b true → (k : Stack) (ρ : Room) → step (at after_e k ρ) b ≡ at after_sign k ρ
unfolding step
sign_step (this e) k ρ = rw e refl
sign_step (other n (this e)) k ρ = rw e refl
sign_step (other n (other m x)) k ρ = elim x [ ]

-- a byte that is no sign is taken as after a sign
unsigned_step : {b : ℕ} → Among signs b false → (k : Stack) (ρ : Room) → step (at after_e k ρ) b ≡ step (at after_sign k ρ) b
unfolding landing
unsigned_step {b} x k ρ = by (digit_or_not b)
  where
    by : NoDigit b ⊎ ((0x30 ≤ b) × (b ≤ 0x39)) → step (at after_e k ρ) b ≡ step (at after_sign k ρ) b
    by (inl n) =
        step_by after_e k ρ {o = none} (past (no_digit n) (among_past after_sign [] x nowhere))
        ∙ sym (step_by after_sign k ρ {o = none} (unpicked_digit in_exp n))
    by (inr (l, h)) =
        step_range after_e k ρ 0x30 0x39 b (at in_exp k ρ) refl l h ∙ sym (step_range after_sign k ρ 0x30 0x39 b (at in_exp k ρ) refl l h)

module _ {s : List ℕ} {i : ℕ} where
  pub sign_led : AmongAt signs s i true → Led s i after_e after_sign true (i + 1)
  sign_led (byte h x) = led_go (led_here s i after_e (omega arith)) after_sign h (λ k ρ. sign_step x k ρ)

  pub unsigned_led : i ≤ length s → AmongAt signs s i false → Led s i after_e after_sign true i
  unsigned_led l (byte h x) = led_same (led_here s i after_e l) after_sign h (λ k ρ. unsigned_step x k ρ)
  unsigned_led l (nothing h) = led_over (led_here s i after_e l) after_sign h refl

-- what may follow the digits of a number
abbrev exponents : List ℕ
exponents = 0x65 ∷ 0x45 ∷ []

ends_rules : {c : Ctl} {rs : List Rule} → Ends c rs → (o : Option Kind) → rules c o ≡ rs ++ each exponents after_e (after_rules o)
ends_rules zero o = refl
ends_rules int o = refl
ends_rules frac o = refl

ends_final : {c : Ctl} {rs : List Rule} → Ends c rs → final c ≡ true
ends_final zero = refl
ends_final int = refl
ends_final frac = refl

picks-append : {qs : List Rule} {b : ℕ} (rs : List Rule) {o : Option Rule} → Picks qs b none → Picks rs b o → Picks (qs ++ rs) b o
picks-append rs nowhere p = p
picks-append rs (past f q) p = past f (picks-append rs q p)

letter_step : {b : ℕ} → Among exponents b true → {c : Ctl} {rs : List Rule} → Ends c rs → Picks rs b none → (k : Stack) (ρ : Room) →
    step (at c k ρ) b ≡ at after_e k ρ
letter_step x {c} w u k ρ =
    let e = among_picks after_e (after_rules (top k)) x in
    step_by c k ρ {o = some (one e.0 after_e)}
    (rw (ends_rules w (top k)) (picks-append (each exponents after_e (after_rules (top k))) u e.1))

module _ {s : List ℕ} {i : ℕ} where
  pub exponent_none : length s ≤ i → Exponent s i true i
  exponent_none h = record { forward = omega arith; led = by }
    where
      by : {a : ℕ} {c : Ctl} → EndAt s a c i → Led s a c after true i
      by (digits w p u) = led_over p after h (ends_final w)

  module _ (h : i < length s) where
    pub exponent_other : Among exponents (get_or s i 0) false → Exponent s i true i
    exponent_other x = record { forward = omega arith; led = by }
      where
        by : {a : ℕ} {c : Ctl} → EndAt s a c i → Led s a c after true i
        by (digits {d} {rs} w p u) =
            led_finish p (rs ++ each exponents after_e [])
            (λ k. ends_rules w (top k) ∙ sym (append_assoc rs (each exponents after_e []) (after_rules (top k))))
            (ends_final w)
            (λ l. picks-append (each exponents after_e []) (u l) (among_past after_e [] x nowhere))

    pub exponent_some : Among exponents (get_or s i 0) true → (ok : Bool) (r : ℕ) → Led s (i + 1) after_e after ok r → Exponent s i ok r
    exponent_some x ok r q = record { forward = omega (arith, q.from); led = by }
      where
        by : {a : ℕ} {c : Ctl} → EndAt s a c i → Led s a c after ok r
        by (digits w p u) = led_on (led_go p after_e h (λ k ρ. letter_step x w (u h) k ρ)) q

-- what may follow the whole part of a number
abbrev to_point : List Rule
to_point = one 0x2E after_point ∷ []

whole_ends : {c : Ctl} {rs : List Rule} → Whole c rs → Ends c (rs ++ to_point)
whole_ends zero = zero
whole_ends int = int

point_step : {b : ℕ} → b ≡ 0x2E → {c : Ctl} {rs : List Rule} → Whole c rs → (k : Stack) (ρ : Room) → step (at c k ρ) b ≡ at after_point k ρ
unfolding step
point_step e zero k ρ = rw e refl
point_step e int k ρ = rw e refl

module _ {s : List ℕ} {i : ℕ} where
  -- no point stands there
  pub fraction_none : i ≤ length s → AmongAt (0x2E ∷ []) s i false → Fraction s i true i
  fraction_none l x = record { forward = omega arith; within = l; refused = λ z. absurd (false≢true (sym z)); ended = λ z. by }
    where
      unpicked : AmongAt (0x2E ∷ []) s i false → i < length s → Picks to_point (get_or s i 0) none
      unpicked (byte h (other n no_more)) k = past (missed n) nowhere
      unpicked (nothing h) k = absurd (omega arith)

      by : {a : ℕ} {c : Ctl} → WholeAt s a c i → EndAt s a c i
      by (whole w p u) = digits (whole_ends w) p (λ h. picks-append to_point (u h) (unpicked x h))

  -- a point, and the digits after it
  module _ (x : AmongAt (0x2E ∷ []) s i true) where
    point_led : {a : ℕ} {c d : Ctl} {rs : List Rule} → Whole d rs → Led s a c d true i → Led s a c after_point true (i + 1)
    point_led w p = led_go p after_point (among_within x) (λ k ρ. point_step (among_byte x) w k ρ)

    pub point_within : i + 1 ≤ length s
    point_within = let h = among_within x in omega arith

    module _ {r : ℕ} (g : Run digit s (i + 1) r) where
      pub fraction_empty : r ≡ i + 1 → Fraction s i false (i + 1)
      fraction_empty z = record { forward = omega arith; within = point_within; refused = λ n. by; ended = λ n. absurd (false≢true n) }
        where
          by : {a : ℕ} {c : Ctl} → WholeAt s a c i → Led s a c after false (i + 1)
          by (whole w p u) = digits_none point (point_led w p) g after z

      pub fraction_some : (r ≡ i + 1 → ⊥) → Fraction s i true r
      fraction_some z =
          record { forward = omega (arith, g.passed.forward); within = g.passed.within; refused = λ n. absurd (false≢true (sym n)); ended = λ n. by }
        where
          by : {a : ℕ} {c : Ctl} → WholeAt s a c i → EndAt s a c r
          by (whole w p u) = digits frac (digits_some point (point_led w p) g z) (λ h. unpicked_digit in_frac (not_digit _ (g.stop h)))

-- the whole part
module _ {s : List ℕ} {i : ℕ} where
  minus_here : i ≤ length s → Led s i after_minus after_minus true i
  minus_here = led_here s i after_minus

  pub whole_none : i ≤ length s → length s ≤ i → WholePart s i i
  whole_none l h =
      record {
        forward = omega arith;
        within = l;
        none = λ e. led_end (minus_here l) after h refl;
        some = λ n. absurd (n refl);
      }

  pub whole-zero : AmongAt (0x30 ∷ []) s i true → WholePart s i (i + 1)
  unfolding step
  whole-zero x =
      let h = among_within x in
      record {
        forward = omega arith;
        within = omega arith;
        none = λ z. absurd (omega arith);
        some = λ n. whole zero (led_go (minus_here (omega arith)) after_zero h (λ k ρ. rw (among_byte x) refl)) (λ l. nowhere);
      }

  module _ (x : AmongAt (0x30 ∷ []) s i false) {r : ℕ} (g : Run digit s i r) where
    no_nought : i < length s → get_or s i 0 ≡ 0x30 → ⊥
    no_nought = by x
      where
        by : AmongAt (0x30 ∷ []) s i false → i < length s → get_or s i 0 ≡ 0x30 → ⊥
        by (byte h (other n no_more)) l = n
        by (nothing h) l = absurd (omega arith)

    here : Led s i after_minus after_minus true i
    here = minus_here (omega (arith, g.passed.forward, g.passed.within))

    no_whole : r ≡ i → Led s i after_minus after false i
    no_whole z = ⊎_elim dead_here (λ h. led_end here after h refl) (lt_or_ge i (length s))
      where
        dead_here : i < length s → Led s i after_minus after false i
        dead_here h =
            let d = not_digit (get_or s i 0) (rw z at g.stop h) in
            led_die here after h (λ k. step_by after_minus k endless {o = none} (past (no_nonzero d) (past (missed (no_nought h)) nowhere)))

    a_whole : (r ≡ i → ⊥) → WholeAt s i after_minus r
    unfolding landing
    a_whole z =
        let l : i < r = omega (arith, g.passed.forward) in
        let h : i < length s = omega (arith, g.passed.within) in
        let d = is_digit (get_or s i 0) (g.passed.each i (omega arith) l) in
        let first = led_go here in_int h (λ k ρ. step_range after_minus k ρ 0x31 0x39 (get_or s i 0) (at in_int k ρ) refl (omega (arith, no_nought h)) d.1) in
        let rest : Passed digit s (i + 1) r = record { forward = omega arith; within = g.passed.within; each = λ j x y. g.passed.each j (omega arith) y } in
        whole int (led_digits int first rest) (λ l. unpicked_digit in_int (not_digit _ (g.stop l)))

    pub whole_digits : WholePart s i r
    whole_digits = record { forward = g.passed.forward; within = g.passed.within; none = no_whole; some = a_whole }

-- the parts of a number, one after the other
module _ {s : List ℕ} {i w : ℕ} (p : WholePart s i w) where
  pub number_none : w ≡ i → Number s i false i
  number_none e = record { moved = λ e. absurd (false≢true e); led = p.none e }

  module _ (n : w ≡ i → ⊥) {f : ℕ} where
    pub number_wrong : Fraction s w false f → Number s i false f
    number_wrong q = record { moved = λ e. absurd (false≢true e); led = q.refused refl (p.some n) }

    pub number_some : Fraction s w true f → (ok : Bool) (r : ℕ) → Exponent s f ok r → Number s i ok r
    number_some q ok r x =
        record {
          moved = λ z. omega (arith, p.forward, q.forward, x.forward);
          led = x.led (q.ended refl (p.some n));
        }
