-- The machine accepts the text of every tree that has room, and every control state can be completed to a text.
-- Stated as transfer: what is accepted from the state after a part is accepted, with the part before it, from the state before. Assumes nothing.
use Rattle.std.specs.Prelude.{◌≡◌, List, [], ◌∷◌, ◌++◌, Bool, true, false, ℕ, zero, suc, T}
use Rattle.std.proofs.Math.Path.{refl}
use Rattle.std.proofs.Common.{sym, subst, arith}
use Rattle.std.proofs.Math.Option.{some}
use Rattle.encoding.specs.Bytes.{In, put_in, Blank, Blanks, blank_byte, put_blanks}
use Rattle.encoding.specs.Hex as H
use Rattle.encoding.specs.Hex.{Hex, hex_byte}
use Rattle.encoding.specs.Utf8 as U
use Rattle.encoding.specs.Utf8.{Wide, put_wide, Second, any_tail, after_e0, after_ed, after_f0, after_f4, second_low}
use Rattle.encoding.specs.Utf8Laws.{second_some}
use Rattle.json_text.specs.Grammar as G
use Rattle.json_text.specs.Grammar.{Digit, Int, Frac, Exp, ExpSign, E, e_byte, Escape, escape_byte, Char, Minus}
use Rattle.json_text.specs.Grammar.{Literal, Kind, array, object, opening, closing, Key, Value, Items, More, Tree}
use Rattle.json_text.specs.Grammar.{put_literal, put_int, put_frac, put_exp, put_exp_sign, put_minus, put_char, put_chars, put_string}
use Rattle.json_text.specs.Grammar.{put_key, put_value, put_items, put_more, text, nesting, items_nesting, more_nesting}
use Rattle.json_text.specs.Room.{Room, left, endless, wider}
use Rattle.json_text.specs.RoomLaws.{Fits, Within, Texts, fits_left, fits_right, fits_less}
use Rattle.json_text.specs.Machine.{Ctl}
use Rattle.json_text.specs.Machine.{item, colon, after, in_string, escaping, hex_due, tail_due, word_due, after_minus}
use Rattle.json_text.specs.Machine.{after_zero, in_int, after_point, in_frac, after_e, after_sign, in_exp, value_due}
use Rattle.json_text.specs.Machine.{Stack, top, State, dead, at, entered, Rule, one, span, lowest, highest, takes, after_rules}
use Rattle.json_text.specs.Machine.{exponent_rules, hex_rules, closed, rules, pick, step, run, final, accept, start}
use Rattle.json_text.specs.MachineLaws.{pick_later, takes_between, landing, lands, step_in, step_by, inside, item_blank}
use Rattle.json_text.specs.MachineLaws.{item_open, item_close, colon_blank, after_blank, after_comma, after_close}

-- s completes a text from the state
abbrev pub Accepts : State → List ℕ → Type 0
Accepts st s = accept (run st s) ≡ true

step_on : (st : State) (b : ℕ) (s : List ℕ) (st' : State) → step st b ≡ st' → Accepts st' s → Accepts st (b ∷ s)
unfolding run
step_on st b s st' e h = rw e h

dead_run : (s : List ℕ) → run dead s ≡ dead
unfolding run
dead_run [] = refl
dead_run (b ∷ s) = dead_run s

pub dead_accepts : (s : List ℕ) → Accepts dead s → ⊥
dead_accepts s h = subst T (sym (rw dead_run at h)) tt

-- blanks and digits that keep the machine where it is
blanks_on : (st : State) → ((b : Blank) → step st (blank_byte b) ≡ st) → (w : Blanks) (u : List ℕ) → Accepts st u →
    Accepts st (put_blanks w u)
unfolding put_blanks
blanks_on st f [] u h = h
blanks_on st f (b ∷ w) u h = step_on st (blank_byte b) (put_blanks w u) st (f b) (blanks_on st f w u h)

digits_on : (st : State) → ((b : Digit) → step st b.byte ≡ st) → (ds : List Digit) (u : List ℕ) → Accepts st u → Accepts st (put_in ds u)
unfolding put_in
digits_on st f [] u h = h
digits_on st f (d ∷ ds) u h = step_on st d.byte (put_in ds u) st (f d) (digits_on st f ds u h)

-- a number's end needs no look-ahead: a table that begins with rs and goes on as after a value, where no byte of rs is taken after a value
abbrev Parted : List Rule → Stack → Room → Type 0
Parted [] k ρ = Unit {0}
Parted (r ∷ rs) k ρ = (landing (lowest r) (highest r) (after_rules (top k)) k ρ ≡ some dead) × Parted rs k ρ

pick_on : (rs : List Rule) (k : Stack) (ρ : Room) (b : ℕ) (u : List ℕ) → Parted rs k ρ → Accepts (pick (after_rules (top k)) b k ρ) u →
    Accepts (pick (rs ++ after_rules (top k)) b k ρ) u
pick_on [] k ρ b u ps h = h
pick_on (r ∷ rs) k ρ b u ps h = by (takes r b) refl (pick_on rs k ρ b u ps.1 h)
  where
    by : (x : Bool) → takes r b ≡ x → Accepts (pick (rs ++ after_rules (top k)) b k ρ) u →
        Accepts (pick (r ∷ rs ++ after_rules (top k)) b k ρ) u
    by true e again =
        let q = takes_between r b e in
        absurd (dead_accepts u (rw (lands (lowest r) (highest r) (after_rules (top k)) k ρ dead ps.0 b q.0 q.1) at h))
    by false e again = rw (pick_later r (rs ++ after_rules (top k)) b k ρ e) again

end_on : (c : Ctl) (k : Stack) (ρ : Room) (rs : List Rule) → rules c (top k) ≡ rs ++ after_rules (top k) → final c ≡ true → Parted rs k ρ →
    (u : List ℕ) → Accepts (at after k ρ) u → Accepts (at c k ρ) u
unfolding run
end_on c k ρ rs p f ps [] h = rw f h
end_on c k ρ rs p f ps (b ∷ u) h = rw p (pick_on rs k ρ b u ps h)

abbrev digit_rule : Ctl → Rule
digit_rule c = span 0x30 0x39 c

parted_exp : (k : Stack) (ρ : Room) → Parted (digit_rule in_exp ∷ []) k ρ
unfolding landing
parted_exp [] ρ = (refl, tt)
parted_exp (array ∷ k) ρ = (refl, tt)
parted_exp (object ∷ k) ρ = (refl, tt)

parted_frac : (k : Stack) (ρ : Room) → Parted (digit_rule in_frac ∷ exponent_rules []) k ρ
unfolding landing
parted_frac [] ρ = (refl, (refl, (refl, tt)))
parted_frac (array ∷ k) ρ = (refl, (refl, (refl, tt)))
parted_frac (object ∷ k) ρ = (refl, (refl, (refl, tt)))

parted_int : (k : Stack) (ρ : Room) → Parted (digit_rule in_int ∷ one 0x2E after_point ∷ exponent_rules []) k ρ
unfolding landing
parted_int [] ρ = (refl, (refl, (refl, (refl, tt))))
parted_int (array ∷ k) ρ = (refl, (refl, (refl, (refl, tt))))
parted_int (object ∷ k) ρ = (refl, (refl, (refl, (refl, tt))))

-- numbers, from their end
module _ (k : Stack) (ρ : Room) (u : List ℕ) (h : Accepts (at after k ρ) u) where
  exp_over : Accepts (at in_exp k ρ) u
  exp_over = end_on in_exp k ρ (digit_rule in_exp ∷ []) refl refl (parted_exp k ρ) u h

  frac_over : Accepts (at in_frac k ρ) u
  frac_over = end_on in_frac k ρ (digit_rule in_frac ∷ exponent_rules []) refl refl (parted_frac k ρ) u h

  int_over : Accepts (at in_int k ρ) u
  int_over = end_on in_int k ρ (digit_rule in_int ∷ one 0x2E after_point ∷ exponent_rules []) refl refl (parted_int k ρ) u h

  zero-over : Accepts (at after_zero k ρ) u
  zero-over = end_on after_zero k ρ (one 0x2E after_point ∷ exponent_rules []) refl refl (parted_int k ρ).1 u h

range_on : (c c' : Ctl) (k : Stack) (ρ : Room) {lo hi : ℕ} (b : In lo hi) (u : List ℕ) →
    landing lo hi (rules c (top k)) k ρ ≡ some (at c' k ρ) → Accepts (at c' k ρ) u → Accepts (at c k ρ) (b.byte ∷ u)
range_on c c' k ρ b u p h = step_on (at c k ρ) b.byte u (at c' k ρ) (step_in c k ρ b (at c' k ρ) p) h

exp_digit : (k : Stack) (ρ : Room) (b : Digit) → step (at in_exp k ρ) b.byte ≡ at in_exp k ρ
unfolding landing
exp_digit k ρ b = step_in in_exp k ρ b (at in_exp k ρ) refl

frac_digit : (k : Stack) (ρ : Room) (b : Digit) → step (at in_frac k ρ) b.byte ≡ at in_frac k ρ
unfolding landing
frac_digit k ρ b = step_in in_frac k ρ b (at in_frac k ρ) refl

int_digit : (k : Stack) (ρ : Room) (b : Digit) → step (at in_int k ρ) b.byte ≡ at in_int k ρ
unfolding landing
int_digit k ρ b = step_in in_int k ρ b (at in_int k ρ) refl

module _ (k : Stack) (ρ : Room) (u : List ℕ) (h : Accepts (at after k ρ) u) where
  exp_digits : (ds : List Digit) → Accepts (at in_exp k ρ) (put_in ds u)
  exp_digits ds = digits_on (at in_exp k ρ) (exp_digit k ρ) ds u (exp_over k ρ u h)

  e_on : (g : ExpSign) (d : Digit) (ds : List Digit) → Accepts (at after_e k ρ) (put_exp_sign g (d.byte ∷ put_in ds u))
  unfolding put_exp_sign step landing
  e_on G.bare d ds = range_on after_e in_exp k ρ d (put_in ds u) refl (exp_digits ds)
  e_on G.positive d ds =
      step_on (at after_e k ρ) 0x2B (d.byte ∷ put_in ds u) (at after_sign k ρ) refl
      (range_on after_sign in_exp k ρ d (put_in ds u) refl (exp_digits ds))
  e_on G.negative d ds =
      step_on (at after_e k ρ) 0x2D (d.byte ∷ put_in ds u) (at after_sign k ρ) refl
      (range_on after_sign in_exp k ρ d (put_in ds u) refl (exp_digits ds))

  -- from a control state that may end the number and takes an exponent
  exp_on : (c : Ctl) → Accepts (at c k ρ) u → ((y : E) → step (at c k ρ) (e_byte y) ≡ at after_e k ρ) → (x : Exp) →
      Accepts (at c k ρ) (put_exp x u)
  unfolding put_exp
  exp_on c o f G.noexp = o
  exp_on c o f (G.exp y g d ds) = step_on (at c k ρ) (e_byte y) (put_exp_sign g (d.byte ∷ put_in ds u)) (at after_e k ρ) (f y) (e_on g d ds)

  point_on : (d : Digit) (ds : List Digit) (x : Exp) → Accepts (at after_point k ρ) (d.byte ∷ put_in ds (put_exp x u))
  unfolding landing step
  point_on d ds x =
      range_on after_point in_frac k ρ d (put_in ds (put_exp x u)) refl
      (digits_on (at in_frac k ρ) (frac_digit k ρ) ds (put_exp x u) (exp_on in_frac (frac_over k ρ u h) e x))
    where
      e : (y : E) → step (at in_frac k ρ) (e_byte y) ≡ at after_e k ρ
      e G.small = refl
      e G.big = refl

  int_on : (y : Frac) (x : Exp) → Accepts (at in_int k ρ) (put_frac y (put_exp x u))
  unfolding put_frac run step
  int_on G.nofrac x = exp_on in_int (int_over k ρ u h) e x
    where
      e : (y : E) → step (at in_int k ρ) (e_byte y) ≡ at after_e k ρ
      e G.small = refl
      e G.big = refl
  int_on (G.frac d ds) x = point_on d ds x

  zero-on : (y : Frac) (x : Exp) → Accepts (at after_zero k ρ) (put_frac y (put_exp x u))
  unfolding put_frac run step
  zero-on G.nofrac x = exp_on after_zero (zero-over k ρ u h) e x
    where
      e : (y : E) → step (at after_zero k ρ) (e_byte y) ≡ at after_e k ρ
      e G.small = refl
      e G.big = refl
  zero-on (G.frac d ds) x = point_on d ds x

  -- from a control state that takes an int
  whole_on : (c : Ctl) → step (at c k ρ) 0x30 ≡ at after_zero k ρ → ((d : In 0x31 0x39) → step (at c k ρ) d.byte ≡ at in_int k ρ) →
      (n : Int) (y : Frac) (x : Exp) → Accepts (at c k ρ) (put_int n (put_frac y (put_exp x u)))
  unfolding put_int
  whole_on c z d G.nought y x = step_on (at c k ρ) 0x30 (put_frac y (put_exp x u)) (at after_zero k ρ) z (zero-on y x)
  whole_on c z d (G.whole b ds) y x =
      step_on (at c k ρ) b.byte (put_in ds (put_frac y (put_exp x u))) (at in_int k ρ) (d b)
      (digits_on (at in_int k ρ) (int_digit k ρ) ds (put_frac y (put_exp x u)) (int_on y x))

  number_on : (f : Bool) (g : Minus) (n : Int) (y : Frac) (x : Exp) →
      Accepts (at (item array f) k ρ) (put_minus g (put_int n (put_frac y (put_exp x u))))
  unfolding put_minus step landing
  number_on f G.unsigned n y x = whole_on (item array f) refl (λ d. step_in (item array f) k ρ d (at in_int k ρ) refl) n y x
  number_on f G.minus n y x =
      step_on (at (item array f) k ρ) 0x2D (put_int n (put_frac y (put_exp x u))) (at after_minus k ρ) refl
      (whole_on after_minus refl (λ d. step_in after_minus k ρ d (at in_int k ρ) refl) n y x)

-- strings
hex_on : (c c' : Ctl) (k : Stack) (ρ : Room) (x : Hex) (u : List ℕ) → rules c (top k) ≡ hex_rules c' → Accepts (at c' k ρ) u →
    Accepts (at c k ρ) (hex_byte x ∷ u)
unfolding landing
hex_on c c' k ρ (H.digit b) u p h = range_on c c' k ρ b u (rw p refl) h
hex_on c c' k ρ (H.upper b) u p h = range_on c c' k ρ b u (rw p refl) h
hex_on c c' k ρ (H.lower b) u p h = range_on c c' k ρ b u (rw p refl) h

module _ (f : Bool) (k : Stack) (ρ : Room) (u : List ℕ) (h : Accepts (at (in_string f) k ρ) u) where
  escape_on : (x : Escape) → Accepts (at (escaping f) k ρ) (escape_byte x ∷ u)
  unfolding run
  escape_on G.quote = h
  escape_on G.backslash = h
  escape_on G.slash = h
  escape_on G.backspace = h
  escape_on G.form = h
  escape_on G.line = h
  escape_on G.carriage = h
  escape_on G.tabulator = h

  -- the last of the bytes 80-BF, the last two
  tail_on : (y : U.Tail) → Accepts (at (tail_due any_tail 0 f) k ρ) (y.byte ∷ u)
  unfolding landing
  tail_on y = range_on (tail_due any_tail 0 f) (in_string f) k ρ y u refl h

  tails_on : (y z : U.Tail) → Accepts (at (tail_due any_tail 1 f) k ρ) (y.byte ∷ z.byte ∷ u)
  unfolding landing
  tails_on y z = range_on (tail_due any_tail 1 f) (tail_due any_tail 0 f) k ρ y (z.byte ∷ u) refl (tail_on z)

  wide_on : (p : Wide) → Accepts (at (in_string f) k ρ) (put_wide p u)
  unfolding put_wide landing
  wide_on (U.c2_df x y) = range_on (in_string f) (tail_due any_tail 0 f) k ρ x _ refl (tail_on y)
  wide_on (U.e0 x y z) =
      range_on (in_string f) (tail_due after_e0 1 f) k ρ x _ refl
      (range_on (tail_due after_e0 1 f) (tail_due any_tail 0 f) k ρ y _ refl (tail_on z))
  wide_on (U.e1_ec x y z) = range_on (in_string f) (tail_due any_tail 1 f) k ρ x _ refl (tails_on y z)
  wide_on (U.ed x y z) =
      range_on (in_string f) (tail_due after_ed 1 f) k ρ x _ refl
      (range_on (tail_due after_ed 1 f) (tail_due any_tail 0 f) k ρ y _ refl (tail_on z))
  wide_on (U.ee_ef x y z) = range_on (in_string f) (tail_due any_tail 1 f) k ρ x _ refl (tails_on y z)
  wide_on (U.f0 x y z w) =
      range_on (in_string f) (tail_due after_f0 2 f) k ρ x _ refl
      (range_on (tail_due after_f0 2 f) (tail_due any_tail 1 f) k ρ y _ refl (tails_on z w))
  wide_on (U.f1_f3 x y z w) =
      range_on (in_string f) (tail_due any_tail 2 f) k ρ x _ refl
      (range_on (tail_due any_tail 2 f) (tail_due any_tail 1 f) k ρ y _ refl (tails_on z w))
  wide_on (U.f4 x y z w) =
      range_on (in_string f) (tail_due after_f4 2 f) k ρ x _ refl
      (range_on (tail_due after_f4 2 f) (tail_due any_tail 1 f) k ρ y _ refl (tails_on z w))

  char_on : (c : Char) → Accepts (at (in_string f) k ρ) (put_char c u)
  unfolding put_char step landing
  char_on (G.low x) = range_on (in_string f) (in_string f) k ρ x u refl h
  char_on (G.mid x) = range_on (in_string f) (in_string f) k ρ x u refl h
  char_on (G.high x) = range_on (in_string f) (in_string f) k ρ x u refl h
  char_on (G.wide p) = wide_on p
  char_on (G.escaped x) = step_on (at (in_string f) k ρ) 0x5C _ (at (escaping f) k ρ) refl (escape_on x)
  char_on (G.unicode x y z w) =
      step_on (at (in_string f) k ρ) 0x5C _ (at (escaping f) k ρ) refl
      (step_on (at (escaping f) k ρ) 0x75 _ (at (hex_due 3 f) k ρ) refl
      (hex_on (hex_due 3 f) (hex_due 2 f) k ρ x _ refl
      (hex_on (hex_due 2 f) (hex_due 1 f) k ρ y _ refl
      (hex_on (hex_due 1 f) (hex_due 0 f) k ρ z _ refl
      (hex_on (hex_due 0 f) (in_string f) k ρ w u refl h)))))

chars_on : (f : Bool) (k : Stack) (ρ : Room) (u : List ℕ) → Accepts (at (closed f) k ρ) u → (cs : List Char) →
    Accepts (at (in_string f) k ρ) (put_chars cs (0x22 ∷ u))
unfolding put_chars run
chars_on f k ρ u h [] = h
chars_on f k ρ u h (c ∷ cs) = char_on f k ρ (put_chars cs (0x22 ∷ u)) (chars_on f k ρ u h cs) c

-- a literal name and a member's name
literal_on : (l : Literal) (f : Bool) (k : Stack) (ρ : Room) (u : List ℕ) → Accepts (at after k ρ) u →
    Accepts (at (item array f) k ρ) (put_literal l u)
unfolding put_literal run
literal_on G.false_name f k ρ u h = h
literal_on G.null_name f k ρ u h = h
literal_on G.true_name f k ρ u h = h

-- an item, given that its value is accepted where a value is due
key_on : (x : Kind) (key : Key x) (f : Bool) (k : Stack) (ρ : Room) (u : List ℕ) → ((f' : Bool) → Accepts (at (item array f') k ρ) u) →
    Accepts (at (item x f) k ρ) (put_key x key u)
unfolding put_key put_string run
key_on array key f k ρ u h = h f
key_on object key f k ρ u h =
    chars_on true k ρ _
    (blanks_on (at colon k ρ) (colon_blank k ρ) key.before _
    (blanks_on (at value_due k ρ) (item_blank array false k ρ) key.after u (h false)))
    key.chars

-- an opening bracket, where there is room for one container more
open_on : (x : Kind) (f : Bool) (k : Stack) (ρ : Room) (u : List ℕ) → Accepts (at (item x true) (x ∷ k) ρ) u →
    Accepts (at (item array f) k (wider ρ)) (opening x ∷ u)
open_on x f k (left n) u h =
    step_on (at (item array f) k (left (suc n))) (opening x) u (entered x k (left (suc n))) (item_open x f k (left (suc n))) h
open_on x f k endless u h = step_on (at (item array f) k endless) (opening x) u (entered x k endless) (item_open x f k endless) h

mutual
  unfolding put_value put_items put_more nesting run

  value_on : (v : Value) (f : Bool) (k : Stack) (ρ : Room) (u : List ℕ) → Within ρ v → Accepts (at after k ρ) u →
      Accepts (at (item array f) k ρ) (put_value v u)
  value_on (G.literal l) f k ρ u q h = literal_on l f k ρ u h
  value_on (G.number g n y x) f k ρ u q h = number_on k ρ u h f g n y x
  value_on (G.string cs) f k ρ u q h = chars_on false k ρ u h cs
  value_on (G.container x is) f k (left zero) u q h = absurd (omega arith)
  value_on (G.container x is) f k (left (suc n)) u q h =
      open_on x f k (left n) (put_items is u) (items_on is k (left n) u (fits_less (left n) (items_nesting is) q) h)
  value_on (G.container x is) f k endless u q h = open_on x f k endless (put_items is u) (items_on is k endless u tt h)

  items_on : {x : Kind} (is : Items x) (k : Stack) (ρ : Room) (u : List ℕ) → Fits ρ (items_nesting is) → Accepts (at after k (wider ρ)) u →
      Accepts (at (item x true) (x ∷ k) ρ) (put_items is u)
  items_on {x} (G.empty w) k ρ u q h =
      blanks_on (at (item x true) (x ∷ k) ρ) (item_blank x true (x ∷ k) ρ) w (closing x ∷ u)
      (step_on (at (item x true) (x ∷ k) ρ) (closing x) u (at after k (wider ρ)) (item_close x (x ∷ k) ρ) h)
  items_on {x} (G.items w key v m) k ρ u q h =
      blanks_on (at (item x true) (x ∷ k) ρ) (item_blank x true (x ∷ k) ρ) w (put_key x key (put_value v (put_more m u)))
      (key_on x key true (x ∷ k) ρ (put_value v (put_more m u))
      (λ f. value_on v f (x ∷ k) ρ (put_more m u) (fits_left ρ (nesting v) (more_nesting m) q)
      (more_on m k ρ u (fits_right ρ (nesting v) (more_nesting m) q) h)))

  more_on : {x : Kind} (m : More x) (k : Stack) (ρ : Room) (u : List ℕ) → Fits ρ (more_nesting m) → Accepts (at after k (wider ρ)) u →
      Accepts (at after (x ∷ k) ρ) (put_more m u)
  more_on {x} (G.end w) k ρ u q h =
      blanks_on (at after (x ∷ k) ρ) (after_blank (x ∷ k) ρ) w (closing x ∷ u)
      (step_on (at after (x ∷ k) ρ) (closing x) u (at after k (wider ρ)) (after_close x k ρ) h)
  more_on {x} (G.more w w' key v m) k ρ u q h =
      blanks_on (at after (x ∷ k) ρ) (after_blank (x ∷ k) ρ) w (0x2C ∷ put_blanks w' (put_key x key (put_value v (put_more m u))))
      (step_on (at after (x ∷ k) ρ) 0x2C (put_blanks w' (put_key x key (put_value v (put_more m u))))
      (at (item x false) (x ∷ k) ρ) (after_comma x k ρ)
      (blanks_on (at (item x false) (x ∷ k) ρ) (item_blank x false (x ∷ k) ρ) w' (put_key x key (put_value v (put_more m u)))
      (key_on x key false (x ∷ k) ρ (put_value v (put_more m u))
      (λ f. value_on v f (x ∷ k) ρ (put_more m u) (fits_left ρ (nesting v) (more_nesting m) q)
      (more_on m k ρ u (fits_right ρ (nesting v) (more_nesting m) q) h)))))

tree_on : (ρ : Room) (t : Tree) → Within ρ t.value → accept (run (start ρ) (text t)) ≡ true
unfolding text run put_blanks
tree_on ρ t q =
    blanks_on (start ρ) (item_blank array false [] ρ) t.before (put_value t.value (put_blanks t.after []))
    (value_on t.value false [] ρ (put_blanks t.after []) q (blanks_on (at after [] ρ) (after_blank [] ρ) t.after [] refl))

-- the machine accepts every text of the grammar that has room
pub complete : (ρ : Room) (s : List ℕ) → Texts ρ s → accept (run (start ρ) s) ≡ true
complete (left n) s j = rw j.written at (tree_on (left n) j.tree j.shallow)
complete endless s j = rw j.written at (tree_on endless j.tree tt)

-- the closing brackets of the containers around
closers : (k : Stack) (ρ : Room) → (u : List ℕ) × Accepts (at after k ρ) u
unfolding run
closers [] ρ = ([], refl)
closers (x ∷ k) ρ =
    let r = closers k (wider ρ) in
    (closing x ∷ r.0, step_on (at after (x ∷ k) ρ) (closing x) r.0 (at after k (wider ρ)) (after_close x k ρ) r.1)

-- bytes that complete what is due, given bytes that complete what comes after
abbrev Finish : Ctl → Stack → Room → Type 0
Finish c k ρ = (w : List ℕ) × Accepts (at c k ρ) w

-- `true`, and then the rest
abbrev true_then : List ℕ → List ℕ
true_then u = 0x74 ∷ 0x72 ∷ 0x75 ∷ 0x65 ∷ u

finish_item : (x : Kind) (f : Bool) (k : Stack) (ρ : Room) (u : List ℕ) → Accepts (at after k ρ) u → Finish (item x f) k ρ
unfolding run
finish_item array f k ρ u h = (true_then u, h)
finish_item object f k ρ u h = (0x22 ∷ 0x22 ∷ 0x3A ∷ true_then u, h)

finish_string : (f : Bool) (k : Stack) (ρ : Room) (u : List ℕ) → Accepts (at after k ρ) u → Finish (in_string f) k ρ
unfolding run
finish_string true k ρ u h = (0x22 ∷ 0x3A ∷ true_then u, h)
finish_string false k ρ u h = (0x22 ∷ u, h)

finish_hex : (n : ℕ) (f : Bool) (k : Stack) (ρ : Room) → Finish (in_string f) k ρ → Finish (hex_due n f) k ρ
unfolding run
finish_hex zero f k ρ (u, h) = (0x30 ∷ u, h)
finish_hex (suc n) f k ρ r = let q = finish_hex n f k ρ r in (0x30 ∷ q.0, q.1)

finish_byte : (c c' : Ctl) (k : Stack) (ρ : Room) (b : ℕ) → step (at c k ρ) b ≡ at c' k ρ → Finish c' k ρ → Finish c k ρ
finish_byte c c' k ρ b e (w, h) = (b ∷ w, step_on (at c k ρ) b w (at c' k ρ) e h)

finish_tail : (n : ℕ) (p : Second) (f : Bool) (k : Stack) (ρ : Room) → Finish (in_string f) k ρ → Finish (tail_due p n f) k ρ
finish_tail zero p f k ρ r =
    finish_byte (tail_due p 0 f) (in_string f) k ρ (second_low p) (step_by (tail_due p 0 f) k ρ (inside (omega arith) (second_some p))) r
finish_tail (suc n) p f k ρ r =
    finish_byte (tail_due p (suc n) f) (tail_due any_tail n f) k ρ (second_low p)
    (step_by (tail_due p (suc n) f) k ρ (inside (omega arith) (second_some p))) (finish_tail n any_tail f k ρ r)

finish_word : (bs : List ℕ) (b : ℕ) (k : Stack) (ρ : Room) (u : List ℕ) → Accepts (at after k ρ) u → Finish (word_due b bs) k ρ
finish_word [] b k ρ u h =
    finish_byte (word_due b []) after k ρ b (step_by (word_due b []) k ρ (inside (omega arith) (omega arith))) (u, h)
finish_word (b' ∷ bs) b k ρ u h =
    finish_byte (word_due b (b' ∷ bs)) (word_due b' bs) k ρ b
    (step_by (word_due b (b' ∷ bs)) k ρ (inside (omega arith) (omega arith))) (finish_word bs b' k ρ u h)

finish : (c : Ctl) (k : Stack) (ρ : Room) (u : List ℕ) → Accepts (at after k ρ) u → Finish c k ρ
unfolding run
finish (item x f) k ρ u h = finish_item x f k ρ u h
finish colon k ρ u h = (0x3A ∷ true_then u, h)
finish after k ρ u h = (u, h)
finish (in_string f) k ρ u h = finish_string f k ρ u h
finish (escaping f) k ρ u h = let r = finish_string f k ρ u h in (0x22 ∷ r.0, r.1)
finish (hex_due n f) k ρ u h = finish_hex n f k ρ (finish_string f k ρ u h)
finish (tail_due p n f) k ρ u h = finish_tail n p f k ρ (finish_string f k ρ u h)
finish (word_due b bs) k ρ u h = finish_word bs b k ρ u h
finish after_minus k ρ u h = (0x30 ∷ u, zero-over k ρ u h)
finish after_zero k ρ u h = (u, zero-over k ρ u h)
finish in_int k ρ u h = (u, int_over k ρ u h)
finish after_point k ρ u h = (0x30 ∷ u, frac_over k ρ u h)
finish in_frac k ρ u h = (u, frac_over k ρ u h)
finish after_e k ρ u h = (0x30 ∷ u, exp_over k ρ u h)
finish after_sign k ρ u h = (0x30 ∷ u, exp_over k ρ u h)
finish in_exp k ρ u h = (u, exp_over k ρ u h)

-- every state but `dead` can be completed
pub viable : (c : Ctl) (k : Stack) (ρ : Room) → (w : List ℕ) × Accepts (at c k ρ) w
viable c k ρ = let r = closers k ρ in finish c k ρ r.0 r.1
