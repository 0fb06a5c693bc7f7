-- The parsers read back what the writers wrote: `x-parsed` says so of X. A byte of a range is led by one case, found by comparing the bounds of
-- the cases alone, so each law is a computation on those bounds. Assumes nothing.
use Rattle.std.specs.Prelude.{◌≡◌, Bool, ◌&&◌, ◌||◌, ℕ, suc, ◌≤◌, ◌<◌, T, ltb, length}
use Rattle.std.proofs.Math.Path.{refl, ap}
use Rattle.std.proofs.Common.{◌∙◌, arith, ltb-true}
use mathlib.Core.List.{List, [], ◌∷◌}
use Rattle.std.proofs.Math.Bool.{true, false, and-eq-true_iff}
use Rattle.std.proofs.Math.Option.{Option, some, none, none-ne-some}
use Prim.Native.Nat as N
use Rattle.std.proofs.Math.Dec.{leb}
use Rattle.encoding.specs.Bytes as B
use Rattle.encoding.specs.Bytes.{In, put_in, Blank, Blanks, blank_byte, put_blanks}
use Rattle.encoding.specs.BytesLaws.{make, in_bounds}
use Rattle.encoding.specs.Hex as H
use Rattle.encoding.specs.Hex.{Hex, hex_byte}
use Rattle.encoding.specs.Utf8 as U
use Rattle.json_text.specs.Grammar as G
use Rattle.json_text.specs.Grammar.{Digit, Minus, Int, Frac, ExpSign, E, Exp, Escape, escape_byte, Char, Kind, Name, Key, Value}
use Rattle.json_text.specs.Grammar.{put_minus, put_int, put_frac, put_exp_sign, put_exp, put_char, put_chars, put_string, put_key}
use Rattle.json_text.specs.Append.{length_char, char_positive}
use Rattle.json_text.specs.Parse.{Got, Parser, got, fail, on, Case, range, only, choose, pick, parse_by, parse_in, parse_byte, many}
use Rattle.json_text.specs.Parse.{blank_cases, blank_of, parse_blanks, digit_of, parse_digits, parse_some_digits, parse_minus, parse_int, parse_frac, parse_exp_sign}
use Rattle.json_text.specs.Parse.{parse_power, parse_exp, parse_number, parse_hex, parse_unicode, parse_escape, char_cases, parse_chars, parse_rest}
use Rattle.json_text.specs.Parse.{parse_colon, parse_key}

pub on_got : {A B : Type 0} {o : Got A} {a : A} {s : List ℕ} (f : A → Parser B) → o ≡ got a s → on o f ≡ f a s
on_got f e = ap (λ (x : Got _). on x f) e

-- two ranges apart have no byte in common
outside : (lo hi l h b : ℕ) → ltb h lo || ltb hi l ≡ true → lo ≤ b → b ≤ hi → l ≤ b → b ≤ h → ⊥
outside lo hi l h b e p q p' q' = go (ltb h lo) refl e
  where
    go : (x : Bool) → ltb h lo ≡ x → x || ltb hi l ≡ true → ⊥
    go true t e = omega (arith, ltb-true h lo t)
    go false t e = omega (arith, ltb-true hi l e)

module _ {A : Type 0} where
  -- no byte from lo to hi is in the case
  abbrev pub apart : ℕ → ℕ → Case A → Bool
  apart lo hi c = ltb c.high lo || ltb hi c.low

  unfoldable pub all_apart : ℕ → ℕ → List (Case A) → Bool
  all_apart lo hi [] = true
  all_apart lo hi (c ∷ cs) = apart lo hi c && all_apart lo hi cs

  abbrev pub if_apart : Case A → Option (Case A) → Option (Case A)
  if_apart c none = none
  if_apart c (some r) = elim (apart r.low r.high c) [ true ↦ some r | false ↦ none ]

  -- case number i, where the cases before it have none of its bytes
  unfoldable pub case_at : ℕ → List (Case A) → Option (Case A)
  case_at i [] = none
  case_at N.zero (c ∷ cs) = some c
  case_at (suc i) (c ∷ cs) = if_apart c (case_at i cs)

  chosen : (x : Bool) (f : T x → A) (a : A) (t : T x) → choose x f a ≡ f t
  unfolding choose
  chosen true f a t = refl
  chosen false f a t = absurd t

  not_chosen : (x : Bool) (f : T x → A) (a : A) → (T x → ⊥) → choose x f a ≡ a
  unfolding choose
  not_chosen true f a h = absurd (h tt)
  not_chosen false f a h = refl

  -- a case apart from the byte's range is passed over
  passed : {lo hi : ℕ} (x : In lo hi) (c : Case A) (cs : List (Case A)) (a : A) → apart lo hi c ≡ true →
      pick (c ∷ cs) a x.byte ≡ pick cs a x.byte
  unfolding pick
  passed {lo} {hi} x c cs a e =
      not_chosen (leb c.low x.byte && leb x.byte c.high) _ _
      (λ t.
      let i = in_bounds x in
      let b = in_bounds {lo = c.low} {hi = c.high} (record { byte = x.byte; ok = t }) in
      outside lo hi c.low c.high x.byte e i.0 i.1 b.0 b.1)

  -- where all cases are apart from it, none is chosen
  pub missed : {lo hi : ℕ} (x : In lo hi) (cs : List (Case A)) (a : A) → all_apart lo hi cs ≡ true → pick cs a x.byte ≡ a
  unfolding pick all_apart
  missed x [] a e = refl
  missed {lo} {hi} x (c ∷ cs) a e =
      let h = (and-eq-true_iff (apart lo hi c) (all_apart lo hi cs)).0 e in
      passed x c cs a h.0 ∙ missed x cs a h.1

  if_apart_lem : (c : Case A) (o : Option (Case A)) {r : Case A} → if_apart c o ≡ some r → (o ≡ some r) × (apart r.low r.high c ≡ true)
  if_apart_lem c none e = absurd (none-ne-some _ e)
  if_apart_lem c (some q) {r} e = go (apart q.low q.high c) refl e
    where
      go : (x : Bool) → apart q.low q.high c ≡ x → elim x as (λ _. Option (Case A)) [ true ↦ some q | false ↦ none ] ≡ some r →
          (some q ≡ some r) × (apart r.low r.high c ≡ true)
      go true t e = (e, let h : q ≡ r = cc in rw h at t)
      go false t e = absurd (none-ne-some _ e)

  -- for a byte of case number i that case is chosen
  pub picked : (i : ℕ) (cs : List (Case A)) (a : A) {r : Case A} → case_at i cs ≡ some r → (x : In r.low r.high)
      → pick cs a x.byte ≡ r.choice x
  unfolding pick case_at
  picked i [] a e x = absurd (none-ne-some _ e)
  picked N.zero (c ∷ cs) a {r} e x =
      let h : c ≡ r = cc in
      rw h (chosen (leb r.low x.byte && leb x.byte r.high) _ _ x.ok)
  picked (suc i) (c ∷ cs) a e x =
      let h = if_apart_lem c (case_at i cs) e in
      passed x c cs a h.1 ∙ picked i cs a h.0 x

module _ {A : Type 0} where
  pub by_case : (i : ℕ) (cs : List (Case (Parser A))) (other : Parser A) {r : Case (Parser A)} → case_at i cs ≡ some r →
      (x : In r.low r.high) (s : List ℕ) → parse_by cs other (x.byte ∷ s) ≡ r.choice x s
  unfolding parse_by
  by_case i cs other e x s = ap (λ (f : Parser A). f s) (picked i cs (λ _. other (x.byte ∷ s)) e x)

  pub by_other : {lo hi : ℕ} (x : In lo hi) (cs : List (Case (Parser A))) (other : Parser A) (s : List ℕ) → all_apart lo hi cs ≡ true →
      parse_by cs other (x.byte ∷ s) ≡ other (x.byte ∷ s)
  unfolding parse_by
  by_other x cs other s e = ap (λ (f : Parser A). f s) (missed x cs (λ _. other (x.byte ∷ s)) e)

  pub by_only : (b : ℕ) (r : Parser A) (cs : List (Case (Parser A))) (other : Parser A) (s : List ℕ) → parse_by (only b r ∷ cs) other (b ∷ s) ≡ r s
  unfolding case_at make
  by_only b r cs other s = by_case 0 (only b r ∷ cs) other refl (make b (omega arith) (omega arith)) s

module _ {A : Type 0} where
  pub in_parsed : {lo hi : ℕ} (x : In lo hi) (f : In lo hi → Parser A) (s : List ℕ) → parse_in lo hi f (x.byte ∷ s) ≡ f x s
  unfolding parse_in case_at
  in_parsed {lo} {hi} x f s = by_case 0 (range lo hi f ∷ []) fail refl x s

  pub byte_parsed : (b : ℕ) (r : Parser A) (s : List ℕ) → parse_byte b r (b ∷ s) ≡ r s
  unfolding parse_byte
  byte_parsed b r s = by_only b r [] fail s

  many_one : (f : ℕ → Option A) (b : ℕ) (s : List ℕ) {x : A} {xs : List A} {u : List ℕ} → f b ≡ some x → many f s ≡ got xs u →
      many f (b ∷ s) ≡ got (x ∷ xs) u
  unfolding many
  many_one f b s e q = rw (e, q)

  many_none : (f : ℕ → Option A) (b : ℕ) (s : List ℕ) → f b ≡ none → many f (b ∷ s) ≡ got [] (b ∷ s)
  unfolding many
  many_none f b s e = rw e

-- blanks
-- s does not begin with a blank
abbrev pub Solid : List ℕ → Type 0
Solid s = many blank_of s ≡ got [] s

pub solid_in : {lo hi : ℕ} (x : In lo hi) (s : List ℕ) → all_apart lo hi blank_cases ≡ true → Solid (x.byte ∷ s)
unfolding blank_of
solid_in x s e = many_none blank_of x.byte s (missed x blank_cases none e)

blank_of_lem : (b : Blank) → blank_of (blank_byte b) ≡ some b
unfolding blank_of pick choose
blank_of_lem B.space = refl
blank_of_lem B.tab = refl
blank_of_lem B.feed = refl
blank_of_lem B.return = refl

many_blanks : (w : Blanks) (u : List ℕ) → Solid u → many blank_of (put_blanks w u) ≡ got w u
unfolding put_blanks
many_blanks [] u h = h
many_blanks (b ∷ w) u h = many_one blank_of (blank_byte b) (put_blanks w u) (blank_of_lem b) (many_blanks w u h)

module _ {A : Type 0} where
  pub blanks_parsed : (w : Blanks) (f : Blanks → Parser A) (u : List ℕ) → Solid u → parse_blanks f (put_blanks w u) ≡ f w u
  unfolding parse_blanks
  blanks_parsed w f u h = on_got f (many_blanks w u h)

-- digits
-- s does not begin with a digit
abbrev pub NoDigit : List ℕ → Type 0
NoDigit s = many digit_of s ≡ got [] s

many_digits : (ds : List Digit) (u : List ℕ) → NoDigit u → many digit_of (put_in ds u) ≡ got ds u
unfolding put_in digit_of case_at
many_digits [] u h = h
many_digits (d ∷ ds) u h = many_one digit_of d.byte (put_in ds u) (picked 0 (range 0x30 0x39 some ∷ []) none refl d) (many_digits ds u h)

module _ {A : Type 0} where
  digits_parsed : (ds : List Digit) (f : List Digit → Parser A) (u : List ℕ) → NoDigit u → parse_digits f (put_in ds u) ≡ f ds u
  unfolding parse_digits
  digits_parsed ds f u h = on_got f (many_digits ds u h)

  some_digits_parsed : (d : Digit) (ds : List Digit) (f : Digit → List Digit → Parser A) (u : List ℕ) → NoDigit u →
      parse_some_digits f (d.byte ∷ put_in ds u) ≡ f d ds u
  unfolding parse_some_digits
  some_digits_parsed d ds f u h = in_parsed d _ _ ∙ digits_parsed ds _ u h

-- numbers

-- u begins with no byte that a number could go on with
pub record NumberEnd (u : List ℕ) : Type 0 where
  pub digits : NoDigit u
  pub frac : (f : Frac → Parser Value) → parse_frac f u ≡ f G.nofrac u
  pub exp : (f : Exp → Parser Value) → parse_exp f u ≡ f G.noexp u

minus_parsed : (g : Minus) (n : Int) (f : Minus → Parser Value) (u : List ℕ) → parse_minus f (put_minus g (put_int n u)) ≡ f g (put_int n u)
unfolding parse_minus put_minus put_int all_apart
minus_parsed G.minus n f u = unfold parse_by pick choose in refl
minus_parsed G.unsigned G.nought f u = unfold parse_by pick choose in refl
minus_parsed G.unsigned (G.whole d ds) f u = by_other d _ _ (put_in ds u) refl

int_parsed : (n : Int) (f : Int → Parser Value) (u : List ℕ) → NoDigit u → parse_int f (put_int n u) ≡ f n u
unfolding parse_int put_int case_at
int_parsed G.nought f u h = unfold parse_by pick choose in refl
int_parsed (G.whole d ds) f u h = by_case 1 _ _ refl d (put_in ds u) ∙ digits_parsed ds _ u h

exp_no_digit : (e : Exp) (u : List ℕ) → NumberEnd u → NoDigit (put_exp e u)
unfolding many digit_of pick choose put_exp
exp_no_digit G.noexp u h = h.digits
exp_no_digit (G.exp G.small g d ds) u h = refl
exp_no_digit (G.exp G.big g d ds) u h = refl

frac_no_digit : (y : Frac) (e : Exp) (u : List ℕ) → NumberEnd u → NoDigit (put_frac y (put_exp e u))
unfolding many digit_of pick choose put_frac
frac_no_digit G.nofrac e u h = exp_no_digit e u h
frac_no_digit (G.frac d ds) e u h = refl

frac_parsed : (y : Frac) (e : Exp) (f : Frac → Parser Value) (u : List ℕ) → NumberEnd u → parse_frac f (put_frac y (put_exp e u)) ≡ f y (put_exp e u)
unfolding parse_frac parse_by pick choose put_frac put_exp
frac_parsed G.nofrac G.noexp f u h = h.frac f
frac_parsed G.nofrac (G.exp G.small g d ds) f u h = refl
frac_parsed G.nofrac (G.exp G.big g d ds) f u h = refl
frac_parsed (G.frac d ds) e f u h = some_digits_parsed d ds _ (put_exp e u) (exp_no_digit e u h)

exp_sign_parsed : (g : ExpSign) (d : Digit) (f : ExpSign → Parser Value) (s : List ℕ) → parse_exp_sign f (put_exp_sign g (d.byte ∷ s)) ≡ f g (d.byte ∷ s)
unfolding parse_exp_sign put_exp_sign all_apart
exp_sign_parsed G.bare d f s = by_other d _ _ s refl
exp_sign_parsed G.positive d f s = unfold parse_by pick choose in refl
exp_sign_parsed G.negative d f s = unfold parse_by pick choose in refl

power_parsed : (e : E) (g : ExpSign) (d : Digit) (ds : List Digit) (f : Exp → Parser Value) (u : List ℕ) → NoDigit u →
    parse_power e f (put_exp_sign g (d.byte ∷ put_in ds u)) ≡ f (G.exp e g d ds) u
unfolding parse_power
power_parsed e g d ds f u h = exp_sign_parsed g d _ (put_in ds u) ∙ some_digits_parsed d ds _ u h

exp_parsed : (e : Exp) (f : Exp → Parser Value) (u : List ℕ) → NumberEnd u → parse_exp f (put_exp e u) ≡ f e u
unfolding parse_exp parse_by pick choose put_exp
exp_parsed G.noexp f u h = h.exp f
exp_parsed (G.exp G.small g d ds) f u h = power_parsed G.small g d ds f u h.digits
exp_parsed (G.exp G.big g d ds) f u h = power_parsed G.big g d ds f u h.digits

pub number_parsed : (g : Minus) (n : Int) (y : Frac) (e : Exp) (u : List ℕ) → NumberEnd u →
    parse_number (put_minus g (put_int n (put_frac y (put_exp e u)))) ≡ got (G.number g n y e) u
unfolding parse_number
number_parsed g n y e u h = minus_parsed g n _ _ ∙ int_parsed n _ _ (frac_no_digit y e u h) ∙ frac_parsed y e _ u h ∙ exp_parsed e _ u h

-- strings
module _ {A : Type 0} where
  hex_parsed : (x : Hex) (f : Hex → Parser A) (s : List ℕ) → parse_hex f (hex_byte x ∷ s) ≡ f x s
  unfolding parse_hex case_at
  hex_parsed (H.digit x) f s = by_case 0 _ _ refl x s
  hex_parsed (H.upper x) f s = by_case 1 _ _ refl x s
  hex_parsed (H.lower x) f s = by_case 2 _ _ refl x s

  unicode_parsed : (x y z w : Hex) (f : Char → Parser A) (s : List ℕ) →
      parse_unicode f (hex_byte x ∷ hex_byte y ∷ hex_byte z ∷ hex_byte w ∷ s) ≡ f (G.unicode x y z w) s
  unfolding parse_unicode
  unicode_parsed x y z w f s = hex_parsed x _ _ ∙ hex_parsed y _ _ ∙ hex_parsed z _ _ ∙ hex_parsed w _ _

  escape_parsed : (x : Escape) (f : Char → Parser A) (s : List ℕ) → parse_escape f (escape_byte x ∷ s) ≡ f (G.escaped x) s
  unfolding parse_escape parse_by pick choose
  escape_parsed G.quote f s = refl
  escape_parsed G.backslash f s = refl
  escape_parsed G.slash f s = refl
  escape_parsed G.backspace f s = refl
  escape_parsed G.form f s = refl
  escape_parsed G.line f s = refl
  escape_parsed G.carriage f s = refl
  escape_parsed G.tabulator f s = refl

  char_parsed : (c : Char) (closed : Parser A) (f : Char → Parser A) (s : List ℕ) → parse_by (char_cases closed f) fail (put_char c s) ≡ f c s
  unfolding char_cases case_at put_char
  char_parsed (G.escaped x) closed f s = unfold parse_by pick choose in escape_parsed x f s
  char_parsed (G.unicode x y z w) closed f s = unfold parse_by pick choose parse_escape in unicode_parsed x y z w f s
  char_parsed (G.low x) closed f s = by_case 2 _ _ refl x s
  char_parsed (G.mid x) closed f s = by_case 3 _ _ refl x s
  char_parsed (G.high x) closed f s = by_case 4 _ _ refl x s
  char_parsed (G.wide (U.c2_df x y)) closed f s = by_case 5 _ _ refl x _ ∙ in_parsed y _ s
  char_parsed (G.wide (U.e0 x y z)) closed f s = by_case 6 _ _ refl x _ ∙ in_parsed y _ _ ∙ in_parsed z _ s
  char_parsed (G.wide (U.e1_ec x y z)) closed f s = by_case 7 _ _ refl x _ ∙ in_parsed y _ _ ∙ in_parsed z _ s
  char_parsed (G.wide (U.ed x y z)) closed f s = by_case 8 _ _ refl x _ ∙ in_parsed y _ _ ∙ in_parsed z _ s
  char_parsed (G.wide (U.ee_ef x y z)) closed f s = by_case 9 _ _ refl x _ ∙ in_parsed y _ _ ∙ in_parsed z _ s
  char_parsed (G.wide (U.f0 x y z w)) closed f s = by_case 10 _ _ refl x _ ∙ in_parsed y _ _ ∙ in_parsed z _ _ ∙ in_parsed w _ s
  char_parsed (G.wide (U.f1_f3 x y z w)) closed f s = by_case 11 _ _ refl x _ ∙ in_parsed y _ _ ∙ in_parsed z _ _ ∙ in_parsed w _ s
  char_parsed (G.wide (U.f4 x y z w)) closed f s = by_case 12 _ _ refl x _ ∙ in_parsed y _ _ ∙ in_parsed z _ _ ∙ in_parsed w _ s

longer : (c : Char) (s : List ℕ) → length s < length (put_char c s)
longer c s = omega (arith, length_char c s, char_positive c)

module _ {A : Type 0} where
  chars_parsed : (cs : List Char) (n : ℕ) (f : List Char → Parser A) (u : List ℕ) → length (put_chars cs (0x22 ∷ u)) ≤ n →
      parse_chars n f (put_chars cs (0x22 ∷ u)) ≡ f cs u
  unfolding parse_chars put_chars
  chars_parsed [] N.zero f u h = absurd (omega arith)
  chars_parsed [] (suc n) f u h = unfold char_cases parse_by pick choose in refl
  chars_parsed (c ∷ cs) N.zero f u h = absurd (omega (arith, longer c (put_chars cs (0x22 ∷ u))))
  chars_parsed (c ∷ cs) (suc n) f u h = char_parsed c _ _ _ ∙ chars_parsed cs n _ u (omega (arith, longer c (put_chars cs (0x22 ∷ u))))

  pub rest_parsed : (cs : List Char) (f : List Char → Parser A) (u : List ℕ) → parse_rest f (put_chars cs (0x22 ∷ u)) ≡ f cs u
  unfolding parse_rest
  rest_parsed cs f u = chars_parsed cs (length (put_chars cs (0x22 ∷ u))) f u (omega arith)

-- what stands before an item's value
colon_solid : (s : List ℕ) → Solid (0x3A ∷ s)
unfolding many blank_of pick choose
colon_solid s = refl

module _ {A : Type 0} where
  colon_parsed : (key : Name) (f : Name → Parser A) (u : List ℕ) → Solid u →
      parse_colon key.chars f (put_blanks key.before (0x3A ∷ put_blanks key.after u)) ≡ f key u
  unfolding parse_colon
  colon_parsed key f u h = blanks_parsed key.before _ _ (colon_solid (put_blanks key.after u)) ∙ byte_parsed 0x3A _ _ ∙ blanks_parsed key.after _ u h

  pub key_parsed : (k : Kind) (key : Key k) (f : Key k → Parser A) (u : List ℕ) → Solid u → parse_key k f (put_key k key u) ≡ f key u
  unfolding parse_key put_key put_string
  key_parsed G.array key f u h = refl
  key_parsed G.object key f u h = byte_parsed 0x22 _ _ ∙ rest_parsed key.chars _ _ ∙ colon_parsed key f u h
