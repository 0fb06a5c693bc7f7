-- What the machine accepts is the text of a tree that has room.
-- `Rest c k ρ s`: s completes a text from the control state c with the stack k and the room ρ; each rule leads back into it. Assumes nothing.
use Rattle.std.specs.Prelude.{◌≡◌, refl, Bool, true, false, ◌&&◌, ℕ, zero, suc, max, leb}
use mathlib.Core.List.{List, [], ◌∷◌, ◌++◌}
use Rattle.std.proofs.Math.Bool.{and-eq-true_iff}
use Rattle.std.proofs.Common.{arith, leb-true}
use Rattle.bits.specs.Truth.{to_T}
use Rattle.encoding.specs.Bytes as B
use Rattle.encoding.specs.Bytes.{In, put_in, Blank, Blanks, blank_byte, put_blanks}
use Rattle.encoding.specs.BytesLaws.{Then, then}
use Rattle.encoding.specs.Hex as H
use Rattle.encoding.specs.Hex.{Hex, hex_byte}
use Rattle.encoding.specs.Utf8 as U
use Rattle.encoding.specs.Utf8.{any_tail, after_e0, after_ed, after_f0, after_f4, second_low, second_high}
use Rattle.encoding.specs.Utf8Laws.{Tails}
use Rattle.json_text.specs.Grammar as G
use Rattle.json_text.specs.Grammar.{Digit, Int, Frac, Exp, ExpSign, E, e_byte, Escape, escape_byte}
use Rattle.json_text.specs.Grammar.{Char, Kind, array, object, opening, closing, Key, Value, More}
use Rattle.json_text.specs.Grammar.{put_int, put_frac, put_exp, put_exp_sign, put_chars, put_key, put_value, put_more, text, nesting, more_nesting}
use Rattle.json_text.specs.Room.{Room, left, endless, wider}
use Rattle.json_text.specs.RoomLaws.{Fits, Within, Texts, fits_nothing, fits-max, fits_more}
use Rattle.json_text.specs.Machine.{Ctl, item}
use Rattle.json_text.specs.Machine.{colon, after, in_string, escaping, hex_due, tail_due, word_due, after_minus}
use Rattle.json_text.specs.Machine.{after_zero, in_int, after_point, in_frac, after_e, after_sign, in_exp}
use Rattle.json_text.specs.Machine.{Stack, top, pop, State, dead, at, entered, Rule, one, span, opens, closes, apply, close_rules}
use Rattle.json_text.specs.Machine.{after_rules, hex_rules, closed, rules, takes, pick, step, run, final, is_empty, accept, start}

-- after a value
data After : Stack → Room → List ℕ → Type 0 where
  over : {ρ : Room} (w : Blanks) → After [] ρ (put_blanks w [])
  inside : {x : Kind} {k : Stack} {ρ : Room} {u : List ℕ} (m : More x) → Fits ρ (more_nesting m) → After k (wider ρ) u →
      After (x ∷ k) ρ (put_more m u)

-- an item is due; true: or the closing bracket
data ItemRest (k : Stack) (ρ : Room) : Kind → Bool → List ℕ → Type 0 where
  next : {x : Kind} {f : Bool} {u : List ℕ} (w : Blanks) (key : Key x) (v : Value) → Within ρ v → After k ρ u →
      ItemRest k ρ x f (put_blanks w (put_key x key (put_value v u)))
  shut : {x : Kind} {u : List ℕ} (w : Blanks) → After (pop k) (wider ρ) u → ItemRest k ρ x true (put_blanks w (closing x ∷ u))

data ColonRest (k : Stack) (ρ : Room) : List ℕ → Type 0 where
  colons : {u : List ℕ} (w w' : Blanks) (v : Value) → Within ρ v → After k ρ u →
      ColonRest k ρ (put_blanks w (0x3A ∷ put_blanks w' (put_value v u)))

abbrev ClosedRest : Stack → Room → Bool → List ℕ → Type 0
ClosedRest k ρ true s = ColonRest k ρ s
ClosedRest k ρ false s = After k ρ s

data StringRest (k : Stack) (ρ : Room) (f : Bool) : List ℕ → Type 0 where
  chars : (u : List ℕ) (cs : List Char) → ClosedRest k ρ f u → StringRest k ρ f (put_chars cs (0x22 ∷ u))

data ThenHex (L : List ℕ → Type 0) : List ℕ → Type 0 where
  then_hex : {s : List ℕ} (h : Hex) → L s → ThenHex L (hex_byte h ∷ s)

-- a hexadecimal digit, n more, and then L
abbrev Hexes : ℕ → (List ℕ → Type 0) → List ℕ → Type 0
Hexes zero L = ThenHex L
Hexes (suc n) L = ThenHex (Hexes n L)

data EscapeRest (k : Stack) (ρ : Room) (f : Bool) : List ℕ → Type 0 where
  simple : {s : List ℕ} (x : Escape) → StringRest k ρ f s → EscapeRest k ρ f (escape_byte x ∷ s)
  coded : {s : List ℕ} → Hexes 3 (StringRest k ρ f) s → EscapeRest k ρ f (0x75 ∷ s)

data WordRest (k : Stack) (ρ : Room) (w : List ℕ) : List ℕ → Type 0 where
  letters : {u : List ℕ} → After k ρ u → WordRest k ρ w (w ++ u)

-- digits, and then the end of the number
data ExpRest (k : Stack) (ρ : Room) : List ℕ → Type 0 where
  exps : {u : List ℕ} (ds : List Digit) → After k ρ u → ExpRest k ρ (put_in ds u)

data ERest (k : Stack) (ρ : Room) : List ℕ → Type 0 where
  signed : {s : List ℕ} (g : ExpSign) → Then 0x30 0x39 (ExpRest k ρ) s → ERest k ρ (put_exp_sign g s)

data FracRest (k : Stack) (ρ : Room) : List ℕ → Type 0 where
  fracs : {u : List ℕ} (ds : List Digit) (x : Exp) → After k ρ u → FracRest k ρ (put_in ds (put_exp x u))

data ZeroRest (k : Stack) (ρ : Room) : List ℕ → Type 0 where
  zeros : {u : List ℕ} (y : Frac) (x : Exp) → After k ρ u → ZeroRest k ρ (put_frac y (put_exp x u))

data IntRest (k : Stack) (ρ : Room) : List ℕ → Type 0 where
  ints : {s : List ℕ} (ds : List Digit) → ZeroRest k ρ s → IntRest k ρ (put_in ds s)

data MinusRest (k : Stack) (ρ : Room) : List ℕ → Type 0 where
  minuses : {s : List ℕ} (n : Int) → ZeroRest k ρ s → MinusRest k ρ (put_int n s)

abbrev Rest : Ctl → Stack → Room → List ℕ → Type 0
Rest (item x f) k ρ = ItemRest k ρ x f
Rest colon k ρ = ColonRest k ρ
Rest after k ρ = After k ρ
Rest (in_string f) k ρ = StringRest k ρ f
Rest (escaping f) k ρ = EscapeRest k ρ f
Rest (hex_due n f) k ρ = Hexes n (StringRest k ρ f)
Rest (tail_due p n f) k ρ = Then (second_low p) (second_high p) (Tails n (StringRest k ρ f))
Rest (word_due b bs) k ρ = WordRest k ρ (b ∷ bs)
Rest after_minus k ρ = MinusRest k ρ
Rest after_zero k ρ = ZeroRest k ρ
Rest in_int k ρ = IntRest k ρ
Rest after_point k ρ = Then 0x30 0x39 (FracRest k ρ)
Rest in_frac k ρ = FracRest k ρ
Rest after_e k ρ = ERest k ρ
Rest after_sign k ρ = Then 0x30 0x39 (ExpRest k ρ)
Rest in_exp k ρ = ExpRest k ρ

abbrev RestOf : State → List ℕ → Type 0
RestOf dead s = ⊥
RestOf (at c k ρ) s = Rest c k ρ s

-- the rule leads back to L
abbrev Back : (List ℕ → Type 0) → Stack → Room → Rule → Type 0
Back L k ρ (one n c) = (s : List ℕ) → Rest c k ρ s → L (n ∷ s)
Back L k ρ (span lo hi c) = (b : In lo hi) (s : List ℕ) → Rest c k ρ s → L (b.byte ∷ s)
Back L k ρ (opens x) = (s : List ℕ) → RestOf (entered x k ρ) s → L (opening x ∷ s)
Back L k ρ (closes x) = (s : List ℕ) → After (pop k) (wider ρ) s → L (closing x ∷ s)

abbrev Backs : (List ℕ → Type 0) → Stack → Room → List Rule → Type 0
Backs L k ρ [] = Unit {0}
Backs L k ρ (r ∷ rs) = Back L k ρ r × Backs L k ρ rs

the_byte : (n b : ℕ) → leb n b && leb b n ≡ true → n ≡ b
the_byte n b e =
    let q = (and-eq-true_iff (leb n b) (leb b n)).0 e in
    omega (arith, leb-true n b q.0, leb-true b n q.1)

back_rule : (L : List ℕ → Type 0) (k : Stack) (ρ : Room) (r : Rule) (b : ℕ) (s : List ℕ) → Back L k ρ r → takes r b ≡ true →
    RestOf (apply r k ρ) s → L (b ∷ s)
back_rule L k ρ (one n c) b s h e r = rw (the_byte n b e) at (h s r)
back_rule L k ρ (span lo hi c) b s h e r = h (record { byte = b; ok = to_T e }) s r
back_rule L k ρ (opens x) b s h e r = rw (the_byte (opening x) b e) at (h s r)
back_rule L k ρ (closes x) b s h e r = rw (the_byte (closing x) b e) at (h s r)

back_pick : (L : List ℕ → Type 0) (k : Stack) (ρ : Room) (rs : List Rule) (b : ℕ) (s : List ℕ) → Backs L k ρ rs → RestOf (pick rs b k ρ) s →
    L (b ∷ s)
unfolding pick
back_pick L k ρ [] b s h r = absurd r
back_pick L k ρ (x ∷ rs) b s h r = by (takes x b) refl r (λ q. back_pick L k ρ rs b s h.1 q)
  where
    by : (t : Bool) → takes x b ≡ t → RestOf (elim t [ true ↦ apply x k ρ | false ↦ pick rs b k ρ ]) s →
        (RestOf (pick rs b k ρ) s → L (b ∷ s)) → L (b ∷ s)
    by true e q again = back_rule L k ρ x b s h.0 e q
    by false e q again = again q

-- through an inclusion
widen : (L M : List ℕ → Type 0) (k : Stack) (ρ : Room) (rs : List Rule) → ((s : List ℕ) → L s → M s) → Backs L k ρ rs → Backs M k ρ rs
widen L M k ρ [] f h = tt
widen L M k ρ (one n c ∷ rs) f h = ((λ s r. f (n ∷ s) (h.0 s r)), widen L M k ρ rs f h.1)
widen L M k ρ (span lo hi c ∷ rs) f h = ((λ b s r. f (b.byte ∷ s) (h.0 b s r)), widen L M k ρ rs f h.1)
widen L M k ρ (opens x ∷ rs) f h = ((λ s r. f (opening x ∷ s) (h.0 s r)), widen L M k ρ rs f h.1)
widen L M k ρ (closes x ∷ rs) f h = ((λ s r. f (closing x ∷ s) (h.0 s r)), widen L M k ρ rs f h.1)

-- after a value
after_blank : {k : Stack} {ρ : Room} (b : Blank) (s : List ℕ) → After k ρ s → After k ρ (blank_byte b ∷ s)
unfolding put_blanks put_more more_nesting
after_blank b s (over w) = over (b ∷ w)
after_blank b s (inside (G.end w) q a) = inside (G.end (b ∷ w)) q a
after_blank b s (inside (G.more w w' key v m) q a) = inside (G.more (b ∷ w) w' key v m) q a

after_comma : {x : Kind} {k : Stack} {ρ : Room} (s : List ℕ) → ItemRest (x ∷ k) ρ x false s → After (x ∷ k) ρ (0x2C ∷ s)
unfolding put_blanks put_more more_nesting
after_comma {x} {k} {ρ} s (next w key v q (inside m q' a)) = inside (G.more [] w key v m) (fits-max ρ (nesting v) (more_nesting m) q q') a

after_close : {x : Kind} {k : Stack} {ρ : Room} (s : List ℕ) → After k (wider ρ) s → After (x ∷ k) ρ (closing x ∷ s)
unfolding put_blanks put_more more_nesting
after_close {x} {k} {ρ} s a = inside (G.end []) (fits_nothing ρ) a

back_after : (k : Stack) (ρ : Room) → Backs (After k ρ) k ρ (after_rules (top k))
back_after [] ρ = (after_blank B.space, (after_blank B.feed, (after_blank B.return, (after_blank B.tab, tt))))
back_after (x ∷ k) ρ =
    (after_blank B.space, (after_blank B.feed, (after_blank B.return, (after_blank B.tab, (after_comma, (after_close, tt))))))

-- an item is due
item_blank : {k : Stack} {ρ : Room} {x : Kind} {f : Bool} (b : Blank) (s : List ℕ) → ItemRest k ρ x f s → ItemRest k ρ x f (blank_byte b ∷ s)
unfolding put_blanks
item_blank b s (next w key v q a) = next (b ∷ w) key v q a
item_blank b s (shut w a) = shut (b ∷ w) a

item_close : {k : Stack} {ρ : Room} {x : Kind} (s : List ℕ) → After (pop k) (wider ρ) s → ItemRest k ρ x true (closing x ∷ s)
unfolding put_blanks
item_close s a = shut [] a

back_close : (f : Bool) (x : Kind) (k : Stack) (ρ : Room) → Backs (ItemRest k ρ x f) k ρ (close_rules f x)
back_close true x k ρ = (item_close, tt)
back_close false x k ρ = tt

-- a member is due
name_open : {k : Stack} {ρ : Room} {f : Bool} (s : List ℕ) → StringRest k ρ true s → ItemRest k ρ object f (0x22 ∷ s)
unfolding put_blanks put_key
name_open s (chars u cs (colons w w' v q a)) = next {x = object} [] (record { chars = cs; before = w; after = w' }) v q a

colon_blank : {k : Stack} {ρ : Room} (b : Blank) (s : List ℕ) → ColonRest k ρ s → ColonRest k ρ (blank_byte b ∷ s)
unfolding put_blanks
colon_blank b s (colons w w' v q a) = colons (b ∷ w) w' v q a

colon_colon : {k : Stack} {ρ : Room} (s : List ℕ) → ItemRest k ρ array false s → ColonRest k ρ (0x3A ∷ s)
unfolding put_blanks put_key
colon_colon s (next w key v q a) = colons [] w v q a

-- a value is due: its first byte
module _ {k : Stack} {ρ : Room} {f : Bool} where
  value_digit : (b : In 0x31 0x39) (s : List ℕ) → IntRest k ρ s → ItemRest k ρ array f (b.byte ∷ s)
  unfolding put_blanks put_key put_value nesting
  value_digit b s (ints ds (zeros y x a)) = next [] tt (G.number G.unsigned (G.whole b ds) y x) (fits_nothing ρ) a

  value_zero : (s : List ℕ) → ZeroRest k ρ s → ItemRest k ρ array f (0x30 ∷ s)
  unfolding put_blanks put_key put_value nesting
  value_zero s (zeros y x a) = next [] tt (G.number G.unsigned G.nought y x) (fits_nothing ρ) a

  value_minus : (s : List ℕ) → MinusRest k ρ s → ItemRest k ρ array f (0x2D ∷ s)
  unfolding put_blanks put_key put_value nesting
  value_minus s (minuses n (zeros y x a)) = next [] tt (G.number G.minus n y x) (fits_nothing ρ) a

  value_quote : (s : List ℕ) → StringRest k ρ false s → ItemRest k ρ array f (0x22 ∷ s)
  unfolding put_blanks put_key put_value nesting
  value_quote s (chars u cs a) = next [] tt (G.string cs) (fits_nothing ρ) a

  value_false : (s : List ℕ) → WordRest k ρ (0x61 ∷ 0x6C ∷ 0x73 ∷ 0x65 ∷ []) s → ItemRest k ρ array f (0x66 ∷ s)
  unfolding put_blanks put_key put_value nesting
  value_false s (letters a) = next [] tt (G.literal G.false_name) (fits_nothing ρ) a

  value_null : (s : List ℕ) → WordRest k ρ (0x75 ∷ 0x6C ∷ 0x6C ∷ []) s → ItemRest k ρ array f (0x6E ∷ s)
  unfolding put_blanks put_key put_value nesting
  value_null s (letters a) = next [] tt (G.literal G.null_name) (fits_nothing ρ) a

  value_true : (s : List ℕ) → WordRest k ρ (0x72 ∷ 0x75 ∷ 0x65 ∷ []) s → ItemRest k ρ array f (0x74 ∷ s)
  unfolding put_blanks put_key put_value nesting
  value_true s (letters a) = next [] tt (G.literal G.true_name) (fits_nothing ρ) a

container_open : {x : Kind} {k : Stack} {f : Bool} (ρ : Room) (s : List ℕ) → ItemRest (x ∷ k) ρ x true s →
    ItemRest k (wider ρ) array f (opening x ∷ s)
unfolding put_blanks put_key put_value nesting
container_open {x} ρ s (next w key v q (inside m q' a)) =
    next [] tt (G.container x (G.items w key v m))
    (fits_more ρ (max (nesting v) (more_nesting m)) (fits-max ρ (nesting v) (more_nesting m) q q')) a
container_open {x} ρ s (shut w a) = next [] tt (G.container x (G.empty w)) (fits_more ρ 0 (fits_nothing ρ)) a

value_open : {k : Stack} {f : Bool} (x : Kind) (ρ : Room) (s : List ℕ) → RestOf (entered x k ρ) s → ItemRest k ρ array f (opening x ∷ s)
value_open x (left zero) s r = absurd r
value_open x (left (suc n)) s r = container_open (left n) s r
value_open x endless s r = container_open endless s r

-- in a string
module _ {k : Stack} {ρ : Room} {f : Bool} where
  string_low : (b : In 0x20 0x21) (s : List ℕ) → StringRest k ρ f s → StringRest k ρ f (b.byte ∷ s)
  unfolding put_chars
  string_low b s (chars u cs a) = chars u (G.low b ∷ cs) a

  string_mid : (b : In 0x23 0x5B) (s : List ℕ) → StringRest k ρ f s → StringRest k ρ f (b.byte ∷ s)
  unfolding put_chars
  string_mid b s (chars u cs a) = chars u (G.mid b ∷ cs) a

  string_high : (b : In 0x5D 0x7F) (s : List ℕ) → StringRest k ρ f s → StringRest k ρ f (b.byte ∷ s)
  unfolding put_chars
  string_high b s (chars u cs a) = chars u (G.high b ∷ cs) a

  string_escape : (s : List ℕ) → EscapeRest k ρ f s → StringRest k ρ f (0x5C ∷ s)
  unfolding put_chars
  string_escape s (simple x (chars u cs a)) = chars u (G.escaped x ∷ cs) a
  string_escape s (coded (then_hex x (then_hex y (then_hex z (then_hex w (chars u cs a)))))) = chars u (G.unicode x y z w ∷ cs) a

  string_c2 : (b : In 0xC2 0xDF) (s : List ℕ) → Rest (tail_due any_tail 0 f) k ρ s → StringRest k ρ f (b.byte ∷ s)
  unfolding put_chars
  string_c2 b s (then y (chars u cs a)) = chars u (G.wide (U.c2_df b y) ∷ cs) a

  string_e0 : (b : In 0xE0 0xE0) (s : List ℕ) → Rest (tail_due after_e0 1 f) k ρ s → StringRest k ρ f (b.byte ∷ s)
  unfolding put_chars
  string_e0 b s (then y (then z (chars u cs a))) = chars u (G.wide (U.e0 b y z) ∷ cs) a

  string_e1 : (b : In 0xE1 0xEC) (s : List ℕ) → Rest (tail_due any_tail 1 f) k ρ s → StringRest k ρ f (b.byte ∷ s)
  unfolding put_chars
  string_e1 b s (then y (then z (chars u cs a))) = chars u (G.wide (U.e1_ec b y z) ∷ cs) a

  string_ed : (b : In 0xED 0xED) (s : List ℕ) → Rest (tail_due after_ed 1 f) k ρ s → StringRest k ρ f (b.byte ∷ s)
  unfolding put_chars
  string_ed b s (then y (then z (chars u cs a))) = chars u (G.wide (U.ed b y z) ∷ cs) a

  string_ee : (b : In 0xEE 0xEF) (s : List ℕ) → Rest (tail_due any_tail 1 f) k ρ s → StringRest k ρ f (b.byte ∷ s)
  unfolding put_chars
  string_ee b s (then y (then z (chars u cs a))) = chars u (G.wide (U.ee_ef b y z) ∷ cs) a

  string_f0 : (b : In 0xF0 0xF0) (s : List ℕ) → Rest (tail_due after_f0 2 f) k ρ s → StringRest k ρ f (b.byte ∷ s)
  unfolding put_chars
  string_f0 b s (then y (then z (then w (chars u cs a)))) = chars u (G.wide (U.f0 b y z w) ∷ cs) a

  string_f1 : (b : In 0xF1 0xF3) (s : List ℕ) → Rest (tail_due any_tail 2 f) k ρ s → StringRest k ρ f (b.byte ∷ s)
  unfolding put_chars
  string_f1 b s (then y (then z (then w (chars u cs a)))) = chars u (G.wide (U.f1_f3 b y z w) ∷ cs) a

  string_f4 : (b : In 0xF4 0xF4) (s : List ℕ) → Rest (tail_due after_f4 2 f) k ρ s → StringRest k ρ f (b.byte ∷ s)
  unfolding put_chars
  string_f4 b s (then y (then z (then w (chars u cs a)))) = chars u (G.wide (U.f4 b y z w) ∷ cs) a

string_close : {k : Stack} {ρ : Room} (f : Bool) (s : List ℕ) → Rest (closed f) k ρ s → StringRest k ρ f (0x22 ∷ s)
unfolding put_chars
string_close true s a = chars s [] a
string_close false s a = chars s [] a

-- a byte of the range that is due, a hexadecimal digit, a letter
in_range : {lo hi : ℕ} {L : List ℕ → Type 0} (b : In lo hi) (s : List ℕ) → L s → Then lo hi L (b.byte ∷ s)
in_range b s r = then b r

back_hex : (c : Ctl) (k : Stack) (ρ : Room) → Backs (ThenHex (Rest c k ρ)) k ρ (hex_rules c)
back_hex c k ρ = ((λ b s r. then_hex (H.digit b) r), ((λ b s r. then_hex (H.upper b) r), ((λ b s r. then_hex (H.lower b) r), tt)))

letter : {k : Stack} {ρ : Room} {w : List ℕ} (n : ℕ) (s : List ℕ) → WordRest k ρ w s → WordRest k ρ (n ∷ w) (n ∷ s)
letter n s (letters a) = letters a

last_letter : {k : Stack} {ρ : Room} (n : ℕ) (s : List ℕ) → After k ρ s → WordRest k ρ (n ∷ []) (n ∷ s)
last_letter n s a = letters a

-- numbers
module _ {k : Stack} {ρ : Room} where
  exp_over : (s : List ℕ) → After k ρ s → ExpRest k ρ s
  unfolding put_in
  exp_over s a = exps [] a

  exp_digit : (b : Digit) (s : List ℕ) → ExpRest k ρ s → ExpRest k ρ (b.byte ∷ s)
  unfolding put_in
  exp_digit b s (exps ds a) = exps (b ∷ ds) a

  e_digit : (b : Digit) (s : List ℕ) → ExpRest k ρ s → ERest k ρ (b.byte ∷ s)
  unfolding put_exp_sign
  e_digit b s r = signed G.bare (then b r)

  e_plus : (s : List ℕ) → Then 0x30 0x39 (ExpRest k ρ) s → ERest k ρ (0x2B ∷ s)
  unfolding put_exp_sign
  e_plus s r = signed G.positive r

  e_minus : (s : List ℕ) → Then 0x30 0x39 (ExpRest k ρ) s → ERest k ρ (0x2D ∷ s)
  unfolding put_exp_sign
  e_minus s r = signed G.negative r

  frac_over : (s : List ℕ) → After k ρ s → FracRest k ρ s
  unfolding put_in put_exp
  frac_over s a = fracs [] G.noexp a

  frac_digit : (b : Digit) (s : List ℕ) → FracRest k ρ s → FracRest k ρ (b.byte ∷ s)
  unfolding put_in
  frac_digit b s (fracs ds x a) = fracs (b ∷ ds) x a

  frac_e : (x : E) (s : List ℕ) → ERest k ρ s → FracRest k ρ (e_byte x ∷ s)
  unfolding put_in put_exp
  frac_e x s (signed g (then b (exps ds a))) = fracs [] (G.exp x g b ds) a

  zero-over : (s : List ℕ) → After k ρ s → ZeroRest k ρ s
  unfolding put_frac put_exp
  zero-over s a = zeros G.nofrac G.noexp a

  zero_point : (s : List ℕ) → Then 0x30 0x39 (FracRest k ρ) s → ZeroRest k ρ (0x2E ∷ s)
  unfolding put_frac
  zero_point s (then b (fracs ds x a)) = zeros (G.frac b ds) x a

  zero_e : (x : E) (s : List ℕ) → ERest k ρ s → ZeroRest k ρ (e_byte x ∷ s)
  unfolding put_frac put_exp
  zero_e x s (signed g (then b (exps ds a))) = zeros G.nofrac (G.exp x g b ds) a

  int_over : (s : List ℕ) → ZeroRest k ρ s → IntRest k ρ s
  unfolding put_in
  int_over s r = ints [] r

  int_digit : (b : Digit) (s : List ℕ) → IntRest k ρ s → IntRest k ρ (b.byte ∷ s)
  unfolding put_in
  int_digit b s (ints ds r) = ints (b ∷ ds) r

  minus_digit : (b : In 0x31 0x39) (s : List ℕ) → IntRest k ρ s → MinusRest k ρ (b.byte ∷ s)
  unfolding put_int
  minus_digit b s (ints ds r) = minuses (G.whole b ds) r

  minus_zero : (s : List ℕ) → ZeroRest k ρ s → MinusRest k ρ (0x30 ∷ s)
  unfolding put_int
  minus_zero s r = minuses G.nought r

back-zero : (k : Stack) (ρ : Room) → Backs (ZeroRest k ρ) k ρ (rules after_zero (top k))
back-zero k ρ =
    (zero_point, (zero_e G.small, (zero_e G.big, widen (After k ρ) (ZeroRest k ρ) k ρ (after_rules (top k)) zero-over (back_after k ρ))))

-- every rule of every control state
back : (c : Ctl) (k : Stack) (ρ : Room) → Backs (Rest c k ρ) k ρ (rules c (top k))
back (item array f) k ρ = (
  value_digit,
  (
    item_blank B.space,
    (
      item_blank B.feed,
      (
        item_blank B.return,
        (
          item_blank B.tab,
          (
            value_zero,
            (
              value_minus,
              (
                value_quote,
                (
                  value_false,
                  (
                    value_null,
                    (
                      value_true,
                      (
                        value_open array ρ,
                        (
                          value_open object ρ,
                          back_close f array k ρ,
                        ),
                      ),
                    ),
                  ),
                ),
              ),
            ),
          ),
        ),
      ),
    ),
  ),
)
back (item object f) k ρ =
    (item_blank B.space, (item_blank B.feed, (item_blank B.return, (item_blank B.tab, (name_open, back_close f object k ρ)))))
back colon k ρ = (colon_blank B.space, (colon_blank B.feed, (colon_blank B.return, (colon_blank B.tab, (colon_colon, tt)))))
back after k ρ = back_after k ρ
back (in_string f) k ρ = (
  string_low,
  (
    string_mid,
    (
      string_high,
      (
        string_close f,
        (
          string_escape,
          (
            string_c2,
            (
              string_e0,
              (
                string_e1,
                (
                  string_ed,
                  (string_ee, (string_f0, (string_f1, (string_f4, tt)))),
                ),
              ),
            ),
          ),
        ),
      ),
    ),
  ),
)
back (escaping f) k ρ = (
  (λ s r. simple G.quote r),
  (
    (λ s r. simple G.backslash r),
    (
      (λ s r. simple G.slash r),
      (
        (λ s r. simple G.backspace r),
        (
          (λ s r. simple G.form r),
          (
            (λ s r. simple G.line r),
            (
              (λ s r. simple G.carriage r),
              (
                (λ s r. simple G.tabulator r),
                ((λ s r. coded r), tt),
              ),
            ),
          ),
        ),
      ),
    ),
  ),
)
back (hex_due zero f) k ρ = back_hex (in_string f) k ρ
back (hex_due (suc n) f) k ρ = back_hex (hex_due n f) k ρ
back (tail_due p zero f) k ρ = (in_range, tt)
back (tail_due p (suc n) f) k ρ = (in_range, tt)
back (word_due b []) k ρ = (last_letter b, tt)
back (word_due b (b' ∷ bs)) k ρ = (letter b, tt)
back after_minus k ρ = (minus_digit, (minus_zero, tt))
back after_zero k ρ = back-zero k ρ
back in_int k ρ = (int_digit, widen (ZeroRest k ρ) (IntRest k ρ) k ρ (rules after_zero (top k)) int_over (back-zero k ρ))
back after_point k ρ = (in_range, tt)
back in_frac k ρ =
    (frac_digit, (frac_e G.small, (frac_e G.big, widen (After k ρ) (FracRest k ρ) k ρ (after_rules (top k)) frac_over (back_after k ρ))))
back after_e k ρ = (e_digit, (e_plus, (e_minus, tt)))
back after_sign k ρ = (in_range, tt)
back in_exp k ρ = (exp_digit, widen (After k ρ) (ExpRest k ρ) k ρ (after_rules (top k)) exp_over (back_after k ρ))

back_step : (st : State) (b : ℕ) (s : List ℕ) → RestOf (step st b) s → RestOf st (b ∷ s)
unfolding step
back_step dead b s r = r
back_step (at c k ρ) b s r = back_pick (Rest c k ρ) k ρ (rules c (top k)) b s (back c k ρ) r

-- nothing is left
done_after : (k : Stack) (ρ : Room) → is_empty k ≡ true → After k ρ []
unfolding put_blanks
done_after [] ρ e = over []
done_after (x ∷ k) ρ e = absurd (to_T e)

done : (c : Ctl) (k : Stack) (ρ : Room) → final c ≡ true → is_empty k ≡ true → Rest c k ρ []
done (item x o) k ρ f e = absurd (to_T f)
done colon k ρ f e = absurd (to_T f)
done after k ρ f e = done_after k ρ e
done (in_string o) k ρ f e = absurd (to_T f)
done (escaping o) k ρ f e = absurd (to_T f)
done (hex_due n o) k ρ f e = absurd (to_T f)
done (tail_due p n o) k ρ f e = absurd (to_T f)
done (word_due b bs) k ρ f e = absurd (to_T f)
done after_minus k ρ f e = absurd (to_T f)
done after_zero k ρ f e = zero-over [] (done_after k ρ e)
done in_int k ρ f e = int_over [] (zero-over [] (done_after k ρ e))
done after_point k ρ f e = absurd (to_T f)
done in_frac k ρ f e = frac_over [] (done_after k ρ e)
done after_e k ρ f e = absurd (to_T f)
done after_sign k ρ f e = absurd (to_T f)
done in_exp k ρ f e = exp_over [] (done_after k ρ e)

rest : (st : State) (s : List ℕ) → accept (run st s) ≡ true → RestOf st s
unfolding run
rest dead [] e = absurd (to_T e)
rest (at c k ρ) [] e = let q = (and-eq-true_iff (final c) (is_empty k)).0 e in done c k ρ q.0 q.1
rest st (b ∷ s) e = back_step st b s (rest (step st b) s e)

text_of : (ρ : Room) (s : List ℕ) → ItemRest [] ρ array false s → Texts ρ s
unfolding text put_key
text_of (left n) s (next w key v q (over w')) = record { tree = record { before = w; value = v; after = w' }; written = refl; shallow = q }
text_of endless s (next w key v q (over w')) = record { tree = record { before = w; value = v; after = w' }; written = refl }

-- what the machine accepts is a text of the grammar
pub sound : (ρ : Room) (s : List ℕ) → accept (run (start ρ) s) ≡ true → Texts ρ s
sound ρ s e = text_of ρ s (rest (start ρ) s e)
