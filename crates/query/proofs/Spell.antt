-- Laws of reading: one byte, the letters of a name, blanks. Assumes nothing.
use Rattle.std.specs.Prelude.{◌≡◌, List, [], ◌∷◌, ◌++◌, Bool, true, false, ◌||◌, ℕ, suc, ◌+◌, length}
use Rattle.std.proofs.Math.Path.{refl}
use Rattle.std.proofs.Common.{ap, ap₂, sym, ◌∙◌, append_assoc, arith, length-append}
use Rattle.std.proofs.Math.Option.{some}
use Rattle.bits.specs.Truth.{of_T}
use Rattle.encoding.specs.Bytes as B
use Rattle.encoding.specs.Bytes.{In, Blank, Blanks, blank_byte, put_blanks}
use Rattle.encoding.specs.Hex as H
use Rattle.encoding.specs.Hex.{Hex, hex_byte}
use Rattle.encoding.specs.Utf8 as U
use Rattle.encoding.specs.Utf8.{Wide, Tail, put_wide, Second, any_tail, after_e0, after_ed, after_f0, after_f4, second_low, second_high}
use Rattle.query.specs.Escapes as E
use Rattle.query.specs.Escapes.{Escape, escape_byte, NotD, not_d_byte, D, d_byte, EightToB, eight_to_b_byte, CToF, c_to_f_byte, HexChar, put_hex_char}
use Rattle.query.specs.Grammar as G
use Rattle.query.specs.Grammar.{First, Later, Quote, quote_byte, Char}
use Rattle.query.specs.Grammar.{put_first, put_later, put_laters, put_char, put_chars}
use Rattle.query.specs.Machine as M
use Rattle.query.specs.Machine.{Home, short, quoted, kind, behind_d_of, digits, high_digits_of, low_backslash, low_u, low_d, low_digit}
use Rattle.query.specs.Machine.{Control, root, done, gap, opened, closing, in_position, inside, in_escape, tail_due, State, dead, at, Rule, range}
use Rattle.query.specs.Machine.{wide_rules, first_rules, hex_rules, tails_due, rules, step}
use Rattle.query.specs.Read.{Event, keep, begin, letter, is_dotted, is_opened, taken_behind, event, Placed, named, Reading, good, bad, note, reading}
use Rattle.query.specs.MachineLaws.{hit, landing, leads_in}
use Rattle.query.specs.Append.{append-later, append_char}

-- one byte

pub turn : (c k : Control) (n b : ℕ) (s : List ℕ) → step (at c) b ≡ at k → reading c n (b ∷ s) ≡ note (event c k) n b (reading k (suc n) s)
unfolding reading
turn c k n b s e = rw (e, reading)

pub stop : (c : Control) (n b : ℕ) (s : List ℕ) → step (at c) b ≡ dead → reading c n (b ∷ s) ≡ bad n
unfolding reading
stop c n b s e = rw (e, reading)

pub moved : (c : Control) (m n : ℕ) (u : List ℕ) → m ≡ n → reading c m u ≡ reading c n u
moved c m n u e = ap (λ (k : ℕ). reading c k u) e

-- letters of a name

unfoldable pub spell : List ℕ → Reading → Reading
spell [] r = r
spell (b ∷ w) r = note letter 0 b (spell w r)

pub spell-append : (v w : List ℕ) (r : Reading) → spell (v ++ w) r ≡ spell v (spell w r)
unfolding spell
spell-append [] w r = refl
spell-append (b ∷ v) w r = ap (note letter 0 b) (spell-append v w r)

pub spell_named : (w : List ℕ) (l : List Placed) → spell w (good (named [] l)) ≡ good (named w l)
unfolding spell
spell_named [] l = refl
spell_named (b ∷ w) l = ap (note letter 0 b) (spell_named w l)

pub spell_bad : (w : List ℕ) (p : ℕ) → spell w (bad p) ≡ bad p
unfolding spell
spell_bad [] p = refl
spell_bad (b ∷ w) p = ap (note letter 0 b) (spell_bad w p)

-- these bytes are all letters of a name, and lead from the first control state to the second
abbrev pub Spells : Control → List ℕ → Control → Type 0
Spells c w k = (n : ℕ) (u : List ℕ) → reading c n (w ++ u) ≡ spell w (reading k (n + length w) u)

note_letter : (n m b : ℕ) (r : Reading) → note letter n b r ≡ note letter m b r
note_letter n m b (good a) = refl
note_letter n m b (bad p) = refl

pub spells_nil : (c : Control) → Spells c [] c
unfolding spell
spells_nil c n u = moved c n (n + 0) u (omega arith)

pub spells_cons : (c k l : Control) (b : ℕ) (w : List ℕ) → step (at c) b ≡ at k → event c k ≡ letter → Spells k w l → Spells c (b ∷ w) l
unfolding spell
spells_cons c k l b w e f g n u =
    turn c k n b (w ++ u) e ∙ ap (λ (x : Event). note x n b (reading k (suc n) (w ++ u))) f ∙ note_letter n 0 b (reading k (suc n) (w ++ u)) ∙
    ap (note letter 0 b) (g (suc n) u ∙ ap (spell w) (moved l (suc n + length w) (n + suc (length w)) u (omega arith)))

pub spells_append : (c k l : Control) (v w : List ℕ) → Spells c v k → Spells k w l → Spells c (v ++ w) l
spells_append c k l v w f g n u =
    ap (reading c n) (append_assoc v w u) ∙ f n (w ++ u) ∙ ap (spell v) (g (n + length v) u) ∙
    sym (spell-append v w (reading l (n + length v + length w) u)) ∙
    ap (spell (v ++ w)) (moved l (n + length v + length w) (n + length (v ++ w)) u (omega (arith, length-append v w)))

-- code points

tail : (p : Second) (m : ℕ) (h : Home) (x : In (second_low p) (second_high p)) → step (at (tail_due p m h)) x.byte ≡ at (tails_due m h)
unfolding step
tail p m h x = hit (range (second_low p) (second_high p) (tails_due m h)) [] x.byte (of_T _ x.ok)

pub spells_last : (p : Second) (h : Home) (x : In (second_low p) (second_high p)) → Spells (tail_due p 0 h) (x.byte ∷ []) (inside h)
spells_last p h x = spells_cons _ (inside h) (inside h) x.byte [] (tail p 0 h x) refl (spells_nil (inside h))

pub spells_last_two : (p : Second) (h : Home) (x : In (second_low p) (second_high p)) (y : Tail) →
    Spells (tail_due p 1 h) (x.byte ∷ y.byte ∷ []) (inside h)
spells_last_two p h x y = spells_cons _ (tail_due any_tail 0 h) (inside h) x.byte _ (tail p 1 h x) refl (spells_last any_tail h y)

pub spells_last_three : (p : Second) (h : Home) (x : In (second_low p) (second_high p)) (y z : Tail) →
    Spells (tail_due p 2 h) (x.byte ∷ y.byte ∷ z.byte ∷ []) (inside h)
spells_last_three p h x y z = spells_cons _ (tail_due any_tail 1 h) (inside h) x.byte _ (tail p 2 h x) refl (spells_last_two any_tail h y z)

module _ (c : Control) (h : Home) (rs : List Rule) (e : rules c ≡ wide_rules h rs) where
  lead : {lo hi : ℕ} (x : In lo hi) (k : Control) → landing lo hi (wide_rules h rs) ≡ some (at k) → step (at c) x.byte ≡ at k
  lead x k f = leads_in c x (at k) (rw e f)

  pub spells_wide : (p : Wide) → Spells c (put_wide p []) (inside h)
  unfolding put_wide landing
  spells_wide (U.c2_df x y) = spells_cons c _ _ _ _ (lead x (tail_due any_tail 0 h) refl) refl (spells_last any_tail h y)
  spells_wide (U.e0 x y z) = spells_cons c _ _ _ _ (lead x (tail_due after_e0 1 h) refl) refl (spells_last_two after_e0 h y z)
  spells_wide (U.e1_ec x y z) = spells_cons c _ _ _ _ (lead x (tail_due any_tail 1 h) refl) refl (spells_last_two any_tail h y z)
  spells_wide (U.ed x y z) = spells_cons c _ _ _ _ (lead x (tail_due after_ed 1 h) refl) refl (spells_last_two after_ed h y z)
  spells_wide (U.ee_ef x y z) = spells_cons c _ _ _ _ (lead x (tail_due any_tail 1 h) refl) refl (spells_last_two any_tail h y z)
  spells_wide (U.f0 x y z w) = spells_cons c _ _ _ _ (lead x (tail_due after_f0 2 h) refl) refl (spells_last_three after_f0 h y z w)
  spells_wide (U.f1_f3 x y z w) = spells_cons c _ _ _ _ (lead x (tail_due any_tail 2 h) refl) refl (spells_last_three any_tail h y z w)
  spells_wide (U.f4 x y z w) = spells_cons c _ _ _ _ (lead x (tail_due after_f4 2 h) refl) refl (spells_last_three after_f4 h y z w)

-- names

-- a byte of a range that is a letter by itself
spells_byte : (c : Control) (h : Home) {lo hi : ℕ} (x : In lo hi) → landing lo hi (rules c) ≡ some (at (inside h)) →
    event c (inside h) ≡ letter → Spells c (x.byte ∷ []) (inside h)
spells_byte c h x e f = spells_cons c (inside h) (inside h) x.byte [] (leads_in c x (at (inside h)) e) f (spells_nil (inside h))

line : In 0x5F 0x5F
line = record { byte = 0x5F; ok = tt }

pub spells_first : (c : Control) (rs : List Rule) → rules c ≡ first_rules rs → event c (inside short) ≡ letter → (x : First) →
    Spells c (put_first x []) (inside short)
unfolding put_first landing line
spells_first c rs e f (G.upper x) = spells_byte c short x (rw e refl) f
spells_first c rs e f (G.lower x) = spells_byte c short x (rw e refl) f
spells_first c rs e f G.underscore = spells_byte c short line (rw e refl) f
spells_first c rs e f (First.wide p) = spells_wide c short _ e p

pub spells_later : (c : Later) → Spells (inside short) (put_later c []) (inside short)
unfolding put_later landing
spells_later (G.first x) = spells_first (inside short) _ refl refl x
spells_later (G.digit x) = spells_byte (inside short) short x refl refl

pub spells_laters : (cs : List Later) → Spells (inside short) (put_laters cs []) (inside short)
unfolding put_laters
spells_laters [] = spells_nil (inside short)
spells_laters (c ∷ cs) = rw (append-later c [] (put_laters cs []))
    (spells_append _ (inside short) _ (put_later c []) (put_laters cs []) (spells_later c) (spells_laters cs))

-- escapes

-- a hexadecimal digit, and then letters
spells_hex : (c k l : Control) → rules c ≡ hex_rules k → event c k ≡ letter → (x : Hex) (w : List ℕ) → Spells k w l → Spells c (hex_byte x ∷ w) l
unfolding landing
spells_hex c k l e f (H.digit x) w g = spells_cons c k l x.byte w (leads_in c x (at k) (rw e refl)) f g
spells_hex c k l e f (H.upper x) w g = spells_cons c k l x.byte w (leads_in c x (at k) (rw e refl)) f g
spells_hex c k l e f (H.lower x) w g = spells_cons c k l x.byte w (leads_in c x (at k) (rw e refl)) f g

-- either D
leads_d : (c k : Control) → step (at c) 0x44 ≡ at k → step (at c) 0x64 ≡ at k → (x : D) → step (at c) (d_byte x) ≡ at k
leads_d c k e f E.upper = e
leads_d c k e f E.lower = f

module _ (q : Quote) where
  leads_not_d : (x : NotD) → step (at (in_escape M.first q)) (not_d_byte x) ≡ at (in_escape (digits 2) q)
  unfolding landing
  leads_not_d (E.digit x) = leads_in (in_escape M.first q) x _ refl
  leads_not_d (E.upper_a_c x) = leads_in (in_escape M.first q) x _ refl
  leads_not_d (E.upper_e_f x) = leads_in (in_escape M.first q) x _ refl
  leads_not_d (E.lower_a_c x) = leads_in (in_escape M.first q) x _ refl
  leads_not_d (E.lower_e_f x) = leads_in (in_escape M.first q) x _ refl

  leads_high : (y : EightToB) → step (at (in_escape behind_d_of q)) (eight_to_b_byte y) ≡ at (in_escape (high_digits_of 1) q)
  unfolding landing
  leads_high (E.digit y) = leads_in (in_escape behind_d_of q) y _ refl
  leads_high (E.upper y) = leads_in (in_escape behind_d_of q) y _ refl
  leads_high (E.lower y) = leads_in (in_escape behind_d_of q) y _ refl

  leads_low : (y : CToF) → step (at (in_escape low_digit q)) (c_to_f_byte y) ≡ at (in_escape (digits 1) q)
  unfolding landing
  leads_low (E.upper y) = leads_in (in_escape low_digit q) y _ refl
  leads_low (E.lower y) = leads_in (in_escape low_digit q) y _ refl

  -- the last two digits
  spells_two : (z w : Hex) → Spells (in_escape (digits 1) q) (hex_byte z ∷ hex_byte w ∷ []) (inside (quoted q))
  spells_two z w =
      spells_hex _ (in_escape (digits 0) q) _ refl refl z _ (spells_hex _ (inside (quoted q)) _ refl refl w [] (spells_nil (inside (quoted q))))

  spells_low : (x : D) (y : CToF) (z w : Hex) →
      Spells (in_escape low_backslash q) (0x5C ∷ 0x75 ∷ d_byte x ∷ c_to_f_byte y ∷ hex_byte z ∷ hex_byte w ∷ []) (inside (quoted q))
  unfolding step
  spells_low x y z w =
      spells_cons _ (in_escape low_u q) _ 0x5C _ refl refl
      (spells_cons _ (in_escape low_d q) _ 0x75 _ refl refl
      (spells_cons _ (in_escape low_digit q) _ (d_byte x) _ (leads_d (in_escape low_d q) (in_escape low_digit q) refl refl x) refl
      (spells_cons _ (in_escape (digits 1) q) _ (c_to_f_byte y) _ (leads_low y) refl (spells_two z w))))

  spells_hex_char : (x : HexChar) → Spells (in_escape M.first q) (put_hex_char x []) (inside (quoted q))
  unfolding put_hex_char landing step
  spells_hex_char (E.usual x y z w) =
      spells_cons _ (in_escape (digits 2) q) _ (not_d_byte x) _ (leads_not_d x) refl
      (spells_hex _ (in_escape (digits 1) q) _ refl refl y _ (spells_two z w))
  spells_hex_char (E.below x y z w) =
      spells_cons _ (in_escape behind_d_of q) _ (d_byte x) _ (leads_d (in_escape M.first q) (in_escape behind_d_of q) refl refl x) refl
      (spells_cons _ (in_escape (digits 1) q) _ y.byte _ (leads_in (in_escape behind_d_of q) y _ refl) refl (spells_two z w))
  spells_hex_char (E.pair (x, y, z, w) (x', y', z', w')) =
      spells_cons _ (in_escape behind_d_of q) _ (d_byte x) _ (leads_d (in_escape M.first q) (in_escape behind_d_of q) refl refl x) refl
      (spells_cons _ (in_escape (high_digits_of 1) q) _ (eight_to_b_byte y) _ (leads_high y) refl
      (spells_hex _ (in_escape (high_digits_of 0) q) _ refl refl z _
      (spells_hex _ (in_escape low_backslash q) _ refl refl w _ (spells_low x' y' z' w'))))

-- the backslash and what stands behind it

leads_backslash : (q : Quote) → step (at (inside (quoted q))) 0x5C ≡ at (in_escape kind q)
unfolding step
leads_backslash G.single = refl
leads_backslash G.double = refl

leads_own : (q : Quote) → step (at (in_escape kind q)) (quote_byte q) ≡ at (inside (quoted q))
unfolding step
leads_own G.single = refl
leads_own G.double = refl

leads_escape : (q : Quote) (e : Escape) → step (at (in_escape kind q)) (escape_byte e) ≡ at (inside (quoted q))
unfolding step
leads_escape q E.backspace = refl
leads_escape q E.form = refl
leads_escape q E.line = refl
leads_escape q E.carriage = refl
leads_escape q E.tabulator = refl
leads_escape q E.slash = refl
leads_escape q E.backslash = refl

leads_unicode : (q : Quote) → step (at (in_escape kind q)) 0x75 ≡ at (in_escape M.first q)
unfolding step
leads_unicode G.single = refl
leads_unicode G.double = refl

module _ (q : Quote) where
  spells_escape : (b : ℕ) (k : Control) (w : List ℕ) → step (at (in_escape kind q)) b ≡ at k → event (in_escape kind q) k ≡ letter →
      Spells k w (inside (quoted q)) → Spells (inside (quoted q)) (0x5C ∷ b ∷ w) (inside (quoted q))
  spells_escape b k w e f g =
      spells_cons _ (in_escape kind q) _ 0x5C _ (leads_backslash q) refl (spells_cons (in_escape kind q) k _ b w e f g)

pub spells_char : (q : Quote) (c : Char q) → Spells (inside (quoted q)) (put_char c []) (inside (quoted q))
unfolding put_char landing
spells_char G.single (G.low x) = spells_byte _ _ x refl refl
spells_char G.single (G.mid x) = spells_byte _ _ x refl refl
spells_char G.single (G.high x) = spells_byte _ _ x refl refl
spells_char G.double (G.low x) = spells_byte _ _ x refl refl
spells_char G.double (G.mid x) = spells_byte _ _ x refl refl
spells_char G.double (G.high x) = spells_byte _ _ x refl refl
spells_char q (Char.wide p) = spells_wide (inside (quoted q)) (quoted q) _ refl p
spells_char q G.own = spells_escape q (quote_byte q) _ [] (leads_own q) refl (spells_nil (inside (quoted q)))
spells_char q (G.escaped e) = spells_escape q (escape_byte e) _ [] (leads_escape q e) refl (spells_nil (inside (quoted q)))
spells_char q (G.unicode x) = spells_escape q 0x75 _ _ (leads_unicode q) refl (spells_hex_char q x)

pub spells_chars : (q : Quote) (cs : List (Char q)) → Spells (inside (quoted q)) (put_chars cs []) (inside (quoted q))
unfolding put_chars
spells_chars q [] = spells_nil (inside (quoted q))
spells_chars q (c ∷ cs) = rw (append_char c [] (put_chars cs []))
    (spells_append _ (inside (quoted q)) _ (put_char c []) (put_chars cs []) (spells_char q c) (spells_chars q cs))

-- two control states that lead on alike

event_alike : (c d : Control) → is_dotted c ≡ is_dotted d → is_opened c ≡ is_opened d → taken_behind c ≡ taken_behind d → (k : Control) → event c k ≡ event d k
event_alike c d p q r root = refl
event_alike c d p q r done = r
event_alike c d p q r gap = refl
event_alike c d p q r (M.dotted G.plain) = refl
event_alike c d p q r (M.dotted G.deep) = refl
event_alike c d p q r opened = ap₂ (λ (x y : Bool). elim (x || y) as (λ _. Event) [ true ↦ keep | false ↦ begin ]) p q
event_alike c d p q r closing = r
event_alike c d p q r (in_position v) = refl
event_alike c d p q r (inside h) = ap (λ (x : Bool). elim x as (λ _. Event) [ true ↦ keep | false ↦ letter ]) q
event_alike c d p q r (in_escape z m) = refl
event_alike c d p q r (tail_due z m h) = refl

pub alike : (c d : Control) → is_dotted c ≡ is_dotted d → is_opened c ≡ is_opened d → taken_behind c ≡ taken_behind d → (n b : ℕ) (s : List ℕ) →
    step (at c) b ≡ step (at d) b → reading c n (b ∷ s) ≡ reading d n (b ∷ s)
alike c d p q r n b s e = go (step (at d) b) e refl
  where
    go : (m : State) → step (at c) b ≡ m → step (at d) b ≡ m → reading c n (b ∷ s) ≡ reading d n (b ∷ s)
    go dead x y = stop c n b s x ∙ sym (stop d n b s y)
    go (at k) x y = turn c k n b s x ∙ ap (λ (v : Event). note v n b (reading k (suc n) s)) (event_alike c d p q r k) ∙ sym (turn d k n b s y)

-- blanks or none before it, a step begins alike
pub done_gap : (n b : ℕ) (s : List ℕ) → reading done n (b ∷ s) ≡ reading gap n (b ∷ s)
unfolding step
done_gap n b s = alike done gap refl refl refl n b s refl

-- blanks

note_keep : (n b : ℕ) (r : Reading) → note keep n b r ≡ r
note_keep n b (good a) = refl
note_keep n b (bad p) = refl

pub kept : (c k : Control) (n b : ℕ) (s : List ℕ) → step (at c) b ≡ at k → event c k ≡ keep → reading c n (b ∷ s) ≡ reading k (suc n) s
kept c k n b s e f = turn c k n b s e ∙ ap (λ (x : Event). note x n b (reading k (suc n) s)) f ∙ note_keep n b (reading k (suc n) s)

pub reads_blanks : (c : Control) → ((b : Blank) → step (at c) (blank_byte b) ≡ at c) → event c c ≡ keep → (w : Blanks) (n : ℕ) (u : List ℕ) →
    reading c n (put_blanks w u) ≡ reading c (n + length w) u
unfolding put_blanks
reads_blanks c f e [] n u = moved c n (n + 0) u (omega arith)
reads_blanks c f e (b ∷ w) n u =
    kept c c n (blank_byte b) (put_blanks w u) (f b) e ∙ reads_blanks c f e w (suc n) u ∙
    moved c (suc n + length w) (n + suc (length w)) u (omega arith)

pub blank_gap : (b : Blank) → step (at gap) (blank_byte b) ≡ at gap
unfolding step
blank_gap B.space = refl
blank_gap B.tab = refl
blank_gap B.feed = refl
blank_gap B.return = refl

pub blank_opened : (b : Blank) → step (at opened) (blank_byte b) ≡ at opened
unfolding step
blank_opened B.space = refl
blank_opened B.tab = refl
blank_opened B.feed = refl
blank_opened B.return = refl

pub blank_closing : (b : Blank) → step (at closing) (blank_byte b) ≡ at closing
unfolding step
blank_closing B.space = refl
blank_closing B.tab = refl
blank_closing B.feed = refl
blank_closing B.return = refl
