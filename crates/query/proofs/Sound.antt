-- What the machine accepts is the text of a query: `Rest c s`, that s completes a query from the control state c,
-- goes back over each rule of the tables, from the last byte to the first. Assumes nothing.
use Rattle.std.specs.Prelude.{◌≡◌, refl, List, [], ◌∷◌, ◌++◌, map, Bool, true, false, ℕ, zero, suc, ◌+◌, ◌*◌, ◌≤◌, ◌<◌}
use Rattle.std.proofs.Common.{subst, arith}
use Rattle.bits.specs.Truth.{to_T}
use Rattle.encoding.specs.Bytes as B
use Rattle.encoding.specs.Bytes.{In, put_in, Blank, Blanks, blank_byte, put_blanks}
use Rattle.encoding.specs.BytesLaws.{make, from_low, to_high, Then, then}
use Rattle.encoding.specs.Decimal.{read_on}
use Rattle.encoding.specs.Hex as H
use Rattle.encoding.specs.Hex.{hex_byte}
use Rattle.encoding.specs.Utf8 as U
use Rattle.encoding.specs.Utf8.{Wide, put_wide, any_tail, second_low, second_high}
use Rattle.encoding.specs.Utf8Laws.{Tails}
use Rattle.query.specs.Escapes as E
use Rattle.query.specs.Escapes.{Escape, escape_byte, NotD, not_d_byte, D, d_byte, EightToB, eight_to_b_byte, c_to_f_byte, HexChar, put_hex_char}
use Rattle.query.specs.Grammar as G
use Rattle.query.specs.Grammar.{First, Later, Quote, Char, quote_byte, position_of, max_position, Short, Inner, Depth, Segment, Query, QueryText}
use Rattle.query.specs.Grammar.{put_first, put_laters, put_char, put_chars, put_short, put_inner, put_segment, put_spaced, put_query, text}
use Rattle.query.specs.Machine as M
use Rattle.query.specs.Machine.{Home, short, quoted, Control, root, done, gap, opened, closing}
use Rattle.query.specs.Machine.{Due, kind, behind_d_of, digits, high_digits_of, low_backslash, low_u, low_d, low_digit}
use Rattle.query.specs.Machine.{in_position, inside, in_escape, tail_due, State, dead, at}
use Rattle.query.specs.Machine.{Rule, range, only, wide_rules, letter_rules, first_rules, step_rules, begin_rules, dot_rules, inner_rules, char_rules}
use Rattle.query.specs.Machine.{hex_rules, escape_rules}
use Rattle.query.specs.Machine.{rule_if, fits, digit_rules, more_digits, rules, takes, pick, step, run, final, accept, start}
use Rattle.query.proofs.Positions.{fits_within}

-- what completes a query, by where the machine is

data Done : List ℕ → Type 0 where
  steps : (t : Query) → Done (put_query t [])

data Gap : List ℕ → Type 0 where
  spaced : (w : Blanks) (g : Segment) (t : Query) → Gap (put_blanks w (put_segment g (put_query t [])))

data Closing : List ℕ → Type 0 where
  closes : (w : Blanks) (t : Query) → Closing (put_blanks w (0x5D ∷ put_query t []))

data Opened : List ℕ → Type 0 where
  opens : (w : Blanks) (i : Inner) (w' : Blanks) (t : Query) → Opened (put_blanks w (put_inner i (put_blanks w' (0x5D ∷ put_query t []))))

data Dotted : Depth → List ℕ → Type 0 where
  takes_short : {d : Depth} (x : Short) (t : Query) → Dotted d (put_short x (put_query t []))
  deeper : {s : List ℕ} → Dotted G.deep s → Dotted G.plain (0x2E ∷ s)
  brackets : {s : List ℕ} → Opened s → Dotted G.deep (0x5B ∷ s)

data Shorthand : List ℕ → Type 0 where
  laters : (cs : List Later) (t : Query) → Shorthand (put_laters cs (put_query t []))

data Quoted (q : Quote) : List ℕ → Type 0 where
  chars : {u : List ℕ} (cs : List (Char q)) → Closing u → Quoted q (put_chars cs (quote_byte q ∷ u))

-- behind digits that stand for v: more of them, but none behind a first 0, and the end of the brackets
data Digits (v : ℕ) : List ℕ → Type 0 where
  more : {u : List ℕ} (ds : List (In 0x30 0x39)) → (v ≡ 0 → ds ≡ []) → (v ≤ max_position → read_on v (put_in ds []) ≤ max_position) → Closing u →
      Digits v (put_in ds u)

abbrev Inside : Home → List ℕ → Type 0
Inside short = Shorthand
Inside (quoted q) = Quoted q

-- in an escape

-- what is written as one byte, and then L
data Writes {A : Type 0} (f : A → ℕ) (L : List ℕ → Type 0) : List ℕ → Type 0 where
  writes : {s : List ℕ} (x : A) → L s → Writes f L (f x ∷ s)

-- this byte, and then L
data Byte (b : ℕ) (L : List ℕ → Type 0) : List ℕ → Type 0 where
  byte : {s : List ℕ} → L s → Byte b L (b ∷ s)

-- so many hexadecimal digits, and then L
abbrev HexDigits : ℕ → (List ℕ → Type 0) → List ℕ → Type 0
HexDigits zero L = L
HexDigits (suc n) L = Writes hex_byte (HexDigits n L)

abbrev LowDigit : Quote → List ℕ → Type 0
LowDigit q = Writes c_to_f_byte (HexDigits 2 (Quoted q))

abbrev LowD : Quote → List ℕ → Type 0
LowD q = Writes d_byte (LowDigit q)

abbrev LowHalf : Quote → List ℕ → Type 0
LowHalf q = Byte 0x5C (Byte 0x75 (LowD q))

data BehindD (q : Quote) : List ℕ → Type 0 where
  below : {u : List ℕ} (y : In 0x30 0x37) → HexDigits 2 (Quoted q) u → BehindD q (y.byte ∷ u)
  high : {u : List ℕ} (y : EightToB) → HexDigits 2 (LowHalf q) u → BehindD q (eight_to_b_byte y ∷ u)

data BehindU (q : Quote) : List ℕ → Type 0 where
  hex_char : {u : List ℕ} (x : HexChar) → Quoted q u → BehindU q (put_hex_char x u)

data BehindBackslash (q : Quote) : List ℕ → Type 0 where
  own : {u : List ℕ} → Quoted q u → BehindBackslash q (quote_byte q ∷ u)
  escaped : {u : List ℕ} (e : Escape) → Quoted q u → BehindBackslash q (escape_byte e ∷ u)
  unicode : {u : List ℕ} → BehindU q u → BehindBackslash q (0x75 ∷ u)

abbrev Escaped : Due → Quote → List ℕ → Type 0
Escaped kind q = BehindBackslash q
Escaped M.first q = BehindU q
Escaped behind_d_of q = BehindD q
Escaped (digits n) q = HexDigits (suc n) (Quoted q)
Escaped (high_digits_of n) q = HexDigits (suc n) (LowHalf q)
Escaped low_backslash q = LowHalf q
Escaped low_u q = Byte 0x75 (LowD q)
Escaped low_d q = LowD q
Escaped low_digit q = LowDigit q

data Root : List ℕ → Type 0 where
  begins : (t : Query) → Root (0x24 ∷ put_query t [])

abbrev Rest : Control → List ℕ → Type 0
Rest root = Root
Rest done = Done
Rest gap = Gap
Rest (M.dotted d) = Dotted d
Rest opened = Opened
Rest closing = Closing
Rest (in_position v) = Digits v
Rest (inside h) = Inside h
Rest (in_escape d q) = Escaped d q
Rest (tail_due p n h) = Then (second_low p) (second_high p) (Tails n (Inside h))

abbrev RestOf : State → List ℕ → Type 0
RestOf dead s = ⊥
RestOf (at c) s = Rest c s

-- each rule of a table leads back to L
abbrev Back : (List ℕ → Type 0) → Rule → Type 0
Back L r = (b : In r.low r.high) (s : List ℕ) → Rest r.to s → L (b.byte ∷ s)

abbrev Backs : (List ℕ → Type 0) → List Rule → Type 0
Backs L [] = Unit {0}
Backs L (r ∷ rs) = Back L r × Backs L rs

back_pick : (L : List ℕ → Type 0) (rs : List Rule) (b : ℕ) (s : List ℕ) → Backs L rs → RestOf (pick rs b) s → L (b ∷ s)
unfolding pick
back_pick L [] b s f x = absurd x
back_pick L (r ∷ rs) b s f x = go (takes r b) refl x (λ y. back_pick L rs b s f.1 y)
  where
    go : (t : Bool) → takes r b ≡ t → RestOf (elim t [ true ↦ at r.to | false ↦ pick rs b ]) s → (RestOf (pick rs b) s → L (b ∷ s)) → L (b ∷ s)
    go true e y again = f.0 (record { byte = b; ok = to_T e }) s y
    go false e y again = again y

-- a table that leads back to less
widen : (L K : List ℕ → Type 0) (rs : List Rule) → ((s : List ℕ) → L s → K s) → Backs L rs → Backs K rs
widen L K [] g f = tt
widen L K (r ∷ rs) g f = ((λ b s x. g (b.byte ∷ s) (f.0 b s x)), widen L K rs g f.1)

-- a rule of one byte
one : (n : ℕ) (c : Control) (L : List ℕ → Type 0) → ((s : List ℕ) → Rest c s → L (n ∷ s)) → Back L (only n c)
one n c L f b s x = let e : b.byte ≡ n = omega (arith, from_low b, to_high b) in rw e (f s x)

-- blanks before what takes blanks
back_blanks : (c : Control) (L : List ℕ → Type 0) (rs : List Rule) → ((b : Blank) (s : List ℕ) → Rest c s → L (blank_byte b ∷ s)) →
    Backs L rs → Backs L (M.blank_rules c rs)
back_blanks c L rs f r =
    (one 0x20 c L (f B.space), (one 0x09 c L (f B.tab), (one 0x0A c L (f B.feed), (one 0x0D c L (f B.return), r))))

-- a code point before what takes one
back_wide : (h : Home) (L : List ℕ → Type 0) (rs : List Rule) → ((p : Wide) (s : List ℕ) → Inside h s → L (put_wide p s)) → Backs L rs →
    Backs L (wide_rules h rs)
unfolding put_wide
back_wide h L rs f r =
    (c2_df, (e0, (e1_ec, (ed, (ee_ef, (f0, (f1_f3, (f4, r))))))))
  where
    c2_df : Back L (range 0xC2 0xDF (tail_due any_tail 0 h))
    c2_df b s (then {s = u} y x) = f (U.c2_df b y) u x

    e0 : Back L (range 0xE0 0xE0 (tail_due U.after_e0 1 h))
    e0 b s (then y (then {s = u} z x)) = f (U.e0 b y z) u x

    e1_ec : Back L (range 0xE1 0xEC (tail_due any_tail 1 h))
    e1_ec b s (then y (then {s = u} z x)) = f (U.e1_ec b y z) u x

    ed : Back L (range 0xED 0xED (tail_due U.after_ed 1 h))
    ed b s (then y (then {s = u} z x)) = f (U.ed b y z) u x

    ee_ef : Back L (range 0xEE 0xEF (tail_due any_tail 1 h))
    ee_ef b s (then y (then {s = u} z x)) = f (U.ee_ef b y z) u x

    f0 : Back L (range 0xF0 0xF0 (tail_due U.after_f0 2 h))
    f0 b s (then y (then z (then {s = u} w x))) = f (U.f0 b y z w) u x

    f1_f3 : Back L (range 0xF1 0xF3 (tail_due any_tail 2 h))
    f1_f3 b s (then y (then z (then {s = u} w x))) = f (U.f1_f3 b y z w) u x

    f4 : Back L (range 0xF4 0xF4 (tail_due U.after_f4 2 h))
    f4 b s (then y (then z (then {s = u} w x))) = f (U.f4 b y z w) u x

-- a name's first character before the rest of a shorthand name
back_first : (L : List ℕ → Type 0) (rs : List Rule) → ((x : First) (s : List ℕ) → Shorthand s → L (put_first x s)) → Backs L rs →
    Backs L (first_rules rs)
unfolding put_first
back_first L rs f r =
    back_wide short L (letter_rules rs) (λ p s x. f (First.wide p) s x)
    ((λ b s x. f (G.upper b) s x), ((λ b s x. f (G.lower b) s x), (one 0x5F (inside short) L (λ s x. f G.underscore s x), r)))

-- before a step

blank_gap : (b : Blank) (s : List ℕ) → Gap s → Gap (blank_byte b ∷ s)
unfolding put_blanks
blank_gap b s (spaced w g t) = spaced (b ∷ w) g t

dot_gap : (s : List ℕ) → Dotted G.plain s → Gap (0x2E ∷ s)
unfolding put_blanks put_segment
dot_gap s (takes_short x t) = spaced [] (G.dotted G.plain x) t
dot_gap s (deeper (takes_short x t)) = spaced [] (G.dotted G.deep x) t
dot_gap s (deeper (brackets (opens w i w' t))) = spaced [] (G.bracketed G.deep w i w') t

bracket_gap : (s : List ℕ) → Opened s → Gap (0x5B ∷ s)
unfolding put_blanks put_segment
bracket_gap s (opens w i w' t) = spaced [] (G.bracketed G.plain w i w') t

back_gap : Backs Gap begin_rules
back_gap = back_blanks gap Gap step_rules blank_gap (one 0x2E (M.dotted G.plain) Gap dot_gap, (one 0x5B opened Gap bracket_gap, tt))

gap_done : (s : List ℕ) → Gap s → Done s
unfolding put_query put_spaced
gap_done s (spaced w g t) = steps (record { before = w; segment = g } ∷ t)

-- behind `.` and `..`

dotted_first : (d : Depth) (x : First) (s : List ℕ) → Shorthand s → Dotted d (put_first x s)
unfolding put_short
dotted_first d x s (laters cs t) = takes_short (G.shorthand x cs) t

dotted_star : (d : Depth) (s : List ℕ) → Done s → Dotted d (0x2A ∷ s)
unfolding put_short
dotted_star d s (steps t) = takes_short Short.star t

back_dotted : (d : Depth) → Backs (Dotted d) (rules (M.dotted d))
back_dotted G.plain = back_first (Dotted G.plain) (dot_rules G.plain) (dotted_first G.plain)
    (one 0x2A done (Dotted G.plain) (dotted_star G.plain), (one 0x2E (M.dotted G.deep) (Dotted G.plain) (λ s x. deeper x), tt))
back_dotted G.deep = back_first (Dotted G.deep) (dot_rules G.deep) (dotted_first G.deep)
    (one 0x2A done (Dotted G.deep) (dotted_star G.deep), (one 0x5B opened (Dotted G.deep) (λ s x. brackets x), tt))

done_shorthand : (s : List ℕ) → Done s → Shorthand s
unfolding put_laters
done_shorthand s (steps t) = laters [] t

shorthand_first : (x : First) (s : List ℕ) → Shorthand s → Shorthand (put_first x s)
unfolding put_laters
shorthand_first x s (laters cs t) = laters (G.first x ∷ cs) t

shorthand_digit : (b : In 0x30 0x39) (s : List ℕ) → Shorthand s → Shorthand (b.byte ∷ s)
unfolding put_laters
shorthand_digit b s (laters cs t) = laters (G.digit b ∷ cs) t

-- in brackets

blank_opened : (b : Blank) (s : List ℕ) → Opened s → Opened (blank_byte b ∷ s)
unfolding put_blanks
blank_opened b s (opens w i w' t) = opens (b ∷ w) i w' t

blank_closing : (b : Blank) (s : List ℕ) → Closing s → Closing (blank_byte b ∷ s)
unfolding put_blanks
blank_closing b s (closes w t) = closes (b ∷ w) t

opened_star : (s : List ℕ) → Closing s → Opened (0x2A ∷ s)
unfolding put_blanks put_inner
opened_star s (closes w t) = opens [] Inner.star w t

opened_quote : (q : Quote) (s : List ℕ) → Quoted q s → Opened (quote_byte q ∷ s)
unfolding put_blanks put_inner
opened_quote q s (chars cs (closes w t)) = opens [] (G.quoted q cs) w t

-- a rule that may be there
back_if : (L : List ℕ → Type 0) (x : Bool) (n : ℕ) (c : Control) (rs : List Rule) → (x ≡ true → (s : List ℕ) → Rest c s → L (n ∷ s)) →
    Backs L rs → Backs L (rule_if x (only n c) rs)
unfolding rule_if
back_if L true n c rs f r = (one n c L (f refl), r)
back_if L false n c rs f r = r

-- a position's digits
back_digits : (L : List ℕ → Type 0) (v n : ℕ) →
    ((d : ℕ) → d < n → v * 10 + d ≤ max_position → (s : List ℕ) → Digits (v * 10 + d) s → L ((0x30 + d) ∷ s)) → Backs L (digit_rules v n)
unfolding digit_rules
back_digits L v zero f = tt
back_digits L v (suc d) f =
    back_if L (fits (v * 10 + d)) (0x30 + d) (in_position (v * 10 + d)) (digit_rules v d) (λ e. f d (omega arith) (fits_within (v * 10 + d) e))
    (back_digits L v d (λ k h. f k (omega arith)))

no_more : (v : ℕ) (s : List ℕ) → Closing s → Digits v s
unfolding put_in read_on
no_more v s x = more [] (λ e. refl) (λ m. m) x

-- the same number behind which digits stand
stands_for : (s : List ℕ) {m n : ℕ} → m ≡ n → read_on m s ≤ max_position → read_on n s ≤ max_position
stands_for s e h = subst (λ (k : ℕ). read_on k s ≤ max_position) e h

digit_more : (v d : ℕ) → 0 < v → d < 10 → v * 10 + d ≤ max_position → (s : List ℕ) → Digits (v * 10 + d) s → Digits v ((0x30 + d) ∷ s)
unfolding put_in read_on make
digit_more v d p h m s (more ds f g x) =
    more (make (0x30 + d) (omega arith) (omega arith) ∷ ds) (λ z. absurd (omega arith)) (λ l. stands_for (put_in ds []) (omega arith) (g m)) x

back_more : (v : ℕ) → Backs (Digits v) (more_digits v)
unfolding more_digits
back_more zero = tt
back_more (suc v) = back_digits (Digits (suc v)) (suc v) 10 (λ d. digit_more (suc v) d (omega arith))

opened_digit : (d : ℕ) → d < 10 → (s : List ℕ) → Digits (0 * 10 + d) s → Opened ((0x30 + d) ∷ s)
unfolding put_blanks put_inner position_of read_on make
opened_digit zero h s (more ds f g (closes w t)) = rw (f refl) (opens [] (G.position G.zero (omega arith)) w t)
opened_digit (suc d) h s (more ds f g (closes w t)) =
    let x : In 0x31 0x39 = make (0x30 + suc d) (omega arith) (omega arith) in
    opens [] (G.position (G.digits x ds) (stands_for (put_in ds []) (omega arith) (g (omega arith)))) w t

closing_done : (s : List ℕ) → Done s → Closing (0x5D ∷ s)
unfolding put_blanks
closing_done s (steps t) = closes [] t

char_quoted : (q : Quote) (c : Char q) (s : List ℕ) → Quoted q s → Quoted q (put_char c s)
unfolding put_chars
char_quoted q c s (chars cs x) = chars (c ∷ cs) x

quote_quoted : (q : Quote) (s : List ℕ) → Closing s → Quoted q (quote_byte q ∷ s)
unfolding put_chars
quote_quoted q s x = chars [] x

escape_quoted : (q : Quote) (s : List ℕ) → BehindBackslash q s → Quoted q (0x5C ∷ s)
unfolding put_char
escape_quoted q s (own {u} x) = char_quoted q G.own u x
escape_quoted q s (escaped {u} e x) = char_quoted q (G.escaped e) u x
escape_quoted q s (unicode (hex_char {u} y x)) = char_quoted q (G.unicode y) u x

back_quoted : (q : Quote) → Backs (Quoted q) (rules (inside (quoted q)))
unfolding put_char
back_quoted q =
    back_wide (quoted q) (Quoted q) (char_rules q) (λ p s x. char_quoted q (Char.wide p) s x) (
      (λ b s x. char_quoted q (G.low b) s x),
      (
        (λ b s x. char_quoted q (G.mid b) s x),
        (
          (λ b s x. char_quoted q (G.high b) s x),
          (one (quote_byte q) closing (Quoted q) (quote_quoted q), (one 0x5C (in_escape kind q) (Quoted q) (escape_quoted q), tt)),
        ),
      ),
    )

-- escapes

back_hex : (c : Control) → Backs (Writes hex_byte (Rest c)) (hex_rules c)
back_hex c = ((λ b s x. writes (H.digit b) x), ((λ b s x. writes (H.upper b) x), ((λ b s x. writes (H.lower b) x), tt)))

module _ (q : Quote) where
  -- a backslash and one byte
  back_simple : (es : List Escape) (rs : List Rule) → Backs (BehindBackslash q) rs →
      Backs (BehindBackslash q) (map (λ (e : Escape). only (escape_byte e) (inside (quoted q))) es ++ rs)
  back_simple [] rs r = r
  back_simple (e ∷ es) rs r = (one (escape_byte e) (inside (quoted q)) (BehindBackslash q) (λ s x. escaped e x), back_simple es rs r)

  -- the first digit behind `\u`

  usual : (x : NotD) (s : List ℕ) → HexDigits 3 (Quoted q) s → BehindU q (not_d_byte x ∷ s)
  unfolding put_hex_char
  usual x s (writes y (writes z (writes w r))) = hex_char (E.usual x y z w) r

  behind_d_lem : (x : D) (s : List ℕ) → BehindD q s → BehindU q (d_byte x ∷ s)
  unfolding put_hex_char
  behind_d_lem x s (below y (writes z (writes w r))) = hex_char (E.below x y z w) r
  behind_d_lem x s (high y (writes z (writes w (byte (byte (writes x' (writes y' (writes z' (writes w' r))))))))) =
      hex_char (E.pair (x, y, z, w) (x', y', z', w')) r

  back_d : Backs (BehindU q) (only 0x44 (in_escape behind_d_of q) ∷ only 0x64 (in_escape behind_d_of q) ∷ [])
  back_d = (one 0x44 (in_escape behind_d_of q) (BehindU q) (behind_d_lem E.upper), (one 0x64 (in_escape behind_d_of q) (BehindU q) (behind_d_lem E.lower), tt))

  back_escape : (x : Due) → Backs (Escaped x q) (escape_rules x q)
  back_escape kind =
      let others : List Rule = only (quote_byte q) (inside (quoted q)) ∷ only 0x75 (in_escape M.first q) ∷ [] in
      back_simple (E.backspace ∷ E.form ∷ E.line ∷ E.carriage ∷ E.tabulator ∷ E.slash ∷ E.backslash ∷ []) others (
        one (quote_byte q) (inside (quoted q)) (BehindBackslash q) (λ s x. own x),
        (one 0x75 (in_escape M.first q) (BehindBackslash q) (λ s x. unicode x), tt),
      )
  back_escape M.first = (
    (λ b. usual (E.digit b)),
    (
      (λ b. usual (E.upper_a_c b)),
      (
        (λ b. usual (E.upper_e_f b)),
        ((λ b. usual (E.lower_a_c b)), ((λ b. usual (E.lower_e_f b)), back_d)),
      ),
    ),
  )
  back_escape behind_d_of =
      ((λ b s x. below b x), ((λ b s x. high (E.digit b) x), ((λ b s x. high (E.upper b) x), ((λ b s x. high (E.lower b) x), tt))))
  back_escape (digits zero) = back_hex (inside (quoted q))
  back_escape (digits (suc n)) = back_hex (in_escape (digits n) q)
  back_escape (high_digits_of zero) = back_hex (in_escape low_backslash q)
  back_escape (high_digits_of (suc n)) = back_hex (in_escape (high_digits_of n) q)
  back_escape low_backslash = (one 0x5C (in_escape low_u q) (LowHalf q) (λ s x. byte x), tt)
  back_escape low_u = (one 0x75 (in_escape low_d q) (Byte 0x75 (LowD q)) (λ s x. byte x), tt)
  back_escape low_d =
      (one 0x44 (in_escape low_digit q) (LowD q) (λ s x. writes E.upper x), (one 0x64 (in_escape low_digit q) (LowD q) (λ s x. writes E.lower x), tt))
  back_escape low_digit = ((λ b s x. writes (E.upper b) x), ((λ b s x. writes (E.lower b) x), tt))

root_done : (s : List ℕ) → Done s → Root (0x24 ∷ s)
root_done s (steps t) = begins t

back : (c : Control) → Backs (Rest c) (rules c)
back root = (one 0x24 done Root root_done, tt)
back done = widen Gap Done begin_rules gap_done back_gap
back gap = back_gap
back (M.dotted d) = back_dotted d
back opened =
    back_blanks opened Opened inner_rules blank_opened (
      one 0x2A closing Opened opened_star,
      (
        one 0x27 (inside (quoted G.single)) Opened (opened_quote G.single),
        (one 0x22 (inside (quoted G.double)) Opened (opened_quote G.double), back_digits Opened 0 10 (λ d h m. opened_digit d h)),
      ),
    )
back closing = back_blanks closing Closing (only 0x5D done ∷ []) blank_closing (one 0x5D done Closing closing_done, tt)
back (in_position v) = back_blanks closing (Digits v) (only 0x5D done ∷ more_digits v) (λ b s x. no_more v (blank_byte b ∷ s) (blank_closing b s x))
    (one 0x5D done (Digits v) (λ s x. no_more v (0x5D ∷ s) (closing_done s x)), back_more v)
back (inside short) = back_first Shorthand (range 0x30 0x39 (inside short) ∷ begin_rules) shorthand_first
    (shorthand_digit, widen Gap Shorthand begin_rules (λ s x. done_shorthand s (gap_done s x)) back_gap)
back (inside (quoted q)) = back_quoted q
back (in_escape d q) = back_escape q d
back (tail_due p zero h) = ((λ b s x. then b x), tt)
back (tail_due p (suc n) h) = ((λ b s x. then b x), tt)

back_step : (st : State) (b : ℕ) (s : List ℕ) → RestOf (step st b) s → RestOf st (b ∷ s)
unfolding step
back_step dead b s x = x
back_step (at c) b s x = back_pick (Rest c) (rules c) b s (back c) x

-- nothing is left
over : Done []
unfolding put_query
over = steps []

rest-nil : (c : Control) → final c ≡ true → Rest c []
rest-nil root e = absurd (to_T e)
rest-nil done e = over
rest-nil gap e = absurd (to_T e)
rest-nil (M.dotted d) e = absurd (to_T e)
rest-nil opened e = absurd (to_T e)
rest-nil closing e = absurd (to_T e)
rest-nil (in_position v) e = absurd (to_T e)
rest-nil (inside short) e = done_shorthand [] over
rest-nil (inside (quoted q)) e = absurd (to_T e)
rest-nil (in_escape d q) e = absurd (to_T e)
rest-nil (tail_due p n h) e = absurd (to_T e)

rest : (st : State) (s : List ℕ) → accept (run st s) ≡ true → RestOf st s
unfolding run
rest dead [] e = absurd (to_T e)
rest (at c) [] e = rest-nil c e
rest st (b ∷ s) e = back_step st b s (rest (step st b) s e)

tree_of : (s : List ℕ) → Root s → QueryText s
unfolding text
tree_of s (begins t) = record { tree = t; written = refl }

pub sound : (s : List ℕ) → accept (run start s) ≡ true → QueryText s
sound s e = tree_of s (rest start s e)
