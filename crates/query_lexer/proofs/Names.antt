-- Names: which bytes below 80 are characters of a name, and which end it or are dead by the machine's tables; code points from 80 on by their
-- rows; and a name, one character more at a time, is spelt by the machine.
-- Assumes nothing.
use mathlib.Core.Path.{◌≡◌, refl, ap, sym, ◌∙◌}
use mathlib.Core.List.{List, [], ◌∷◌, ◌++◌}
use mathlib.Core.Bool.{Bool, true, false, false≢true, true≢false}
use Prim.Native.Nat.{ℕ, ◌+◌, ◌≤◌, ◌<◌}
use native.Mathlib.Omega.{arith}
use lib.Dec.{leb}
use borrow.Author.Tests.{leb-true, leb-false}
use lib.ListN.{length, get_or, drop, drop_of_length-le}
use lib.Seq.{slice, get_or-drop}
use Rattle.encoding.specs.BytesLaws.{byte_at_lem}
use Rattle.encoding.specs.BytesLaws as L
use Rattle.encoding.specs.CodePoint as C
use Rattle.encoding.specs.CodePoint.{Scanned}
use Rattle.encoding.proofs.Utf8At.{reads_at, scanned_within, scanned_whole, scanned_moved}
use Rattle.query.specs.Grammar as G
use Rattle.query.specs.Grammar.{First, Later, Char, Depth, Quote, quote_byte, put_first, put_later, put_laters, put_char, put_chars, put_short}
use Rattle.query.specs.Append.{append_chars, append-short, laters_more, chars_more}
use Rattle.query.specs.Machine as M
use Rattle.query.specs.Machine.{Control, done, inside, short, quoted, in_escape, kind, dead, Rule, range, first_rules, begin_rules, dot_rule, pick, step}
use Rattle.query.specs.Read.{reading}
use Rattle.query.proofs.Spell.{spell, spells_chars, alike}
use Rattle.query.proofs.Text.{spells_shorthand}
use Rattle.query.proofs.At.{byte_is, end_at, stop_at, bad_at}
use Rattle.query.specs.MachineLaws.{miss, miss_only, landing, leads, all_parted, passes}
use Rattle.query_escapes.specs.Scans.{Moved, Escaped}
use Rattle.query_escapes.specs.ScansLaws.{stayed, went_on, passed_on}
use Rattle.query_lexer.specs.Scans.{NameByteIs, digit, upper, underscore, lower, below_digits, below_upper, between_cases, above_lower}
use Rattle.query_lexer.specs.Scans.{spelt, NoName, IsDigit, NameChar, FirstChar, ShortName, QuotedChar, QuotedName}
use Rattle.query_lexer.proofs.Letters.{spelt_put, spelt_bad}
use Rattle.query_lexer.proofs.Wides.{wide_dotted, wide_short, wide_quoted, wide_dead}

-- a byte of a shorthand name, as the character of the grammar that it is
name_stands : {b : ℕ} → NameByteIs b true → (s : List ℕ) → (c : Later) × (put_later c s ≡ b ∷ s)
unfolding put_later L.make
name_stands {b} (digit l h) s = (G.digit (L.make b l h), refl)
name_stands {b} (upper l h) s = (G.first (G.upper (L.make b l h)), refl)
name_stands (underscore e) s = (G.first G.underscore, ap (λ (x : ℕ). x ∷ s) (sym e))
name_stands {b} (lower l h) s = (G.first (G.lower (L.make b l h)), refl)

-- another byte below 80 is in no rule for the first byte of a shorthand name, nor in that for digits
no_first : {b : ℕ} → NameByteIs b false → b < 0x80 → (rs : List Rule) → pick (first_rules rs) b ≡ pick rs b
unfolding all_parted
no_first (below_digits h) w rs = passes {lo = 0} {hi = 0x2F} (omega arith) (omega arith) (first_rules []) rs tt
no_first (below_upper l h) w rs = passes {lo = 0x3A} {hi = 0x40} (omega arith) (omega arith) (first_rules []) rs tt
no_first {b} (between_cases l f h) w rs = go (leb b 0x5E) refl
  where
    go : (x : Bool) → leb b 0x5E ≡ x → pick (first_rules rs) b ≡ pick rs b
    go true e = passes {lo = 0x5B} {hi = 0x5E} (omega arith) (leb-true b 0x5E e) (first_rules []) rs tt
    go false e = passes {lo = 0x60} {hi = 0x60} (omega (arith, leb-false b 0x5E e)) (omega arith) (first_rules []) rs tt
no_first (above_lower l) w rs = passes {lo = 0x7B} {hi = 0x7F} (omega arith) (omega arith) (first_rules []) rs tt

no_digit : {b : ℕ} → NameByteIs b false → (k : Control) (rs : List Rule) → pick (range 0x30 0x39 k ∷ rs) b ≡ pick rs b
no_digit {b} (below_digits h) k rs = miss (range 0x30 0x39 k) rs b (L.beneath 0x30 0x39 b h)
no_digit {b} (below_upper l h) k rs = miss (range 0x30 0x39 k) rs b (L.beyond 0x30 0x39 b l)
no_digit {b} (between_cases l f h) k rs = miss (range 0x30 0x39 k) rs b (L.beyond 0x30 0x39 b (omega arith))
no_digit {b} (above_lower l) k rs = miss (range 0x30 0x39 k) rs b (L.beyond 0x30 0x39 b (omega arith))

-- so it ends the name, or is dead where the name is due
name_over : {b : ℕ} → NameByteIs b false → b < 0x80 → step (M.at (inside short)) b ≡ step (M.at done) b
unfolding step
name_over x w = no_first x w (range 0x30 0x39 (inside short) ∷ begin_rules) ∙ no_digit x (inside short) begin_rules

no_name : (d : Depth) {b : ℕ} → NameByteIs b false → b < 0x80 → NoName d b → step (M.at (M.dotted d)) b ≡ dead
unfolding step pick
no_name G.plain {b} x w n =
    no_first x w (M.dot_rules G.plain) ∙ miss_only 0x2A done (dot_rule G.plain ∷ []) b n.no_star ∙
    miss_only 0x2E (M.dotted G.deep) [] b n.no_deeper
no_name G.deep {b} x w n =
    no_first x w (M.dot_rules G.deep) ∙ miss_only 0x2A done (dot_rule G.deep ∷ []) b n.no_star ∙ miss_only 0x5B M.opened [] b n.no_deeper

digit_dies : (d : Depth) {b : ℕ} → 0x30 ≤ b → b ≤ 0x39 → step (M.at (M.dotted d)) b ≡ dead
unfolding landing
digit_dies G.plain l h = leads (M.dotted G.plain) l h dead refl
digit_dies G.deep l h = leads (M.dotted G.deep) l h dead refl

byte_of : (q : List ℕ) (i b : ℕ) (s : List ℕ) → b ∷ s ≡ drop i q → get_or q i 0 ≡ b
byte_of q i b s e = ap (λ (n : ℕ). get_or q n 0) (omega arith) ∙ sym (get_or-drop i q 0 0) ∙ sym (ap (λ (l : List ℕ). get_or l 0 0) e)

-- a character of a name that is no digit is a first one
first_stands : (q : List ℕ) (i r : ℕ) → (0x30 ≤ get_or q i 0 → get_or q i 0 ≤ 0x39 → ⊥) → (c : Later) → put_later c (drop r q) ≡ drop i q →
    (x : First) × (put_first x (drop r q) ≡ drop i q)
unfolding put_later
first_stands q i r f (G.first x) e = (x, e)
first_stands q i r f (G.digit b) e =
    let z = byte_of q i b.byte (drop r q) e in absurd (f (omega (arith, L.from_low b)) (omega (arith, L.to_high b)))

module _ (q : List ℕ) (i : ℕ) (h : i < length q) where
  scanned_moves : {ok : Bool} {r : ℕ} → Scanned C.decoding q i ok r → Moved q i ok r
  scanned_moves s = record { within = scanned_within s (omega arith); on = λ e. scanned_moved (reads_at s) e }

  -- the three answers for a character of a shorthand name
  pub name_wide : {ok : Bool} {r : ℕ} → 0x80 ≤ get_or q i 0 → Scanned C.decoding q i ok r → NameChar q i ok r
  unfolding put_later
  name_wide {ok} {r} w s = record {
    moved = scanned_moves s;
    stands = λ e. let p = scanned_whole s e in (G.first (First.wide p.0), p.1);
    no_first = λ e d n f. wide_dead q (wide_dotted d) h w (reads_at s) e;
    dead = λ e g. wide_dead q wide_short h w (reads_at s) e;
    over = λ e g. absurd (omega arith);
  }

  pub name_on : NameByteIs (get_or q i 0) true → NameChar q i true (i + 1)
  name_on x =
      let (c, t) = name_stands x (drop (i + 1) q) in
      record {
        moved = went_on h;
        stands = λ z. (c, t ∙ sym (byte_at_lem q i h));
        no_first = λ z. absurd (true≢false z);
        dead = λ z. absurd (true≢false z);
        over = λ z. absurd (true≢false z);
      }

  pub name_off : NameByteIs (get_or q i 0) false → get_or q i 0 < 0x80 → NameChar q i false i
  name_off x w = record {
    moved = stayed (omega arith);
    stands = λ z. absurd (false≢true z);
    no_first = λ z d n f. stop_at (M.dotted d) q i h (no_name d x w n);
    dead = λ z g. absurd (omega arith);
    over = λ z g.
        ap (reading (inside short) i) (byte_at_lem q i h) ∙
        alike (inside short) done refl refl refl i (get_or q i 0) (drop (i + 1) q) (name_over x w) ∙
        ap (reading done i) (sym (byte_at_lem q i h));
  }

  -- a digit may not come first
  pub no_first_digit : IsDigit (get_or q i 0) → FirstChar q i false i
  no_first_digit x = record {
    moved = stayed (omega arith);
    stands = λ z. absurd (false≢true z);
    dead = λ z d n. stop_at (M.dotted d) q i h (digit_dies d x.low x.high);
  }

pub first_char : {q : List ℕ} {i : ℕ} {ok : Bool} {r : ℕ} → NameChar q i ok r → (0x30 ≤ get_or q i 0 → get_or q i 0 ≤ 0x39 → ⊥) → FirstChar q i ok r
first_char {q} {i} {ok} {r} x f =
    record {
      moved = x.moved;
      stands = λ e. first_stands q i r f (x.stands e).0 (x.stands e).1;
      dead = λ e d n. x.no_first e d n f;
    }

-- a shorthand name spelt from n up to i
pub record ShortSoFar (q : List ℕ) (n i : ℕ) : Type 0 where
  pub from : n < i
  pub within : i ≤ length q
  pub stands : (x : First) × (cs : List Later) × (put_first x (put_laters cs (drop i q)) ≡ drop n q)

short_reads : {q : List ℕ} {n i : ℕ} → ShortSoFar q n i → (d : Depth) → reading (M.dotted d) n (drop n q) ≡ spelt q (inside short) n true i
unfolding put_short
short_reads {q} {n} {i} s d =
    let (x, cs, t) = s.stands in
    spelt_put q (M.dotted d) (inside short) n i (omega (arith, s.from)) s.within (put_short (G.shorthand x cs)) (append-short (G.shorthand x cs))
    (spells_shorthand d x cs) t

pub short_begins : {q : List ℕ} {n i : ℕ} → FirstChar q n true i → ShortSoFar q n i
unfolding put_laters
short_begins x = let (y, t) = x.stands refl in record { from = x.moved.on refl; within = x.moved.within; stands = (y, [], t) }

pub short_goes_on : {q : List ℕ} {n i r : ℕ} → ShortSoFar q n i → NameChar q i true r → ShortSoFar q n r
short_goes_on {q} {r} s x =
    let (c, t) = x.stands refl in
    let (y, cs, w) = s.stands in
    record {
      from = omega (arith, s.from, x.moved.on refl);
      within = x.moved.within;
      stands = (y, cs ++ c ∷ [], ap (put_first y) (laters_more cs c (drop r q) ∙ ap (put_laters cs) t) ∙ w);
    }

-- it ends before i, at the end of the query or at a byte in no name
short_ends : {q : List ℕ} {n i : ℕ} → ShortSoFar q n i → reading (inside short) i (drop i q) ≡ reading done i (drop i q) → ShortName q n true i
short_ends {q} {n} {i} s e =
    record {
      moved = record { within = s.within; on = λ z. s.from };
      stands = λ z. s.stands;
      reads = λ d f. short_reads s d ∙ ap (spell (slice n i q)) e;
    }

pub short_over : {q : List ℕ} {n i r : ℕ} → ShortSoFar q n i → NameChar q i false r → get_or q i 0 < 0x80 → ShortName q n true i
short_over s x w = short_ends s (x.over refl w)

pub short_all : {q : List ℕ} {n i : ℕ} → ShortSoFar q n i → length q ≤ i → ShortName q n true i
unfolding reading
short_all {q} {n} {i} s h =
    short_ends s (ap (reading (inside short) i) (drop_of_length-le q h) ∙ sym (ap (reading done i) (drop_of_length-le q h)))

pub short_wide_dead : {q : List ℕ} {n i r : ℕ} → ShortSoFar q n i → NameChar q i false r → 0x80 ≤ get_or q i 0 → ShortName q n false r
short_wide_dead {q} {n} {i} {r} s x w = record {
  moved = record { within = x.moved.within; on = λ z. absurd (false≢true z) };
  stands = λ z. absurd (false≢true z);
  reads = λ d f. spelt_bad q (M.dotted d) (inside short) n i r (short_reads s d) (x.dead refl w);
}

-- quoted names

-- a byte of a quoted name, as the character of the grammar that it is
quoted_stands : (x : Quote) (b : ℕ) → 0x20 ≤ b → b < 0x80 → (b ≡ 0x5C → ⊥) → (b ≡ quote_byte x → ⊥) → (s : List ℕ) → (c : Char x) ×
    (put_char c s ≡ b ∷ s)
unfolding put_char L.make
quoted_stands G.single b l h f g s = go (leb b 0x26) refl (leb b 0x5B) refl
  where
    go : (x : Bool) → leb b 0x26 ≡ x → (y : Bool) → leb b 0x5B ≡ y → (c : Char G.single) × (put_char c s ≡ b ∷ s)
    go true e y k = (G.low (L.make b l (leb-true b 0x26 e)), refl)
    go false e true k = (G.mid (L.make b (omega (arith, leb-false b 0x26 e)) (leb-true b 0x5B k)), refl)
    go false e false k = (G.high (L.make b (omega (arith, leb-false b 0x5B k)) (omega arith)), refl)
quoted_stands G.double b l h f g s = go (leb b 0x21) refl (leb b 0x5B) refl
  where
    go : (x : Bool) → leb b 0x21 ≡ x → (y : Bool) → leb b 0x5B ≡ y → (c : Char G.double) × (put_char c s ≡ b ∷ s)
    go true e y k = (G.low (L.make b l (leb-true b 0x21 e)), refl)
    go false e true k = (G.mid (L.make b (omega (arith, leb-false b 0x21 e)) (leb-true b 0x5B k)), refl)
    go false e false k = (G.high (L.make b (omega (arith, leb-false b 0x5B k)) (omega arith)), refl)

control_dies : (x : Quote) {b : ℕ} → b < 0x20 → step (M.at (inside (quoted x))) b ≡ dead
unfolding landing
control_dies G.single h = leads (inside (quoted G.single)) {lo = 0} {hi = 0x1F} (omega arith) (omega arith) dead refl
control_dies G.double h = leads (inside (quoted G.double)) {lo = 0} {hi = 0x1F} (omega arith) (omega arith) dead refl

backslash_leads : (x : Quote) {b : ℕ} → b ≡ 0x5C → step (M.at (inside (quoted x))) b ≡ M.at (in_escape kind x)
unfolding step
backslash_leads G.single e = rw e refl
backslash_leads G.double e = rw e refl

module _ (q : List ℕ) (quote i : ℕ) (h : i < length q) where
  pub quoted_wide : {ok : Bool} {r : ℕ} → 0x80 ≤ get_or q i 0 → Scanned C.decoding q i ok r → QuotedChar q quote i ok r
  unfolding put_char
  quoted_wide w s = record {
    moved = scanned_moves q i h s;
    stands = λ e x z f. let p = scanned_whole s e in (Char.wide p.0, p.1);
    dead = λ e x z f. wide_dead q (wide_quoted x) h w (reads_at s) e;
  }

  pub quoted_control : get_or q i 0 < 0x20 → QuotedChar q quote i false i
  quoted_control w = record {
    moved = stayed (omega arith);
    stands = λ e. absurd (false≢true e);
    dead = λ e x z f. stop_at (inside (quoted x)) q i h (control_dies x w);
  }

  pub quoted_escape : {ok : Bool} {r : ℕ} → get_or q i 0 ≡ 0x5C → Escaped q quote (i + 1) ok r → QuotedChar q quote i ok r
  quoted_escape w s = record {
    moved = passed_on s.moved;
    stands = λ e x z f. let (c, t) = s.stands e x z in (c, t ∙ sym (byte_is q i h w));
    dead = λ e x z f. bad_at (inside (quoted x)) q i h (in_escape kind x) (backslash_leads x w) (s.dead e x z);
  }

  pub quoted_letter : 0x20 ≤ get_or q i 0 → get_or q i 0 < 0x80 → (get_or q i 0 ≡ 0x5C → ⊥) → QuotedChar q quote i true (i + 1)
  quoted_letter l u n = record {
    moved = went_on h;
    stands = λ e x z f.
        let (c, t) = quoted_stands x (get_or q i 0) l u n (λ y. f (y ∙ sym z)) (drop (i + 1) q) in (c, t ∙ sym (byte_at_lem q i h));
    dead = λ e. absurd (true≢false e);
  }

-- a quoted name spelt from n up to i
pub record QuotedSoFar (q : List ℕ) (quote n i : ℕ) : Type 0 where
  pub from : n ≤ i
  pub within : i ≤ length q
  pub stand : (x : Quote) → quote ≡ quote_byte x → (cs : List (Char x)) × (put_chars cs (drop i q) ≡ drop n q)

quoted_reads : {q : List ℕ} {quote n i : ℕ} → QuotedSoFar q quote n i → (x : Quote) → quote ≡ quote_byte x →
    reading (inside (quoted x)) n (drop n q) ≡ spelt q (inside (quoted x)) n true i
quoted_reads {q} {quote} {n} {i} s x e =
    let (cs, t) = s.stand x e in
    spelt_put q (inside (quoted x)) (inside (quoted x)) n i s.from s.within (put_chars cs) (append_chars cs) (spells_chars x cs) t

pub quoted_begins : {q : List ℕ} {quote n : ℕ} → n ≤ length q → QuotedSoFar q quote n n
unfolding put_chars
quoted_begins {q} {quote} {n} h =
    record { from = omega arith; within = h; stand = λ x e. ([], refl) }

pub quoted_goes_on : {q : List ℕ} {quote n i r : ℕ} → QuotedSoFar q quote n i → (get_or q i 0 ≡ quote → ⊥) → QuotedChar q quote i true r →
    QuotedSoFar q quote n r
quoted_goes_on {q} {r = r} s f x = record {
  from = omega (arith, s.from, x.moved.on refl);
  within = x.moved.within;
  stand = λ y z.
      let (c, t) = x.stands refl y z f in
      let (cs, w) = s.stand y z in
      (cs ++ c ∷ [], chars_more cs c (drop r q) ∙ ap (put_chars cs) t ∙ w);
}

pub quoted_closes : {q : List ℕ} {quote n i : ℕ} → QuotedSoFar q quote n i → i < length q → get_or q i 0 ≡ quote → QuotedName q quote n true i
quoted_closes s h e = record { within = s.within; closed = λ w. (s.from, h, e); stand = λ w. s.stand; reads = quoted_reads s }

pub quoted_dead : {q : List ℕ} {quote n i r : ℕ} → QuotedSoFar q quote n i → (get_or q i 0 ≡ quote → ⊥) → QuotedChar q quote i false r →
    QuotedName q quote n false r
quoted_dead {q} {quote} {n} {i} {r} s f x = record {
  within = x.moved.within;
  closed = λ w. absurd (false≢true w);
  stand = λ w. absurd (false≢true w);
  reads = λ y z. spelt_bad q (inside (quoted y)) (inside (quoted y)) n i r (quoted_reads s y z) (x.dead refl y z f);
}

pub quoted_open : {q : List ℕ} {quote n i : ℕ} → QuotedSoFar q quote n i → length q ≤ i → QuotedName q quote n false i
quoted_open {q} {quote} {n} {i} s h = record {
  within = s.within;
  closed = λ w. absurd (false≢true w);
  stand = λ w. absurd (false≢true w);
  reads = λ x z. spelt_bad q (inside (quoted x)) (inside (quoted x)) n i i (quoted_reads s x z) (end_at (inside (quoted x)) q i h refl);
}
