-- What the sorter's facts and words are over the parts of a text that have no brackets: bytes that it passes over, and strings.
-- A string is pieces between two quotes; no piece has a real quote. Assumes nothing.
use Rattle.std.specs.Prelude.{◌≡◌, Bool, ◌&&◌, ◌||◌, ◌⊎◌}
use Rattle.std.proofs.Math.Path.{refl, ap}
use Rattle.std.proofs.Common.{sym, subst, ◌∙◌, inl, inr, add-zero}
use Rattle.std.proofs.Math.Bool.{true, false, not, and-false, and-eq-true_iff}
use Rattle.std.proofs.lemmas.Bool.{false≢true, eqb-false, not-true}
use mathlib.Core.List.Memᴰ
use mathlib.Core.List.{List, [], ◌∷◌, ◌++◌}
use Rattle.std.proofs.Math.Logic.{⊎_elim}
use Prim.Native.Nat.{ℕ, suc, ◌+◌, ◌-◌, ◌<◌, ◌≤◌}
use native.Mathlib.Omega.{arith}
use Rattle.std.proofs.Math.Dec.{eqb}
use Rattle.std.proofs.Math.ListN.{length, drop}
use Rattle.bits.specs.Laws.{lt_or_ge}
use Rattle.bits.specs.Truth.{neither}
use Rattle.blocks.specs.Words.{odd_quotes, in_string, opens_at, closes_at}
use Rattle.classifier.specs.Classes.{byte_at}
use Rattle.blocks.specs.Laws.{Carried, carry_plain, carry_backslash, carry_escaped, carry_quote, carried_string}
use Rattle.json_text.specs.Grammar.{Char, put_chars, put_string}
use Rattle.json_text.specs.Append.{chars_split, length_chars}
use Rattle.scan.specs.Places.{Head, head_of, past}
use Rattle.scan.specs.Shape.{Piece, plain, escaped, put_pieces}
use Rattle.scan.specs.ShapeLaws.{pieces, chars_are}
use Rattle.strings.specs.Strings.{Quotes, quotes_of, InOne}

-- ---- bytes that stand at a place

-- the byte that stands first at a place, as the sorter's definitions read it
pub byte_at_lem : {s : List ℕ} {a b : ℕ} {rest : List ℕ} → Head s a b rest → byte_at s a ≡ b
unfolding byte_at
byte_at_lem t = t.byte_is

-- ---- a byte that is no quote, no backslash and no bracket

unfoldable pub calm : ℕ → Bool
calm b = not (eqb b 0x22 || (eqb b 0x5C || ((eqb b 0x5B || eqb b 0x7B) || (eqb b 0x5D || eqb b 0x7D))))

pub record Calm (b : ℕ) : Type 0 where
  pub no_quote : b ≡ 0x22 → ⊥
  pub no_backslash : b ≡ 0x5C → ⊥
  pub no_opening : (eqb b 0x5B || eqb b 0x7B) ≡ false
  pub no_closing : (eqb b 0x5D || eqb b 0x7D) ≡ false

unfoldable pub all_calm : List ℕ → Bool
unfolding calm
all_calm [] = true
all_calm (b ∷ bs) = calm b && all_calm bs

pub calm_is : (b : ℕ) → calm b ≡ true → Calm b
unfolding calm
calm_is b h =
    let p = neither (eqb b 0x22) (eqb b 0x5C || ((eqb b 0x5B || eqb b 0x7B) || (eqb b 0x5D || eqb b 0x7D))) (not-true _ h) in
    let q = neither (eqb b 0x5C) ((eqb b 0x5B || eqb b 0x7B) || (eqb b 0x5D || eqb b 0x7D)) p.1 in
    let r = neither (eqb b 0x5B || eqb b 0x7B) (eqb b 0x5D || eqb b 0x7D) q.1 in
    record {
      no_quote = eqb-false b 0x22 p.0;
      no_backslash = eqb-false b 0x5C q.0;
      no_opening = r.0;
      no_closing = r.1;
    }

-- ---- what is said of a part from place a to place e, where place i of s is place o + i of the record

pub record HasStrings (inside odd : Bool) (s : List ℕ) (o a e : ℕ) (qs : List Quotes) : Type 0 where
  pub onward : a ≤ e
  -- both facts are false after it
  pub after : Carried inside odd s e false false
  -- word two is on in the strings qs, and nowhere else
  pub sound : (j : ℕ) → InOne qs j → (i : ℕ) × (j ≡ o + i) × (a ≤ i) × (i < e) × (in_string inside odd s i ≡ true)
  pub complete : (i : ℕ) → a ≤ i → i < e → in_string inside odd s i ≡ true → InOne qs (o + i)

-- a part without a bracket outside strings
pub record Flat (inside odd : Bool) (s : List ℕ) (o a e : ℕ) (qs : List Quotes) : Type 0 where
  pub strings : HasStrings inside odd s o a e qs
  pub no_opening : (i : ℕ) → a ≤ i → i < e → opens_at inside odd s i ≡ false
  pub no_closing : (i : ℕ) → a ≤ i → i < e → closes_at inside odd s i ≡ false

among_first : {ps : List Quotes} (qs : List Quotes) {i : ℕ} → InOne ps i → InOne (ps ++ qs) i
among_first qs h = record { quotes = h.quotes; among = Memᴰ.append_left qs h.among; from = h.from; before = h.before }

among_second : (ps : List Quotes) {qs : List Quotes} {i : ℕ} → InOne qs i → InOne (ps ++ qs) i
among_second ps h = record { quotes = h.quotes; among = Memᴰ.append_right ps h.among; from = h.from; before = h.before }

among_either : (ps : List Quotes) {qs : List Quotes} {i : ℕ} → InOne (ps ++ qs) i → InOne ps i ⊎ InOne qs i
among_either ps h = ⊎_elim
    (λ m. inl (record { quotes = h.quotes; among = m; from = h.from; before = h.before }))
    (λ m. inr (record { quotes = h.quotes; among = m; from = h.from; before = h.before }))
    (Memᴰ.append_cases ps h.among)

pub none_in : {i : ℕ} → InOne [] i → ⊥
none_in h = Memᴰ.not-nil h.among

pub calm_after : {inside odd : Bool} {s : List ℕ} {a : ℕ} → Calm (byte_at s a) → Carried inside odd s a false false
    → Carried inside odd s (suc a) false false
calm_after {inside} {odd} {s} {a} b c = carry_plain inside odd s a false false b.no_quote b.no_backslash c

module _ {inside odd : Bool} {s : List ℕ} {o : ℕ} where
  -- one part after another
  pub strings_then : {a b e : ℕ} {ps qs : List Quotes} → HasStrings inside odd s o a b ps → HasStrings inside odd s o b e qs → HasStrings inside odd s o a e (ps ++ qs)
  strings_then {a} {b} {e} {ps} {qs} p q = record {
    onward = omega (arith, p.onward, q.onward);
    after = q.after;
    sound = λ j h. ⊎_elim
        (λ (x : InOne ps j). let r = p.sound j x in (r.0, r.1, r.2, omega (arith, r.3, q.onward), r.4))
        (λ (x : InOne qs j). let r = q.sound j x in (r.0, r.1, omega (arith, r.2, p.onward), r.3, r.4))
        (among_either ps h);
    complete = λ i h l t. ⊎_elim
        (λ (x : i < b). among_first qs (p.complete i h x t))
        (λ (x : b ≤ i). among_second ps (q.complete i x l t))
        (lt_or_ge i b);
  }

  pub flat_then : {a b e : ℕ} {ps qs : List Quotes} → Flat inside odd s o a b ps → Flat inside odd s o b e qs → Flat inside odd s o a e (ps ++ qs)
  flat_then {a} {b} {e} p q = record {
    strings = strings_then p.strings q.strings;
    no_opening = λ i h l. ⊎_elim (λ (x : i < b). p.no_opening i h x) (λ (x : b ≤ i). q.no_opening i x l) (lt_or_ge i b);
    no_closing = λ i h l. ⊎_elim (λ (x : i < b). p.no_closing i h x) (λ (x : b ≤ i). q.no_closing i x l) (lt_or_ge i b);
  }

  -- nothing
  pub flat_none : {a : ℕ} → Carried inside odd s a false false → Flat inside odd s o a a []
  flat_none {a} c = record {
    strings = record {
      onward = omega arith;
      after = c;
      sound = λ j h. absurd (none_in h);
      complete = λ i h l. absurd (omega arith);
    };
    no_opening = λ i h l. absurd (omega arith);
    no_closing = λ i h l. absurd (omega arith);
  }

  -- a byte outside strings after which one is outside too
  pub strings_one : {a : ℕ} → Carried inside odd s (suc a) false false → HasStrings inside odd s o a (suc a) []
  strings_one {a} c = record {
    onward = omega arith;
    after = c;
    sound = λ j h. absurd (none_in h);
    complete = λ i h l t.
        (let z : i ≡ a = omega arith in
        absurd (false≢true (sym (carried_string inside odd s a false false c) ∙ ap (in_string inside odd s) (sym z) ∙ t)));
  }

  -- a calm byte
  pub flat_byte : {a : ℕ} → Calm (byte_at s a) → Carried inside odd s a false false → Flat inside odd s o a (suc a) []
  unfolding opens_at closes_at
  flat_byte {a} b c = record {
    strings = strings_one (calm_after b c);
    no_opening = λ i h l.
        (let z : i ≡ a = omega arith in
        ap (opens_at inside odd s) z ∙ ap (λ (x : Bool). x && not (in_string inside odd s a)) b.no_opening);
    no_closing = λ i h l.
        (let z : i ≡ a = omega arith in
        ap (closes_at inside odd s) z ∙ ap (λ (x : Bool). x && not (in_string inside odd s a)) b.no_closing);
  }

  -- the same, with the place or the strings named otherwise
  pub strings_to : {a e f : ℕ} {qs : List Quotes} → e ≡ f → HasStrings inside odd s o a e qs → HasStrings inside odd s o a f qs
  strings_to {a} {e} {f} {qs} z m = subst (λ (x : ℕ). HasStrings inside odd s o a x qs) z m

  pub strings_in : {a e : ℕ} {ps qs : List Quotes} → ps ≡ qs → HasStrings inside odd s o a e ps → HasStrings inside odd s o a e qs
  strings_in {a} {e} {ps} {qs} z m = subst (λ (x : List Quotes). HasStrings inside odd s o a e x) z m

  pub flat_to : {a e f : ℕ} {qs : List Quotes} → e ≡ f → Flat inside odd s o a e qs → Flat inside odd s o a f qs
  flat_to {a} {e} {f} {qs} z p = subst (λ (x : ℕ). Flat inside odd s o a x qs) z p

  -- calm bytes
  pub flat_bytes : (xs rest : List ℕ) (a : ℕ) → all_calm xs ≡ true → drop a s ≡ xs ++ rest → Carried inside odd s a false false
      → Flat inside odd s o a (a + length xs) []
  unfolding all_calm
  flat_bytes [] rest a h e c = flat_to (sym (add-zero a)) (flat_none c)
  flat_bytes (x ∷ xs) rest a h e c = more_bytes (head_of s a x (xs ++ rest) e) ((and-eq-true_iff (calm x) (all_calm xs)).0 h) c (flat_bytes xs rest (suc a))
    where
      more_bytes : Head s a x (xs ++ rest) → (calm x ≡ true) × (all_calm xs ≡ true) → Carried inside odd s a false false
          → (all_calm xs ≡ true → drop (suc a) s ≡ xs ++ rest → Carried inside odd s (suc a) false false
          → Flat inside odd s o (suc a) (suc a + length xs) [])
          → Flat inside odd s o a (a + suc (length xs)) []
      more_bytes t h c more =
          let b : Calm (byte_at s a) = rw (byte_at_lem t) (calm_is x h.0) in
          let z : suc a + length xs ≡ a + suc (length xs) = omega arith in
          flat_to z (flat_then (flat_byte b c) (more h.1 t.rest_is (calm_after b c)))

-- ---- a string

-- from place p to place q one is inside a string, and at q escaped or not
pub record Held (inside odd : Bool) (s : List ℕ) (p q : ℕ) (escape : Bool) : Type 0 where
  pub onward : p ≤ q
  pub quoted : (i : ℕ) → p ≤ i → i ≤ q → odd_quotes inside odd s i ≡ true
  pub after : Carried inside odd s q true escape

module _ {inside odd : Bool} {s : List ℕ} where
  held_none : {p : ℕ} {escape : Bool} → Carried inside odd s p true escape → Held inside odd s p p escape
  held_none {p} c = record {
    onward = omega arith;
    quoted = λ i h l. (let z : i ≡ p = omega arith in ap (odd_quotes inside odd s) z ∙ c.quoted_is);
    after = c;
  }

  held_then : {p q r : ℕ} {x y : Bool} → Held inside odd s p q x → Held inside odd s q r y → Held inside odd s p r y
  held_then {p} {q} {r} f g = record {
    onward = omega (arith, f.onward, g.onward);
    quoted = λ i h l. ⊎_elim (λ (x : i < q). f.quoted i h (omega arith)) (λ (x : q ≤ i). g.quoted i x l) (lt_or_ge i q);
    after = g.after;
  }

  held_one : {p : ℕ} {x y : Bool} → Carried inside odd s p true x → Carried inside odd s (suc p) true y → Held inside odd s p (suc p) y
  held_one {p} c d = record {
    onward = omega arith;
    quoted = λ i h l. ⊎_elim
        (λ (x : i < suc p). let z : i ≡ p = omega arith in ap (odd_quotes inside odd s) z ∙ c.quoted_is)
        (λ (x : suc p ≤ i). let z : i ≡ suc p = omega arith in ap (odd_quotes inside odd s) z ∙ d.quoted_is)
        (lt_or_ge i (suc p));
    after = d;
  }

  held_to : {p q r : ℕ} {x : Bool} → q ≡ r → Held inside odd s p q x → Held inside odd s p r x
  held_to {p} {q} {r} {x} z f = subst (λ (y : ℕ). Held inside odd s p y x) z f

  held_plain : {p : ℕ} (b : ℕ) (rest : List ℕ) → (eqb b 0x22 || eqb b 0x5C) ≡ false → Head s p b rest → Carried inside odd s p true false
      → Held inside odd s p (suc p) false
  held_plain {p} b rest h t c =
      let n = neither (eqb b 0x22) (eqb b 0x5C) h in
      held_one c
      (carry_plain inside odd s p true false (λ e. eqb-false b 0x22 n.0 (sym (byte_at_lem t) ∙ e))
      (λ e. eqb-false b 0x5C n.1 (sym (byte_at_lem t) ∙ e)) c)

  held_escaped : {p : ℕ} (b : ℕ) (rest : List ℕ) → Head s p 0x5C (b ∷ rest) → Carried inside odd s p true false
      → Held inside odd s p (suc (suc p)) false
  held_escaped {p} b rest t c =
      let d = carry_backslash inside odd s p true (byte_at_lem t) c in
      held_then (held_one c d) (held_one d (carry_escaped inside odd s (suc p) true d))

  pub held_pieces : (ps : List Piece) (rest : List ℕ) (p : ℕ) → drop p s ≡ put_pieces ps rest → Carried inside odd s p true false
      → Held inside odd s p (p + length (put_pieces ps [])) false
  unfolding put_pieces
  held_pieces [] rest p e c = held_to (sym (add-zero p)) (held_none c)
  held_pieces (plain b h ∷ ps) rest p e c = one (head_of s p b (put_pieces ps rest) e) (held_pieces ps rest (suc p))
    where
      one : Head s p b (put_pieces ps rest)
          → (drop (suc p) s ≡ put_pieces ps rest → Carried inside odd s (suc p) true false
          → Held inside odd s (suc p) (suc p + length (put_pieces ps [])) false)
          → Held inside odd s p (p + suc (length (put_pieces ps []))) false
      one t more =
          let f = held_plain b (put_pieces ps rest) h t c in
          let z : suc p + length (put_pieces ps []) ≡ p + suc (length (put_pieces ps [])) = omega arith in
          held_to z (held_then f (more t.rest_is f.after))
  held_pieces (escaped b ∷ ps) rest p e c = two (head_of s p 0x5C (b ∷ put_pieces ps rest) e) (held_pieces ps rest (suc (suc p)))
    where
      two : Head s p 0x5C (b ∷ put_pieces ps rest)
          → (drop (suc (suc p)) s ≡ put_pieces ps rest → Carried inside odd s (suc (suc p)) true false
          → Held inside odd s (suc (suc p)) (suc (suc p) + length (put_pieces ps [])) false)
          → Held inside odd s p (p + suc (suc (length (put_pieces ps [])))) false
      two t more =
          let f = held_escaped b (put_pieces ps rest) t c in
          let u = head_of s (suc p) b (put_pieces ps rest) t.rest_is in
          let z : suc (suc p) + length (put_pieces ps []) ≡ p + suc (suc (length (put_pieces ps []))) = omega arith in
          held_to z (held_then f (more u.rest_is f.after))

module _ {inside odd : Bool} {s : List ℕ} (o : ℕ) {a q : ℕ} (w : Quotes) (first : w.first ≡ o + a) (last : w.last ≡ o + q)
    (opening : byte_at s a ≡ 0x22) (closing : byte_at s q ≡ 0x22) (h : Held inside odd s (suc a) q false) where
  on_in : (i : ℕ) → a ≤ i → i < q → in_string inside odd s i ≡ true
  unfolding in_string
  on_in i l r = h.quoted (suc i) (omega arith) (omega arith)

  closed : Carried inside odd s (suc q) false false
  closed = carry_quote inside odd s q true closing h.after

  off_last : in_string inside odd s q ≡ false
  off_last = carried_string inside odd s q false false closed

  one_of_them : {j : ℕ} → InOne (w ∷ []) j → (w.first ≤ j) × (j < w.last)
  one_of_them m =
      let e : m.quotes ≡ w = Memᴰ.eq_of_singleton m.among in
      (omega (arith, m.from, ap (λ (x : Quotes). x.first) e), omega (arith, m.before, ap (λ (x : Quotes). x.last) e))

  quoted_strings : HasStrings inside odd s o a (suc q) (w ∷ [])
  quoted_strings = record {
    onward = omega (arith, h.onward);
    after = closed;
    sound = λ j m.
        (let b = one_of_them m in
        let z : j ≡ o + (j - o) = omega (arith, b.0) in
        (j - o, z, omega (arith, b.0), omega (arith, b.1), on_in (j - o) (omega (arith, b.0)) (omega (arith, b.1))));
    complete = λ i l r t. ⊎_elim
        (λ (x : i < q). record { quotes = w; among = Memᴰ.head refl; from = omega arith; before = omega arith })
        (λ (x : q ≤ i). let z : i ≡ q = omega arith in absurd (false≢true (sym off_last ∙ ap (in_string inside odd s) (sym z) ∙ t)))
        (lt_or_ge i q);
  }

  pub flat_quoted : Flat inside odd s o a (suc q) (w ∷ [])
  unfolding opens_at closes_at
  flat_quoted = record {
    strings = quoted_strings;
    no_opening = λ i l r. no_bracket 0x5B 0x7B refl i l r;
    no_closing = λ i l r. no_bracket 0x5D 0x7D refl i l r;
  }
    where
      no_bracket : (x y : ℕ) → (eqb 0x22 x || eqb 0x22 y) ≡ false → (i : ℕ) → a ≤ i → i < suc q
          → ((eqb (byte_at s i) x || eqb (byte_at s i) y) && not (in_string inside odd s i)) ≡ false
      no_bracket x y e i l r = ⊎_elim
          (λ (c : i < q).
          let bracket = eqb (byte_at s i) x || eqb (byte_at s i) y in
          ap (λ (b : Bool). bracket && not b) (on_in i l c) ∙ and-false bracket)
          (λ (c : q ≤ i).
          let z : i ≡ q = omega arith in
          ap (λ (b : ℕ). (eqb b x || eqb b y) && not (in_string inside odd s i)) (ap (byte_at s) z ∙ closing)
          ∙ ap (λ (b : Bool). b && not (in_string inside odd s i)) e)
          (lt_or_ge i q)

-- a string, from its opening quote to its closing one; place a of s is place p of the record
pub flat_string : {inside odd : Bool} {s : List ℕ} (o : ℕ) {p : ℕ} (cs : List Char) (rest : List ℕ) (a : ℕ) → p ≡ o + a → drop a s ≡ put_string cs rest
    → Carried inside odd s a false false → Flat inside odd s o a (a + length (put_string cs [])) (quotes_of cs p ∷ [])
unfolding put_string quotes_of
flat_string {inside} {odd} {s} o {p} cs rest a z e c =
    let t = head_of s a 0x22 (put_chars cs (0x22 ∷ rest)) e in
    let q : ℕ = suc a + length (put_chars cs []) in
    let f : Held inside odd s (suc a) (suc a + length (put_pieces (pieces cs) [])) false =
    held_pieces (pieces cs) (0x22 ∷ rest) (suc a) (t.rest_is ∙ chars_are cs (0x22 ∷ rest)) (carry_quote inside odd s a false (byte_at_lem t) c) in
    let g : Held inside odd s (suc a) q false = held_to (ap (λ (x : List ℕ). suc a + length x) (sym (chars_are cs []))) f in
    let u = head_of s q 0x22 rest (past s (suc a) (put_chars cs []) (0x22 ∷ rest) (t.rest_is ∙ chars_split cs (0x22 ∷ rest))) in
    flat_to (omega (arith, length_chars cs (0x22 ∷ []))) (flat_quoted o (quotes_of cs p) z (omega arith) (byte_at_lem t) (byte_at_lem u) g)
