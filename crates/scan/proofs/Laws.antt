-- From runs of bytes to parts of the grammar: where a run of the right kind starts, the part that stands there is the run. Assumes nothing.
use mathlib.Core.Path.{◌≡◌, refl, sym, ap, ap₂, subst, ◌∙◌}
use mathlib.Core.List.{List, [], ◌∷◌, ◌++◌}
use mathlib.Core.Bool.{Bool, true, false, not, false≢true, and-false, and-eq-true_iff}
use Prim.Native.Nat.{ℕ, suc, ◌+◌, ◌-◌, ◌≤◌, ◌<◌}
use native.Mathlib.Numerals.{add-one, add-two}
use native.Mathlib.Omega.{arith}
use lib.Dec.{eqb, ltb}
use lib.ListN.{length, take, drop, get_or, length-drop}
use lib.Seq.{slice, drop-drop, take-append_seam}
use borrow.Author.Tests.{ltb-true, ltb-false, not-true}
use Rattle.bits.specs.Truth.{neither}
use Rattle.blocks.specs.Laws.{odd_drop}
use Rattle.blocks.specs.Words.{odd_before}
use Rattle.classifier.specs.Classes.{byte_at, is_backslash}
use Rattle.encoding.specs.Bytes.{Blanks, put_blanks, put_in}
use Rattle.encoding.specs.BytesLaws.{blanks_split, length_blanks}
use Rattle.encoding.specs.Unescape as U
use Rattle.json_text.specs.Append.{value_split, length_value, value_positive, append_chars, chars_split, length_chars}
use Rattle.json_text.specs.Grammar as G
use Rattle.json_text.specs.Grammar.{Literal, Minus, Int, Char, Name, Value}
use Rattle.json_text.specs.Grammar.{put_literal, put_minus, put_int, put_frac, put_exp, put_chars, put_string, put_key, put_value}
use Rattle.encoding.specs.BytesLaws.{in_bounds}
use Rattle.select.specs.Nodes.{size, key_size}
use Rattle.lanes.specs.Kinds.{unquoted, gap}
use Rattle.swar.specs.Run.{Run}
use Rattle.scan.specs.Places.{Head, head_of, past, past_blanks, slice_is}
use Rattle.scan.specs.Scans.{is_word_byte, IsScalar, EndsBlanks, EndsString, EndsName, EndsScalar, EntersItem}
use Rattle.scan.specs.Shape.{ends_word_of, solid, stopped, wordy, Piece, plain, escaped, put_pieces}
use Rattle.scan.specs.ShapeLaws.{AllOf, solid_key, solid_colon, blank_is, wordy_literal, wordy_number, pieces, chars_are}

module _ {p : ℕ → Bool} {s : List ℕ} where
  -- a run ends where a byte is not of its kind, and goes on where one is
  pub run_here : {a r : ℕ} → Run p s a r → p (get_or s a 0) ≡ false → r ≡ a
  run_here {a} {r} h e = go (ltb a r) refl
    where
      go : (b : Bool) → ltb a r ≡ b → r ≡ a
      go true l = absurd (false≢true (sym e ∙ h.passed.each a (omega arith) (ltb-true a r l)))
      go false l = omega (arith, ltb-false a r l, h.passed.forward)

  pub run_next : {a r : ℕ} → Run p s a r → a < length s → p (get_or s a 0) ≡ true → Run p s (suc a) r
  run_next {a} {r} h l e =
      record {
        passed = record { forward = go (ltb a r) refl; within = h.passed.within; each = λ i f g. h.passed.each i (omega arith) g };
        stop = h.stop;
      }
    where
      go : (b : Bool) → ltb a r ≡ b → a < r
      go true k = ltb-true a r k
      go false k =
          let same : r ≡ a = omega (arith, ltb-false a r k, h.passed.forward) in
          absurd (false≢true (sym (h.stop (omega arith)) ∙ ap (λ (i : ℕ). p (get_or s i 0)) same ∙ e))

-- past bytes of the kind the run goes on
pub run_past : {p : ℕ → Bool} {s : List ℕ} {a r : ℕ} (xs rest : List ℕ) → AllOf p xs → drop a s ≡ xs ++ rest → Run p s a r → Run p s (a + length xs) r
run_past {p} {s} {a} {r} [] rest f e h = let z : a ≡ a + 0 = omega arith in rw z at h
run_past {p} {s} {a} {r} (b ∷ xs) rest f e h =
    let x = head_of s a b (xs ++ rest) e in
    let z : suc a + length xs ≡ a + suc (length xs) = omega arith in
    subst (λ (i : ℕ). Run p s i r) z (run_past xs rest f.1 x.rest_is (run_next h x.inside (ap p x.byte_is ∙ f.0)))

-- the byte after a list is not of the kind, or there is none
abbrev Stops : (ℕ → Bool) → List ℕ → Type 0
Stops p [] = Unit {0}
Stops p (b ∷ u) = p b ≡ false

run_exact : {p : ℕ → Bool} {s : List ℕ} {a r : ℕ} (xs rest : List ℕ) → AllOf p xs → Stops p rest → drop a s ≡ xs ++ rest
    → Run p s a r → r ≡ a + length xs
run_exact {p} {s} {a} {r} xs rest f g e h = ends rest g (past s a xs rest e) (run_past xs rest f e h)
  where
    ends : {i : ℕ} (rest : List ℕ) → Stops p rest → drop i s ≡ rest → Run p s i r → r ≡ i
    ends {i} [] g e h = omega (arith, h.passed.forward, h.passed.within, length-drop i s, ap length e)
    ends {i} (b ∷ rest) g e h = run_here h (ap p (head_of s i b rest e).byte_is ∙ g)

-- blanks
all_blanks : (w : Blanks) → AllOf gap (put_blanks w [])
unfolding put_blanks
all_blanks [] = tt
all_blanks (b ∷ w) = (blank_is b, all_blanks w)

solid_stops : (rest : List ℕ) → solid rest ≡ true → Stops gap rest
unfolding solid
solid_stops [] h = tt
solid_stops (b ∷ rest) h = not-true (gap b) h

pub run_blanks : {s : List ℕ} {a r : ℕ} → Run gap s a r → EndsBlanks s a r
run_blanks {s} {a} {r} h = record { onward = h.passed.forward; within = h.passed.within; exact = exactly }
  where
    exactly : (w : Blanks) (rest : List ℕ) → drop a s ≡ put_blanks w rest → solid rest ≡ true → r ≡ a + length w
    exactly w rest e f =
        omega (arith, run_exact (put_blanks w []) rest (all_blanks w) (solid_stops rest f) (e ∙ blanks_split w rest) h, length_blanks w [])

-- literals and numbers
all_word : (xs : List ℕ) → wordy xs ≡ true → AllOf is_word_byte xs
unfolding wordy is_word_byte
all_word [] h = tt
all_word (b ∷ xs) h = let (x, y) = (and-eq-true_iff (not (ends_word_of b)) (wordy xs)).0 h in (x, all_word xs y)

stopped_stops : (rest : List ℕ) → stopped rest ≡ true → Stops is_word_byte rest
unfolding stopped is_word_byte
stopped_stops [] h = tt
stopped_stops (b ∷ rest) h = ap not h

run_word : {s : List ℕ} {a r : ℕ} (v : Value) (rest : List ℕ) → wordy (put_value v []) ≡ true → Run is_word_byte s a r
    → drop a s ≡ put_value v rest → stopped rest ≡ true → r ≡ a + size v
unfolding size
run_word v rest w h e f = run_exact (put_value v []) rest (all_word (put_value v []) w) (stopped_stops rest f) (e ∙ value_split v rest) h

-- strings: what is still ahead of place i, where the string ends at place e
pub record Ahead (s rest : List ℕ) (e i : ℕ) : Type 0 where
  pub ps : List Piece
  pub here : drop i s ≡ put_pieces ps (0x22 ∷ rest)
  pub ends : e ≡ i + length (put_pieces ps []) + 1

-- of the first quote from place i on, at q: the string ends there, or, behind an odd run of backslashes, is still ahead
record FirstQuote (s rest : List ℕ) (e i q : ℕ) : Type 0 where
  inside : q < length s
  ends_here : odd_before false (drop i s) (q - i) ≡ false → e ≡ q + 1
  goes_on : odd_before false (drop i s) (q - i) ≡ true → Ahead s rest e (q + 1)

-- a piece that ends at place j: no odd run of backslashes reaches over j, so what the quote is may be asked from there
past_piece : {s rest : List ℕ} {e i j q : ℕ} (n : ℕ) → i + n ≡ j → j ≤ q → odd_before false (drop i s) n ≡ false
    → FirstQuote s rest e j q → FirstQuote s rest e i q
past_piece {s} {i} {j} {q} n at h even x =
    let z : q - i ≡ n + (q - j) = omega arith in
    let same : odd_before false (drop i s) (q - i) ≡ odd_before false (drop j s) (q - j) =
    ap (odd_before false (drop i s)) z
    ∙ sym (odd_drop (drop i s) false false n (q - j))
    ∙ ap₂ (λ (o : Bool) (t : List ℕ). odd_before o t (q - j)) even (drop-drop n i s ∙ ap (λ (k : ℕ). drop k s) at) in
    record { inside = x.inside; ends_here = λ g. x.ends_here (sym same ∙ g); goes_on = λ g. x.goes_on (sym same ∙ g) }

-- the run of backslashes behind each piece: none behind a plain byte, one inside an escape, and none behind it
plain_even : (b : ℕ) (u : List ℕ) → eqb b 0x5C ≡ false → odd_before false (b ∷ u) 1 ≡ false
unfolding odd_before is_backslash byte_at
plain_even b u e = rw e

escape_odd : (u : List ℕ) → odd_before false (0x5C ∷ u) 1 ≡ true
unfolding odd_before is_backslash byte_at
escape_odd u = refl

escape_even : (b : ℕ) (u : List ℕ) → odd_before false (0x5C ∷ b ∷ u) 2 ≡ false
unfolding odd_before is_backslash byte_at
escape_even b u = and-false (eqb b 0x5C)

-- an escape: its byte is the quote, or the quote is behind it
module _ {s : List ℕ} {i q b : ℕ} {u : List ℕ} (here : drop i s ≡ 0x5C ∷ b ∷ u) (run : Run unquoted s i q) where
  after_escape : Head s (suc i) b u
  after_escape = head_of s (suc i) b u (head_of s i 0x5C (b ∷ u) here).rest_is

  run_escape : Run unquoted s (suc i) q
  unfolding unquoted
  run_escape = let x = head_of s i 0x5C (b ∷ u) here in run_next run x.inside (ap unquoted x.byte_is)

  module _ {rest : List ℕ} {e : ℕ} where
    escaped_quote : eqb b 0x22 ≡ true → Ahead s rest e (suc (suc i)) → FirstQuote s rest e i q
    unfolding unquoted
    escaped_quote f ahead =
        let z : q ≡ suc i = run_here run_escape (ap unquoted after_escape.byte_is ∙ ap not f) in
        let one : q - i ≡ 1 = omega arith in
        let there : suc (suc i) ≡ q + 1 = omega arith in
        let odd : odd_before false (drop i s) (q - i) ≡ true = ap₂ (odd_before false) here one ∙ escape_odd (b ∷ u) in
        record {
          inside = omega (arith, after_escape.inside);
          ends_here = λ g. absurd (false≢true (sym g ∙ odd));
          goes_on = λ g. rw there at ahead;
        }

    escaped_other : eqb b 0x22 ≡ false → (Run unquoted s (suc (suc i)) q → FirstQuote s rest e (suc (suc i)) q) → FirstQuote s rest e i q
    unfolding unquoted
    escaped_other f more =
        let onward = run_next run_escape after_escape.inside (ap unquoted after_escape.byte_is ∙ ap not f) in
        past_piece 2 (add-two i) onward.passed.forward (rw here (escape_even b u)) (more onward)

    past_escape : Ahead s rest e (suc (suc i)) → (Run unquoted s (suc (suc i)) q → FirstQuote s rest e (suc (suc i)) q) → FirstQuote s rest e i q
    past_escape ahead more = go (eqb b 0x22) refl
      where
        go : (x : Bool) → eqb b 0x22 ≡ x → FirstQuote s rest e i q
        go true f = escaped_quote f ahead
        go false f = escaped_other f more

-- piece by piece
first_quote : {s rest : List ℕ} {e i q : ℕ} (ps : List Piece) → drop i s ≡ put_pieces ps (0x22 ∷ rest)
    → e ≡ i + length (put_pieces ps []) + 1 → Run unquoted s i q → FirstQuote s rest e i q
unfolding put_pieces unquoted odd_before
first_quote {s} {rest} {e} {i} {q} [] d f run =
    let x = head_of s i 0x22 rest d in
    let z : q ≡ i = run_here run (ap unquoted x.byte_is) in
    let none : q - i ≡ 0 = omega arith in
    record {
      inside = omega (arith, x.inside);
      ends_here = λ g. omega arith;
      goes_on = λ g. absurd (false≢true (sym (ap (odd_before false (drop i s)) none) ∙ g));
    }
first_quote {s} {rest} {e} {i} {q} (plain b n ∷ ps) d f run =
    let x = head_of s i b (put_pieces ps (0x22 ∷ rest)) d in
    let (no_quote, no_backslash) = neither (eqb b 0x22) (eqb b 0x5C) n in
    let onward = run_next run x.inside (ap unquoted x.byte_is ∙ ap not no_quote) in
    past_piece 1 (add-one i) onward.passed.forward (rw d (plain_even b (put_pieces ps (0x22 ∷ rest)) no_backslash))
    (first_quote ps x.rest_is (omega arith) onward)
first_quote {s} {rest} {e} {i} {q} (escaped b ∷ ps) d f run =
    let there = (after_escape d run).rest_is in
    past_escape d run (record { ps = ps; here = there; ends = omega arith }) (first_quote ps there (omega arith))

-- the characters of a string are ahead of the place after its opening quote
chars_ahead : {s : List ℕ} {a : ℕ} (cs : List Char) (rest : List ℕ) → drop a s ≡ put_chars cs (0x22 ∷ rest)
    → Ahead s rest (a + length (put_chars cs []) + 1) a
chars_ahead {s} {a} cs rest e =
    record { ps = pieces cs; here = e ∙ chars_are cs (0x22 ∷ rest); ends = ap (λ (x : List ℕ). a + length x + 1) (chars_are cs []) }

-- from place a to place i the string has not ended
abbrev pub Until : List ℕ → ℕ → ℕ → Type 0
Until s a i = (rest : List ℕ) (e : ℕ) → Ahead s rest e a → Ahead s rest e i

pub ends_string : {s : List ℕ} {a r : ℕ} → a ≤ r → r ≤ length s → ((rest : List ℕ) (e : ℕ) → Ahead s rest e a → e ≡ r) → EndsString s a r
ends_string {s} {a} {r} h l f =
    record { onward = h; within = l; exact = λ cs rest e. sym (f rest (a + length (put_chars cs []) + 1) (chars_ahead cs rest e)) }

-- a value that begins with a quote is a string, and no word begins with one
int_head : (s : List ℕ) (a : ℕ) (n : Int) (u : List ℕ) → drop a s ≡ put_int n u → get_or s a 0 ≡ 0x22 → ⊥
unfolding put_int
int_head s a G.nought u d q = let z : ◌≡◌ {A = ℕ} 0x30 0x22 = sym (head_of s a 0x30 u d).byte_is ∙ q in omega arith
int_head s a (G.whole x ds) u d q = let z : x.byte ≡ 0x22 = sym (head_of s a x.byte (put_in ds u) d).byte_is ∙ q in omega (arith, in_bounds x)

module _ (s : List ℕ) (a : ℕ) where
  no_literal : (l : Literal) (rest : List ℕ) → drop a s ≡ put_literal l rest → get_or s a 0 ≡ 0x22 → ⊥
  unfolding put_literal
  no_literal G.false_name rest d q = let z : ◌≡◌ {A = ℕ} 0x66 0x22 = sym (head_of s a _ _ d).byte_is ∙ q in omega arith
  no_literal G.null_name rest d q = let z : ◌≡◌ {A = ℕ} 0x6E 0x22 = sym (head_of s a _ _ d).byte_is ∙ q in omega arith
  no_literal G.true_name rest d q = let z : ◌≡◌ {A = ℕ} 0x74 0x22 = sym (head_of s a _ _ d).byte_is ∙ q in omega arith

  no_number : (g : Minus) (n : Int) (u : List ℕ) → drop a s ≡ put_minus g (put_int n u) → get_or s a 0 ≡ 0x22 → ⊥
  unfolding put_minus
  no_number G.unsigned n u d q = int_head s a n u d q
  no_number G.minus n u d q = let z : ◌≡◌ {A = ℕ} 0x2D 0x22 = sym (head_of s a _ _ d).byte_is ∙ q in omega arith

  string_value : (r : ℕ) → EndsString s (a + 1) r → (cs : List Char) (rest : List ℕ) → drop a s ≡ put_string cs rest → r ≡ a + size (G.string cs)
  unfolding put_string size put_value
  string_value r h cs rest d =
      let x = head_of s a 0x22 (put_chars cs (0x22 ∷ rest)) d in
      let one : a + 1 ≡ suc a = add-one a in
      omega (arith, h.exact cs rest (ap (λ (i : ℕ). drop i s) one ∙ x.rest_is), length_chars cs (0x22 ∷ []))

  pub scalar_string : (r : ℕ) → a ≤ r → get_or s a 0 ≡ 0x22 → EndsString s (a + 1) r → EndsScalar s a r
  unfolding put_value
  scalar_string r l q h = record { onward = l; within = h.within; exact = exactly }
    where
      exactly : (v : Value) (rest : List ℕ) → IsScalar v → drop a s ≡ put_value v rest → stopped rest ≡ true → r ≡ a + size v
      exactly (G.literal x) rest c d f = absurd (no_literal x rest d q)
      exactly (G.number g n y e) rest c d f = absurd (no_number g n (put_frac y (put_exp e rest)) d q)
      exactly (G.string cs) rest c d f = string_value r h cs rest d
      exactly (G.container k is) rest c d f = absurd c

  pub scalar_word : (r : ℕ) → (get_or s a 0 ≡ 0x22 → ⊥) → Run is_word_byte s a r → EndsScalar s a r
  unfolding put_value put_string
  scalar_word r q h = record { onward = h.passed.forward; within = h.passed.within; exact = exactly }
    where
      exactly : (v : Value) (rest : List ℕ) → IsScalar v → drop a s ≡ put_value v rest → stopped rest ≡ true → r ≡ a + size v
      exactly (G.literal x) rest c d f = run_word (G.literal x) rest (wordy_literal x) h d f
      exactly (G.number g n y e) rest c d f = run_word (G.number g n y e) rest (wordy_number g n y e) h d f
      exactly (G.string cs) rest c d f = absurd (q (head_of s a 0x22 (put_chars cs (0x22 ∷ rest)) d).byte_is)
      exactly (G.container k is) rest c d f = absurd c

  -- nothing stands at the end of the record
  pub scalar_none : length s ≤ a → a ≤ length s → EndsScalar s a a
  scalar_none h l =
      record {
        onward = omega arith;
        within = l;
        exact = λ v rest c d f. absurd (omega (arith, length-drop a s, ap length d, length_value v rest, value_positive v));
      }

-- an element: only the blanks before it
pub enters_element : (s : List ℕ) (a b : ℕ) → EndsBlanks s a b → EntersItem s a false b 0 0 false
unfolding put_key key_size
enters_element s a b h =
    record {
      onward = h.onward;
      within = h.within;
      name_order = omega arith;
      name_within = omega arith;
      exact = λ w key rest e f. (omega (arith, h.exact w rest e f), tt);
      quote = λ w key rest e f. tt;
      bare = λ _. U.none;
    }

-- a member: the blanks before it, its name, the blanks on both sides of its colon
member_size : (key : Name) → key_size G.object key ≡ length (put_chars key.chars []) + 3 + length key.before + length key.after
unfolding key_size put_key put_string
member_size key =
    omega (
      arith,
      length_chars key.chars (0x22 ∷ put_blanks key.before (0x3A ∷ put_blanks key.after [])),
      length_blanks key.before (0x3A ∷ put_blanks key.after []),
      length_blanks key.after [],
    )

module _ (s : List ℕ) (a b : ℕ) (first : EndsBlanks s a b) (w : Blanks) (key : Name) (rest : List ℕ)
    (here : drop a s ≡ put_blanks w (put_key G.object key rest)) (firm : solid rest ≡ true) where
  abbrev after_colon : List ℕ
  after_colon = put_blanks key.after rest

  abbrev after_name : List ℕ
  after_name = put_blanks key.before (0x3A ∷ after_colon)

  start_is : b ≡ a + length w
  unfolding put_key put_string
  start_is = first.exact w (put_key G.object key rest) here (solid_key G.object key rest firm)

  -- the opening quote
  pub name_head : Head s b 0x22 (put_chars key.chars (0x22 ∷ after_name))
  unfolding put_key put_string
  name_head =
      head_of s b 0x22 (put_chars key.chars (0x22 ∷ after_name))
      (ap (λ (i : ℕ). drop i s) start_is ∙ past_blanks s a w (put_key G.object key rest) here)

  name_here : drop (b + 1) s ≡ put_chars key.chars (0x22 ∷ after_name)
  name_here = ap (λ (i : ℕ). drop i s) (add-one b) ∙ name_head.rest_is

  module _ (e : ℕ) (name : EndsString s (b + 1) e) where
    name_end_lem : e ≡ b + 1 + length (put_chars key.chars []) + 1
    name_end_lem = name.exact key.chars after_name name_here

    name_bytes : slice (b + 1) (e - 1) s ≡ put_chars key.chars []
    name_bytes =
        let n : e - 1 - (b + 1) ≡ length (put_chars key.chars []) = omega (arith, name_end_lem) in
        slice_is (b + 1) (e - 1) s
        ∙ ap (λ (i : ℕ). take i (drop (b + 1) s)) n
        ∙ ap (take (length (put_chars key.chars []))) (name_here ∙ chars_split key.chars (0x22 ∷ after_name))
        ∙ take-append_seam (put_chars key.chars []) (0x22 ∷ after_name)

    after_here : drop e s ≡ after_name
    after_here =
        let n : b + 1 + length (put_chars key.chars (0x22 ∷ [])) ≡ e = omega (arith, name_end_lem, length_chars key.chars (0x22 ∷ [])) in
        ap (λ (i : ℕ). drop i s) (sym n)
        ∙ past s (b + 1) (put_chars key.chars (0x22 ∷ [])) after_name (name_here ∙ append_chars key.chars (0x22 ∷ []) after_name)

    module _ (c : ℕ) (second : EndsBlanks s e c) where
      colon_is : c ≡ e + length key.before
      colon_is = second.exact key.before (0x3A ∷ after_colon) after_here (solid_colon after_colon)

      pub colon_head : Head s c 0x3A after_colon
      colon_head =
          head_of s c 0x3A after_colon
          (ap (λ (i : ℕ). drop i s) colon_is ∙ past_blanks s e key.before (0x3A ∷ after_colon) after_here)

      module _ (v : ℕ) (third : EndsBlanks s (c + 1) v) where
        value_is : v ≡ a + length w + key_size G.object key
        value_is =
            let x : v ≡ c + 1 + length key.after =
            third.exact key.after rest (ap (λ (i : ℕ). drop i s) (add-one c) ∙ colon_head.rest_is) firm in
            omega (arith, colon_is, name_end_lem, start_is, member_size key)

-- where no member stands there is nothing to show
enters_nothing : (s : List ℕ) (a v : ℕ) → a ≤ v → v ≤ length s
    → ((w : Blanks) (key : Name) (rest : List ℕ) → drop a s ≡ put_blanks w (put_key G.object key rest) → solid rest ≡ true → ⊥)
    → EntersItem s a true v 0 0 false
enters_nothing s a v h l none =
    record {
      onward = h;
      within = l;
      name_order = omega arith;
      name_within = omega arith;
      exact = λ w key rest e f. absurd (none w key rest e f);
      quote = λ w key rest e f. absurd (none w key rest e f);
      bare = λ _. U.none;
    }

module _ (s : List ℕ) (a b : ℕ) (first : EndsBlanks s a b) where
  pub enters_end : length s ≤ b → EntersItem s a true b 0 0 false
  enters_end h = enters_nothing s a b first.onward first.within (λ w key rest e f. omega (arith, (name_head s a b first w key rest e f).inside))

  module _ (e : ℕ) (o : Bool) (name : EndsName s (b + 1) e o) (c : ℕ) (second : EndsBlanks s e c) where
    pub enters_no_colon : length s ≤ c → EntersItem s a true c 0 0 false
    enters_no_colon h =
        enters_nothing s a c (omega (arith, first.onward, name.ends.onward, second.onward)) second.within
        (λ w key rest d f. omega (arith, (colon_head s a b first w key rest d f e name.ends c second).inside))

    pub enters_no_name : e ≤ b + 1 → EntersItem s a true c 0 0 false
    enters_no_name h =
        enters_nothing s a c (omega (arith, first.onward, name.ends.onward, second.onward)) second.within
        (λ w key rest d f. omega (arith, name_end_lem s a b first w key rest d f e name.ends))

    pub enters_member : b + 1 < e → (v : ℕ) → EndsBlanks s (c + 1) v → EntersItem s a true v (b + 1) (e - 1) o
    enters_member h v third =
        record {
          onward = omega (arith, first.onward, name.ends.onward, second.onward, third.onward);
          within = third.within;
          name_order = omega arith;
          name_within = omega (arith, name.ends.within);
          exact = λ w key rest d f.
              (value_is s a b first w key rest d f e name.ends c second v third, name_bytes s a b first w key rest d f e name.ends);
          quote = λ w key rest d f. ap (λ (i : ℕ). i + 1) (start_is s a b first w key rest d f);
          bare = name.bare;
        }

-- what a byte that ends a word, or does not, is to a word
pub word_byte : (b : ℕ) {x : Bool} → x ≡ ends_word_of b → is_word_byte b ≡ not x
unfolding is_word_byte
word_byte b e = ap not (sym e)

-- the loop over a string's inside: what has been shown at place i
pub record Within (s : List ℕ) (a i : ℕ) : Type 0 where
  pub onward : a ≤ i
  pub inside : i ≤ length s
  pub until : Until s a i

pub within_start : (s : List ℕ) (a : ℕ) → a ≤ length s → Within s a a
within_start s a h = record { onward = omega arith; inside = h; until = λ rest e x. x }

module _ {s : List ℕ} {a i q : ℕ} (w : Within s a i) (run : Run unquoted s i q) where
  met : (rest : List ℕ) (e : ℕ) → Ahead s rest e a → FirstQuote s rest e i q
  met rest e x = let y = w.until rest e x in first_quote y.ps y.here y.ends run

  pub string_out : length s ≤ q → EndsString s a q
  string_out h =
      ends_string (omega (arith, w.onward, run.passed.forward)) run.passed.within
      (λ rest e x. absurd (omega (arith, (met rest e x).inside)))

  pub string_closed : q < length s → odd_before false (drop i s) (q - i) ≡ false → EndsString s a (q + 1)
  string_closed h f =
      ends_string (omega (arith, w.onward, run.passed.forward)) (omega arith) (λ rest e x. (met rest e x).ends_here f)

  pub string_on : q < length s → odd_before false (drop i s) (q - i) ≡ true → Within s a (q + 1)
  string_on h f =
      record {
        onward = omega (arith, w.onward, run.passed.forward);
        inside = omega arith;
        until = λ rest e x. (met rest e x).goes_on f;
      }

-- what holds of an item in a container of one kind holds where the flag says that kind
pub enters_as : {s : List ℕ} {a v x y : ℕ} {b : Bool} (o p : Bool) → o ≡ p → EntersItem s a p v x y b → EntersItem s a o v x y b
enters_as o p e h = rw e h
