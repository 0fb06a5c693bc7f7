-- One step of a query: each part of it that a scan passed leads the reading on, and what stands there is a segment of the grammar.
-- Assumes nothing.
use Rattle.std.specs.Prelude.{Result, Ok, Err}
use mathlib.Core.Path.{◌≡◌, refl, ap, ap₂, sym, subst, ◌∙◌}
use mathlib.Core.List.{List, [], ◌∷◌, ◌++◌}
use mathlib.Core.Bool.{Bool, true, false}
use Prim.Native.Nat.{ℕ, suc, ◌+◌, ◌-◌, ◌≤◌, ◌<◌}
use native.Mathlib.Omega.{arith}
use lib.Dec.{T}
use lib.ListN.{length, get_or, drop}
use lib.Seq.{slice}
use Rattle.encoding.specs.BytesLaws.{byte_at_lem}
use Rattle.encoding.specs.Bytes as B
use Rattle.encoding.specs.Bytes.{Blanks, put_blanks}
use Rattle.encoding.specs.Prefix.{DeadPlace}
use Rattle.encoding.specs.declared.Dead.{Dead}
use Rattle.query_steps.specs.declared.Taking.{Taking}
use Rattle.query_steps.specs.declared.Taking.TheVariants.{Every, Name, Position}
use Rattle.query.specs.Grammar as G
use Rattle.query.specs.Grammar.{Quote, quote_byte, Short, Inner, Depth, Spaced, QueryText, put_first, put_laters, put_chars, put_position, put_dots, put_deep}
use Rattle.query.specs.Grammar.{put_segment, put_spaced, is_deep}
use Rattle.query.specs.Steps as S
use Rattle.query.specs.Steps.{Selector}
use Rattle.query.specs.Machine as M
use Rattle.query.specs.Machine.{Control, done, gap, opened, closing, inside, quoted, dead, Rule, blank_rules, pick, step, run, place, start}
use Rattle.query.specs.Read as R
use Rattle.query.specs.Read.{begin, deepen, Reading, good, bad, note, reading}
use Rattle.query.specs.Written.{segment_written}
use Rattle.query.specs.MachineLaws.{miss_only}
use Rattle.query.proofs.Positions.{no_digit}
use Rattle.query.proofs.Spell.{spell, spell_named, spell_bad, done_gap, blank_gap, blank_opened, blank_closing}
use Rattle.query.proofs.Text.{shorthand_append, quote_opens, quote_closes}
use Rattle.query.proofs.Ended.{Ended, clean, cut, ended}
use Rattle.query.proofs.At.{byte_is, written_slice, end_at, stop_at, turn_at, kept_at}
use Rattle.query.specs.Append.{append_chars, append-spaced}
use Rattle.query.proofs.Place.{Tells, well, ill, tells, accepts_text, dead_place}
use Rattle.query_lexer.specs.Scans.{BlankIs, other, Skipped, deeper_byte, ShortName, QuotedName, PositionAt}
use Rattle.query_steps.specs.Reader.{depth_of, selector_at, Bounded, choose, push, BracketClosed, Begun, SegmentAt, PartTaken, PartRead, StepTaken, StepRefused}
use Rattle.query_steps.proofs.Skips.{blanks_far, over_blanks, blanks_behind}

-- what a step takes, before what is read behind it
choose_every : (n b : ℕ) (r : Reading) → Ended r → note R.every n b r ≡ choose S.every r
choose_every n b r (clean l) = refl
choose_every n b r (cut p) = refl

choose_position : (j : ℕ) (r : Reading) → Ended r → note (R.position j) 0 0 r ≡ choose (S.position j) r
choose_position j r (clean l) = refl
choose_position j r (cut p) = refl

choose_name : (w : List ℕ) (r : Reading) → Ended r → spell w r ≡ choose (S.name w) r
choose_name w r (clean l) = spell_named w l
choose_name w r (cut p) = spell_bad w p

-- a step begins, with what it takes
push_plain : (n b : ℕ) (x : Selector) (r : Reading) →
    note begin n b (choose x r) ≡ push (record { place = n; step = record { deep = false; selector = x } }) r
push_plain n b x (good a) = refl
push_plain n b x (bad p) = refl

push_deep : (n b m c : ℕ) (x : Selector) (r : Reading) →
    note begin n b (note deepen m c (choose x r)) ≡ push (record { place = n; step = record { deep = true; selector = x } }) r
push_deep n b m c x (good a) = refl
push_deep n b m c x (bad p) = refl

-- a byte that is no blank is in no rule of blanks
no_blank : {b : ℕ} → BlankIs b false → (c : Control) (rs : List Rule) → pick (blank_rules c rs) b ≡ pick rs b
no_blank {b} (other f) c rs =
    miss_only 0x20 c _ b (f B.space) ∙ miss_only 0x09 c _ b (f B.tab) ∙ miss_only 0x0A c _ b (f B.feed) ∙ miss_only 0x0D c rs b (f B.return)

other_gap : {b : ℕ} → BlankIs b false → (b ≡ 0x2E → ⊥) → (b ≡ 0x5B → ⊥) → step (M.at gap) b ≡ dead
unfolding step pick
other_gap {b} x f g = no_blank x gap M.step_rules ∙ miss_only 0x2E (M.dotted G.plain) (M.only 0x5B opened ∷ []) b f ∙ miss_only 0x5B opened [] b g

other_opened : {b : ℕ} → BlankIs b false → (b ≡ 0x2A → ⊥) → (b ≡ 0x27 → ⊥) → (b ≡ 0x22 → ⊥) → (0x30 ≤ b → b ≤ 0x39 → ⊥) →
    step (M.at opened) b ≡ dead
unfolding step pick
other_opened {b} x f g h k =
    let digits : List Rule = M.digit_rules 0 10 in
    let second : List Rule = M.only 0x22 (inside (quoted G.double)) ∷ digits in
    no_blank x opened M.inner_rules ∙ miss_only 0x2A closing (M.only 0x27 (inside (quoted G.single)) ∷ second) b f ∙
    miss_only 0x27 (inside (quoted G.single)) second b g ∙ miss_only 0x22 (inside (quoted G.double)) digits b h ∙
    no_digit 0 10 b (λ d l m e. k (omega arith) (omega arith))

other_closing : {b : ℕ} → BlankIs b false → (b ≡ 0x5D → ⊥) → step (M.at closing) b ≡ dead
unfolding step pick
other_closing {b} x f = no_blank x closing (M.only 0x5D done ∷ []) ∙ miss_only 0x5D done [] b f

-- the depth of a step that is deep or not
deep_is : (x : Bool) → is_deep (depth_of x) ≡ x
deep_is true = refl
deep_is false = refl

step_is : (x : Bool) {a b : Selector} → a ≡ b → ◌≡◌ {A = S.Step} (record { deep = x; selector = a }) (record { deep = is_deep (depth_of x); selector = b })
step_is x e = ap₂ (λ (d : Bool) (y : Selector). record { deep = d; selector = y }) (sym (deep_is x)) e

-- the closing bracket
module _ {q : List ℕ} {n r : ℕ} (s : Skipped q n r) where
  pub close_end : length q ≤ r → reading closing n (drop n q) ≡ bad r
  close_end h = over_blanks s closing blank_closing refl ∙ end_at closing q r h refl

  pub close_other : r < length q → (get_or q r 0 ≡ 0x5D → ⊥) → reading closing n (drop n q) ≡ bad r
  close_other h g = over_blanks s closing blank_closing refl ∙ stop_at closing q r h (other_closing (s.next h) g)

  pub close_taken : r < length q → get_or q r 0 ≡ 0x5D → BracketClosed q n (r + 1)
  unfolding step
  close_taken h e =
      record {
        on = omega (arith, s.from);
        within = omega arith;
        stand = (s.stand.0, ap (put_blanks s.stand.0) (sym (byte_is q r h e)) ∙ s.stand.1);
        reads = over_blanks s closing blank_closing refl ∙ kept_at closing q r h done (ap (step (M.at closing)) e) refl;
      }

-- what stands between two places stands between places further apart
bounded_wider : {n k m o : ℕ} (t : Taking) → n ≤ k → m ≤ o → Bounded k m t → Bounded n o t
bounded_wider Every l h b = b
bounded_wider (Name x y) l h (a, b, c) = (omega arith, b, omega arith)
bounded_wider (Position j) l h b = b

-- a part of a step, from where its first bytes and the reading were led on
pub part_from : (q : List ℕ) (c k : Control) {n m : ℕ} → n ≤ m →
    ((place : ℕ) (deep : Bool) → Begun q place (depth_of deep) c n → Begun q place (depth_of deep) k m) →
    reading c n (drop n q) ≡ reading k m (drop m q) → (r : Result (Taking × ℕ) Dead) → PartRead q k m r → PartRead q c n r
part_from q c k l b e (Ok (t, o)) p = record {
  bounded = bounded_wider t l (omega arith) p.bounded;
  on = omega (arith, p.on);
  within = p.within;
  stands = λ place deep x. p.stands place deep (b place deep x);
  reads = e ∙ p.reads;
}
part_from q c k l b e (Err d) p = e ∙ p

-- what was read in brackets, and their end
module _ (q : List ℕ) (c : Control) (n k : ℕ) (t : Taking) (said : Reading → Reading) (l : n ≤ k) (b : Bounded n k t)
    (bads : (p : ℕ) → said (bad p) ≡ bad p) (chooses : (r : Reading) → Ended r → said r ≡ choose (selector_at q t) r)
    (stands : (m : ℕ) (w : Blanks) → put_blanks w (0x5D ∷ drop m q) ≡ drop k q → (place : ℕ) (deep : Bool) → Begun q place (depth_of deep) c n →
    SegmentAt q (record { deep = deep; place = place; taking = t }) m)
    (e : reading c n (drop n q) ≡ said (reading closing k (drop k q))) where
  closed_part : {m : ℕ} → BracketClosed q k m → PartTaken q c n t m
  closed_part {m} z = record {
    bounded = bounded_wider t (omega arith) (omega (arith, z.on)) b;
    on = omega (arith, z.on);
    within = z.within;
    stands = stands m z.stand.0 z.stand.1;
    reads = e ∙ ap said z.reads ∙ chooses (reading done m (drop m q)) (ended m (drop m q));
  }

  open_part : {p : ℕ} → reading closing k (drop k q) ≡ bad p → reading c n (drop n q) ≡ bad p
  open_part {p} g = e ∙ ap said g ∙ bads p

-- a quoted name
module _ {q : List ℕ} {quote n r : ℕ} (s : QuotedName q quote n true r) (x : Quote) (z : quote ≡ quote_byte x) where
  name_read : reading (inside (quoted x)) n (drop n q) ≡ spell (slice n r q) (reading closing (r + 1) (drop (r + 1) q))
  name_read =
      let c = s.closed refl in
      s.reads x z ∙
      ap (spell (slice n r q)) (kept_at (inside (quoted x)) q r c.1 closing
      (ap (step (M.at (inside (quoted x)))) (c.2 ∙ z) ∙ quote_closes x) refl)

  quoted_segment : (m : ℕ) (v : Blanks) → put_blanks v (0x5D ∷ drop m q) ≡ drop (r + 1) q → (place : ℕ) (deep : Bool) →
      Begun q place (depth_of deep) (inside (quoted x)) n → SegmentAt q (record { deep = deep; place = place; taking = Name n r }) m
  unfolding put_segment segment_written
  quoted_segment m v f place deep (w, b) =
      let c = s.closed refl in
      let (cs, t) = s.stand refl x z in
      let d : Depth = depth_of deep in
      let end : quote_byte x ∷ put_blanks v (0x5D ∷ drop m q) ≡ drop r q =
      ap (λ (u : List ℕ). quote_byte x ∷ u) f ∙ sym (byte_is q r c.1 (c.2 ∙ z)) in
      record {
        segment = G.bracketed d w (G.quoted x cs) v;
        written = ap (λ (u : List ℕ). put_deep d (0x5B ∷ put_blanks w (quote_byte x ∷ u))) (ap (put_chars cs) end ∙ t) ∙ b;
        step = step_is deep (ap S.name (sym (written_slice q (put_chars cs []) n r c.0 s.within (sym (append_chars cs [] (drop r q)) ∙ t))));
      }

  pub quoted_open : {p : ℕ} → reading closing (r + 1) (drop (r + 1) q) ≡ bad p → reading (inside (quoted x)) n (drop n q) ≡ bad p
  quoted_open {p} g = name_read ∙ ap (spell (slice n r q)) g ∙ spell_bad (slice n r q) p

  pub quoted_taken : {m : ℕ} → BracketClosed q (r + 1) m → PartTaken q (inside (quoted x)) n (Name n r) m
  quoted_taken =
      let c = s.closed refl in
      closed_part q (inside (quoted x)) n (r + 1) (Name n r) (spell (slice n r q)) (omega (arith, c.0)) (omega arith, c.0, omega arith)
      (spell_bad (slice n r q)) (choose_name (slice n r q)) quoted_segment name_read

-- a position
module _ {q : List ℕ} {n r j : ℕ} (s : PositionAt q n r j) where
  position_segment : (m : ℕ) (v : Blanks) → put_blanks v (0x5D ∷ drop m q) ≡ drop r q → (place : ℕ) (deep : Bool) →
      Begun q place (depth_of deep) opened n → SegmentAt q (record { deep = deep; place = place; taking = Position j }) m
  unfolding put_segment segment_written
  position_segment m v f place deep (w, b) =
      let (p, t, e) = s.stands in
      let d : Depth = depth_of deep in
      record {
        segment = G.bracketed d w (Inner.position p (omega (arith, e, s.small))) v;
        written = ap (λ (u : List ℕ). put_deep d (0x5B ∷ put_blanks w u)) (ap (put_position p) f ∙ t) ∙ b;
        step = step_is deep (ap S.position (sym e));
      }

  pub position_taken : {m : ℕ} → BracketClosed q r m → PartTaken q opened n (Position j) m
  position_taken =
      closed_part q opened n r (Position j) (note (R.position j) 0 0) (omega (arith, s.on)) s.small
      (λ p. refl) (choose_position j) position_segment s.reads

  pub position_open : {p : ℕ} → reading closing r (drop r q) ≡ bad p → reading opened n (drop n q) ≡ bad p
  position_open g = s.reads ∙ ap (note (R.position j) 0 0) g

-- in brackets, behind the blanks
module _ {q : List ℕ} {n r : ℕ} (s : Skipped q n r) where
  pub over_opened : (a : Result (Taking × ℕ) Dead) → PartRead q opened r a → PartRead q opened n a
  over_opened =
      part_from q opened opened s.from
      (λ place deep (w, b). (
        w ++ s.stand.0,
        ap (λ (u : List ℕ). put_deep (depth_of deep) (0x5B ∷ u)) (blanks_behind w s.stand.0 (drop r q) ∙ ap (put_blanks w) s.stand.1) ∙ b,
      ))
      (over_blanks s opened blank_opened refl)

  opened_from : reading opened n (drop n q) ≡ reading opened r (drop r q)
  opened_from = over_blanks s opened blank_opened refl

  pub opened_end : length q ≤ r → reading opened n (drop n q) ≡ bad r
  opened_end h = opened_from ∙ end_at opened q r h refl

  module _ (h : r < length q) where
    pub opened_other : (get_or q r 0 ≡ 0x2A → ⊥) → (get_or q r 0 ≡ 0x27 → ⊥) → (get_or q r 0 ≡ 0x22 → ⊥) → (0x30 ≤ get_or q r 0 → get_or q r 0 ≤ 0x39 → ⊥) →
        reading opened n (drop n q) ≡ bad r
    opened_other f g k d = opened_from ∙ stop_at opened q r h (other_opened (s.next h) f g k d)

    module _ (e : get_or q r 0 ≡ 0x2A) where
      every_read : reading opened r (drop r q) ≡ note R.every r (get_or q r 0) (reading closing (r + 1) (drop (r + 1) q))
      unfolding step
      every_read = turn_at opened q r h closing (ap (step (M.at opened)) e)

      every_segment : (m : ℕ) (v : Blanks) → put_blanks v (0x5D ∷ drop m q) ≡ drop (r + 1) q → (place : ℕ) (deep : Bool) →
          Begun q place (depth_of deep) opened r → SegmentAt q (record { deep = deep; place = place; taking = Every }) m
      unfolding put_segment segment_written
      every_segment m v f place deep (w, b) =
          let d : Depth = depth_of deep in
          record {
            segment = G.bracketed d w Inner.star v;
            written = ap (λ (u : List ℕ). put_deep d (0x5B ∷ put_blanks w u)) (ap (λ (u : List ℕ). 0x2A ∷ u) f ∙ sym (byte_is q r h e)) ∙ b;
            step = step_is deep refl;
          }

      pub every_open : {p : ℕ} → reading closing (r + 1) (drop (r + 1) q) ≡ bad p → reading opened n (drop n q) ≡ bad p
      every_open g = opened_from ∙ every_read ∙ ap (note R.every r (get_or q r 0)) g

      pub every_taken : {m : ℕ} → BracketClosed q (r + 1) m → PartTaken q opened n Every m
      every_taken {m} z = over_opened (Ok (Every, m))
          (closed_part q opened r (r + 1) Every (note R.every r (get_or q r 0)) (omega arith) tt
          (λ p. refl) (choose_every r (get_or q r 0)) every_segment every_read z)

    pub opened_quote : (x : Quote) → get_or q r 0 ≡ quote_byte x → (a : Result (Taking × ℕ) Dead) → PartRead q (inside (quoted x)) (r + 1) a →
        PartRead q opened n a
    opened_quote x e a z = over_opened a
        (part_from q opened (inside (quoted x)) (omega arith)
        (λ place deep (w, b). (w, ap (λ (u : List ℕ). put_deep (depth_of deep) (0x5B ∷ put_blanks w u)) (sym (byte_is q r h e)) ∙ b))
        (kept_at opened q r h (inside (quoted x)) (ap (step (M.at opened)) e ∙ quote_opens x) refl) a z)

-- behind `.` or `..`
star_done : (d : Depth) → step (M.at (M.dotted d)) 0x2A ≡ M.at done
unfolding step
star_done d = refl

module _ (q : List ℕ) {n : ℕ} (d : Depth) where
  pub short_end : length q ≤ n → reading (M.dotted d) n (drop n q) ≡ bad n
  short_end h = end_at (M.dotted d) q n h refl

  pub short_every : n < length q → get_or q n 0 ≡ 0x2A → PartTaken q (M.dotted d) n Every (n + 1)
  unfolding put_segment segment_written
  short_every h e =
      record {
        bounded = tt;
        on = omega arith;
        within = omega arith;
        stands = λ place deep (same, b). record {
          segment = G.dotted (depth_of deep) Short.star;
          written = ap (put_dots (depth_of deep)) (sym (byte_is q n h e)) ∙ b;
          step = step_is deep refl;
        };
        reads = turn_at (M.dotted d) q n h done (ap (step (M.at (M.dotted d))) e ∙ star_done d) ∙
            choose_every n (get_or q n 0) (reading done (n + 1) (drop (n + 1) q)) (ended (n + 1) (drop (n + 1) q));
      }

  module _ (f : get_or q n 0 ≡ 0x2A → ⊥) (g : get_or q n 0 ≡ deeper_byte d → ⊥) {r : ℕ} where
    pub short_taken : ShortName q n true r → PartTaken q (M.dotted d) n (Name n r) r
    unfolding put_segment segment_written
    short_taken s =
        let m = s.moved.on refl in
        let (x, cs, t) = s.stands refl in
        record {
          bounded = (omega arith, omega arith, omega arith);
          on = m;
          within = s.moved.within;
          stands = λ place deep (same, b). record {
            segment = G.dotted (depth_of deep) (G.shorthand x cs);
            written = ap (put_dots (depth_of deep)) t ∙ b;
            step = step_is deep (ap S.name (sym (written_slice q (put_first x (put_laters cs [])) n r (omega arith) s.moved.within
                (sym (shorthand_append x cs (drop r q)) ∙ t))));
          };
          reads = s.reads d (record { no_star = f; no_deeper = g }) ∙ choose_name (slice n r q) (reading done r (drop r q)) (ended r (drop r q));
        }

bracket_opens : step (M.at (M.dotted G.deep)) 0x5B ≡ M.at opened
unfolding step
bracket_opens = refl

pub deep_bracket : (q : List ℕ) {n : ℕ} → n < length q → get_or q n 0 ≡ 0x5B → (a : Result (Taking × ℕ) Dead) → PartRead q opened (n + 1) a →
    PartRead q (M.dotted G.deep) n a
unfolding put_dots put_deep put_blanks
deep_bracket q {n} h e = part_from q (M.dotted G.deep) opened (omega arith)
    (λ place deep (same, b). ([], rw same (ap (λ (u : List ℕ). 0x2E ∷ 0x2E ∷ u) (sym (byte_is q n h e)) ∙ rw same at b)))
    (kept_at (M.dotted G.deep) q n h opened (ap (step (M.at (M.dotted G.deep))) e ∙ bracket_opens) refl)

-- what is read from n on is refused
refused_at : (q : List ℕ) (n p : ℕ) → reading done n (drop n q) ≡ bad p → StepRefused q n p
unfolding run place step
refused_at q n p e = go (reading done n (drop n q)) e (tells done n (drop n q))
  where
    go : (r : Reading) → r ≡ bad p → Tells done n (drop n q) r → StepRefused q n p
    go r f (well a t) = let z : ◌≡◌ {A = ℕ} 0 1 = cc in absurd (omega arith)
    go r f (ill k t g) =
        let z : k ≡ p = cc in
        let far : place start (0x24 ∷ drop n q) ≡ suc (p - n) = omega arith in
        record {
          from = omega arith;
          wrong = λ x. subst T (sym (accepts_text (0x24 ∷ drop n q) x) ∙ t) tt;
          dead = subst (DeadPlace QueryText (0x24 ∷ drop n q)) far (dead_place (0x24 ∷ drop n q));
          reads = e;
        }

-- the blanks before a step and its first bytes stand from n up to k, and lead the reading to the control state c
pub record Led (q : List ℕ) (n k : ℕ) (c : Control) (place : ℕ) (deep : Bool) : Type 0 where
  pub skipped : Skipped q n place
  pub on : place ≤ k
  pub begun : Begun q place (depth_of deep) c k
  pub said : Reading → Reading
  pub bads : (p : ℕ) → said (bad p) ≡ bad p
  pub pushes : (x : Selector) (r : Reading) → said (choose x r) ≡ push (record { place = place; step = record { deep = deep; selector = x } }) r
  pub reads : reading done n (drop n q) ≡ said (reading c k (drop k q))

-- the rest of the step, or its dead byte
module _ {q : List ℕ} {n k : ℕ} {c : Control} {place : ℕ} {deep : Bool} (led : Led q n k c place deep) where
  pub step_taken : {t : Taking} {m : ℕ} → PartTaken q c k t m → StepTaken q n (record { deep = deep; place = place; taking = t }) m
  unfolding put_spaced
  step_taken {t} {m} p =
      let s = led.skipped in
      let x : Selector = selector_at q t in
      let (w, u) = s.stand in
      let g = p.stands place deep led.begun in
      let y : Spaced = record { before = w; segment = g.segment } in
      let text : put_spaced y (drop m q) ≡ drop n q = ap (put_blanks w) g.written ∙ u in
      let h : n ≤ m = omega (arith, s.from, led.on, p.on) in
      record {
        spaced = y;
        written = written_slice q (put_spaced y []) n m h p.within (sym (append-spaced y [] (drop m q)) ∙ text);
        place = omega (arith, blanks_far s);
        step = g.step;
        bounded = bounded_wider t (omega (arith, s.from, led.on)) (omega arith) p.bounded;
        on = omega (arith, s.from, led.on, p.on);
        within = p.within;
        reads = led.reads ∙ ap led.said p.reads ∙ led.pushes x (reading done m (drop m q));
      }

  pub step_refused : {p : ℕ} → reading c k (drop k q) ≡ bad p → StepRefused q n p
  step_refused {p} g = refused_at q n p (led.reads ∙ ap led.said g ∙ led.bads p)

module _ {q : List ℕ} {n r : ℕ} (l : n < length q) (s : Skipped q n r) where
  to_gap : reading done n (drop n q) ≡ reading gap r (drop r q)
  to_gap = ap (reading done n) (byte_at_lem q n l) ∙ done_gap n (get_or q n 0) (drop (n + 1) q) ∙ ap (reading gap n) (sym (byte_at_lem q n l)) ∙
      over_blanks s gap blank_gap refl

  pub step_cut : length q ≤ r → StepRefused q n r
  step_cut h = refused_at q n r (to_gap ∙ end_at gap q r h refl)

  module _ (h : r < length q) where
    pub step_other : (get_or q r 0 ≡ 0x5B → ⊥) → (get_or q r 0 ≡ 0x2E → ⊥) → StepRefused q n r
    step_other f g = refused_at q n r (to_gap ∙ stop_at gap q r h (other_gap (s.next h) g f))

    pub bracket_led : get_or q r 0 ≡ 0x5B → Led q n (r + 1) opened r false
    unfolding step put_deep put_blanks
    bracket_led e = record {
      skipped = s;
      on = omega arith;
      begun = ([], sym (byte_is q r h e));
      said = note begin r (get_or q r 0);
      bads = λ p. refl;
      pushes = push_plain r (get_or q r 0);
      reads = to_gap ∙ turn_at gap q r h opened (ap (step (M.at gap)) e);
    }

    module _ (e : get_or q r 0 ≡ 0x2E) where
      pub plain_led : Led q n (r + 1) (M.dotted G.plain) r false
      unfolding step put_dots
      plain_led = record {
        skipped = s;
        on = omega arith;
        begun = (refl, sym (byte_is q r h e));
        said = note begin r (get_or q r 0);
        bads = λ p. refl;
        pushes = push_plain r (get_or q r 0);
        reads = to_gap ∙ turn_at gap q r h (M.dotted G.plain) (ap (step (M.at gap)) e);
      }

      pub deep_led : r + 1 < length q → get_or q (r + 1) 0 ≡ 0x2E → Led q n (r + 2) (M.dotted G.deep) r true
      unfolding step put_dots
      deep_led g f = subst (λ (k : ℕ). Led q n k (M.dotted G.deep) r true) (let two : r + 1 + 1 ≡ r + 2 = omega arith in two) (record {
        skipped = s;
        on = omega arith;
        begun = (refl, sym (byte_is q r h e ∙ ap (λ (u : List ℕ). 0x2E ∷ u) (byte_is q (r + 1) g f)));
        said = λ x. note begin r (get_or q r 0) (note deepen (r + 1) (get_or q (r + 1) 0) x);
        bads = λ p. refl;
        pushes = push_deep r (get_or q r 0) (r + 1) (get_or q (r + 1) 0);
        reads = to_gap ∙ turn_at gap q r h (M.dotted G.plain) (ap (step (M.at gap)) e) ∙ ap (note begin r (get_or q r 0))
            (turn_at (M.dotted G.plain) q (r + 1) g (M.dotted G.deep) (ap (step (M.at (M.dotted G.plain))) f));
      })
