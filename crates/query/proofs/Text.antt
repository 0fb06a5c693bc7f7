-- What is read of a query's text: the steps of its tree as they are written, each at its place. Assumes nothing.
use Rattle.std.specs.Prelude.{◌≡◌, refl, List, [], ◌∷◌, ◌++◌, Bool, ℕ, suc, ◌+◌, length}
use Rattle.std.proofs.Common.{ap, ◌∙◌, arith}
use Rattle.encoding.specs.Bytes as B
use Rattle.encoding.specs.Bytes.{Blanks, put_blanks}
use Rattle.encoding.specs.BytesLaws.{size, length_blanks}
use Rattle.query.specs.Grammar as G
use Rattle.query.specs.Grammar.{First, Later, Quote, quote_byte, Short, Inner, Depth, Segment, Query}
use Rattle.query.specs.Grammar.{put_first, put_laters, put_chars, put_short, put_inner, put_dots, put_deep, put_segment, put_spaced, put_query}
use Rattle.query.specs.Grammar.{put_position, position_of, text, is_deep}
use Rattle.query.specs.Steps.{Selector}
use Rattle.query.specs.Written.{short_written, inner_written, segment_written}
use Rattle.query.specs.Machine as M
use Rattle.query.specs.Machine.{short, quoted, root, done, gap, opened, closing, in_position, inside, at, step}
use Rattle.query.specs.Read as R
use Rattle.query.specs.Read.{begin, deepen, Placed, taking, named, Reading, good, note, reading}
use Rattle.query.proofs.Spell.{turn, moved, kept, alike, done_gap, spell, spell_named, Spells, spells_append, spells_first}
use Rattle.query.proofs.Spell.{spells_laters, spells_chars, reads_blanks, blank_gap, blank_opened, blank_closing}
use Rattle.query.proofs.Positions.{reads_behind, reads_position}
use Rattle.query.specs.Append.{append-first, append_laters, append_chars, append-inner, append_dots, append-deep}

-- steps with this one before them
abbrev pub before : ℕ → Bool → Selector → List Placed → List Placed
before n d x l = record { place = n; step = record { deep = d; selector = x } } ∷ l

reads_dots : (d : Depth) (n : ℕ) (u : List ℕ) (x : Selector) (l : List Placed) →
    reading (M.dotted d) (n + length (put_dots d [])) u ≡ good (taking x l) →
    reading gap n (put_dots d u) ≡ good (named [] (before n (is_deep d) x l))
unfolding put_dots step
reads_dots G.plain n u x l e =
    turn gap (M.dotted G.plain) n 0x2E u refl ∙ ap (note begin n 0x2E) (moved (M.dotted G.plain) (suc n) (n + 1) u (omega arith) ∙ e)
reads_dots G.deep n u x l e =
    turn gap (M.dotted G.plain) n 0x2E (0x2E ∷ u) refl ∙
    ap (note begin n 0x2E) (turn (M.dotted G.plain) (M.dotted G.deep) (suc n) 0x2E u refl ∙
    ap (note deepen (suc n) 0x2E) (moved (M.dotted G.deep) (suc (suc n)) (n + 2) u (omega arith) ∙ e))

reads_bracket : (d : Depth) (n : ℕ) (u : List ℕ) (x : Selector) (l : List Placed) →
    reading opened (n + length (put_deep d (0x5B ∷ []))) u ≡ good (taking x l) →
    reading gap n (put_deep d (0x5B ∷ u)) ≡ good (named [] (before n (is_deep d) x l))
unfolding put_deep step
reads_bracket G.plain n u x l e =
    turn gap opened n 0x5B u refl ∙ ap (note begin n 0x5B) (moved opened (suc n) (n + 1) u (omega arith) ∙ e)
reads_bracket G.deep n u x l e =
    turn gap (M.dotted G.plain) n 0x2E (0x2E ∷ 0x5B ∷ u) refl ∙
    ap (note begin n 0x2E) (turn (M.dotted G.plain) (M.dotted G.deep) (suc n) 0x2E (0x5B ∷ u) refl ∙
    ap (note deepen (suc n) 0x2E) (kept (M.dotted G.deep) opened (suc (suc n)) 0x5B u refl refl ∙
    moved opened (suc (suc (suc n))) (n + 3) u (omega arith) ∙ e))

-- where a shorthand name ends

over_blanks : (w : Blanks) (g : Segment) (n : ℕ) (u : List ℕ) →
    reading (inside short) n (put_blanks w (put_segment g u)) ≡ reading done n (put_blanks w (put_segment g u))
unfolding put_blanks put_segment step
over_blanks [] (G.dotted G.plain x) n u = alike (inside short) done refl refl refl n _ _ refl
over_blanks [] (G.dotted G.deep x) n u = alike (inside short) done refl refl refl n _ _ refl
over_blanks [] (G.bracketed G.plain w i w') n u = alike (inside short) done refl refl refl n _ _ refl
over_blanks [] (G.bracketed G.deep w i w') n u = alike (inside short) done refl refl refl n _ _ refl
over_blanks (B.space ∷ w) g n u = alike (inside short) done refl refl refl n _ _ refl
over_blanks (B.tab ∷ w) g n u = alike (inside short) done refl refl refl n _ _ refl
over_blanks (B.feed ∷ w) g n u = alike (inside short) done refl refl refl n _ _ refl
over_blanks (B.return ∷ w) g n u = alike (inside short) done refl refl refl n _ _ refl

over : (t : Query) (n : ℕ) → reading (inside short) n (put_query t []) ≡ reading done n (put_query t [])
unfolding put_query put_spaced reading
over [] n = refl
over (x ∷ t) n = over_blanks x.before x.segment n (put_query t [])

-- what a step takes

pub spells_shorthand : (d : Depth) (x : First) (cs : List Later) → Spells (M.dotted d) (put_first x (put_laters cs [])) (inside short)
spells_shorthand d x cs =
    rw (append-first x [] (put_laters cs []))
    (spells_append (M.dotted d) (inside short) (inside short) (put_first x []) (put_laters cs []) (spells_first (M.dotted d) _ refl refl x)
    (spells_laters cs))

pub shorthand_append : (x : First) (cs : List Later) (u : List ℕ) → put_first x (put_laters cs u) ≡ put_first x (put_laters cs []) ++ u
shorthand_append x cs u = ap (put_first x) (append_laters cs [] u) ∙ append-first x (put_laters cs []) u

reads_short : (d : Depth) (x : Short) (n : ℕ) (t : Query) (l : List Placed) →
    reading done (n + length (put_short x [])) (put_query t []) ≡ good (named [] l) →
    reading (M.dotted d) n (put_short x (put_query t [])) ≡ good (taking (short_written x) l)
unfolding put_short short_written step
reads_short d Short.star n t l e =
    turn (M.dotted d) done n 0x2A (put_query t []) refl ∙ ap (note R.every n 0x2A) (moved done (suc n) (n + 1) (put_query t []) (omega arith) ∙ e)
reads_short d (G.shorthand x cs) n t l e =
    ap (reading (M.dotted d) n) (shorthand_append x cs (put_query t [])) ∙ spells_shorthand d x cs n (put_query t []) ∙
    ap (spell (put_first x (put_laters cs []))) (over t (n + length (put_first x (put_laters cs []))) ∙ e) ∙
    spell_named (put_first x (put_laters cs [])) l

pub quote_opens : (q : Quote) → step (at opened) (quote_byte q) ≡ at (inside (quoted q))
unfolding step
quote_opens G.single = refl
quote_opens G.double = refl

pub quote_closes : (q : Quote) → step (at (inside (quoted q))) (quote_byte q) ≡ at closing
unfolding step
quote_closes G.single = refl
quote_closes G.double = refl

-- behind a position stands no digit
behind_position : (v : ℕ) (w : Blanks) (n : ℕ) (u : List ℕ) →
    reading (in_position v) n (put_blanks w (0x5D ∷ u)) ≡ note (R.position v) 0 0 (reading closing n (put_blanks w (0x5D ∷ u)))
unfolding put_blanks
behind_position v [] n u = reads_behind v n 0x5D u (λ p l h m. omega arith)
behind_position v (B.space ∷ w) n u = reads_behind v n 0x20 _ (λ p l h m. omega arith)
behind_position v (B.tab ∷ w) n u = reads_behind v n 0x09 _ (λ p l h m. omega arith)
behind_position v (B.feed ∷ w) n u = reads_behind v n 0x0A _ (λ p l h m. omega arith)
behind_position v (B.return ∷ w) n u = reads_behind v n 0x0D _ (λ p l h m. omega arith)

reads_inner : (i : Inner) (n : ℕ) (w : Blanks) (u : List ℕ) (l : List Placed) →
    reading closing (n + length (put_inner i [])) (put_blanks w (0x5D ∷ u)) ≡ good (named [] l) →
    reading opened n (put_inner i (put_blanks w (0x5D ∷ u))) ≡ good (taking (inner_written i) l)
unfolding put_inner inner_written step
reads_inner Inner.star n w u l e =
    turn opened closing n 0x2A (put_blanks w (0x5D ∷ u)) refl ∙ ap (note R.every n 0x2A) (moved closing (suc n) (n + 1) _ (omega arith) ∙ e)
reads_inner (G.quoted q cs) n w u l e =
    let x : List ℕ = put_blanks w (0x5D ∷ u) in
    kept opened (inside (quoted q)) n (quote_byte q) _ (quote_opens q) refl ∙
    ap (reading (inside (quoted q)) (suc n)) (append_chars cs [] (quote_byte q ∷ x)) ∙
    spells_chars q cs (suc n) (quote_byte q ∷ x) ∙
    ap (spell (put_chars cs []))
    (kept (inside (quoted q)) closing _ (quote_byte q) x (quote_closes q) refl ∙
    moved closing _ (n + length (quote_byte q ∷ put_chars cs (quote_byte q ∷ []))) x
    (omega (arith, size (put_chars cs) (append_chars cs) (quote_byte q ∷ []))) ∙ e) ∙
    spell_named (put_chars cs []) l
reads_inner (G.position p small) n w u l e =
    reads_position p n (put_blanks w (0x5D ∷ u)) small ∙ behind_position (position_of p) w (n + length (put_position p [])) u ∙
    ap (note (R.position (position_of p)) 0 0) e

reads_closing : (w : Blanks) (n : ℕ) (u : List ℕ) (r : Reading) → reading done (n + length (put_blanks w (0x5D ∷ []))) u ≡ r →
    reading closing n (put_blanks w (0x5D ∷ u)) ≡ r
unfolding step
reads_closing w n u r e =
    reads_blanks closing blank_closing refl w n (0x5D ∷ u) ∙ kept closing done (n + length w) 0x5D u refl refl ∙
    moved done (suc (n + length w)) (n + length (put_blanks w (0x5D ∷ []))) u (omega (arith, length_blanks w (0x5D ∷ []))) ∙ e

reads_segment : (g : Segment) (n : ℕ) (t : Query) (l : List Placed) →
    reading done (n + length (put_segment g [])) (put_query t []) ≡ good (named [] l) →
    reading gap n (put_segment g (put_query t [])) ≡ good (named [] (record { place = n; step = segment_written g } ∷ l))
unfolding put_segment segment_written
reads_segment (G.dotted d x) n t l e =
    reads_dots d n _ (short_written x) l
    (reads_short d x (n + length (put_dots d [])) t l
    (moved done _ (n + length (put_dots d (put_short x []))) _ (omega (arith, size (put_dots d) (append_dots d) (put_short x []))) ∙ e))
reads_segment (G.bracketed d w i w') n t l e =
    let k : ℕ = n + length (put_deep d (0x5B ∷ [])) in
    let inner : List ℕ = put_inner i (put_blanks w' (0x5D ∷ [])) in
    let sum : k + length w + length (put_inner i []) + length (put_blanks w' (0x5D ∷ [])) ≡ n + length (put_deep d (0x5B ∷ put_blanks w inner)) =
    omega (
      arith,
      size (put_deep d) (append-deep d) (0x5B ∷ []),
      size (put_deep d) (append-deep d) (0x5B ∷ put_blanks w inner),
      length_blanks w inner,
      size (put_inner i) (append-inner i) (put_blanks w' (0x5D ∷ [])),
    ) in
    reads_bracket d n _ (inner_written i) l
    (reads_blanks opened blank_opened refl w k _ ∙
    reads_inner i (k + length w) w' (put_query t []) l
    (reads_closing w' (k + length w + length (put_inner i [])) (put_query t []) _ (moved done _ _ (put_query t []) sum ∙ e)))

-- the steps of a query whose first byte after the `$` stands at n, as they are written, each at its place
unfoldable pub placed : ℕ → Query → List Placed
unfolding segment_written
placed n [] = []
placed n (x ∷ t) = record { place = n + length x.before; step = segment_written x.segment } ∷ placed (n + length (put_spaced x [])) t

reads_begin : (w : Blanks) (g : Segment) (n : ℕ) (u : List ℕ) →
    reading done n (put_blanks w (put_segment g u)) ≡ reading gap n (put_blanks w (put_segment g u))
unfolding put_blanks put_segment put_dots put_deep
reads_begin [] (G.dotted G.plain x) n u = done_gap n _ _
reads_begin [] (G.dotted G.deep x) n u = done_gap n _ _
reads_begin [] (G.bracketed G.plain w i w') n u = done_gap n _ _
reads_begin [] (G.bracketed G.deep w i w') n u = done_gap n _ _
reads_begin (b ∷ w) g n u = done_gap n _ _

reads_query : (t : Query) (n : ℕ) → reading done n (put_query t []) ≡ good (named [] (placed n t))
unfolding put_query put_spaced placed reading
reads_query [] n = refl
reads_query (x ∷ t) n =
    let w : Blanks = x.before in
    reads_begin w x.segment n (put_query t []) ∙ reads_blanks gap blank_gap refl w n _ ∙
    reads_segment x.segment (n + length w) t _
    (moved done _ (n + length (put_spaced x [])) (put_query t []) (omega (arith, length_blanks w (put_segment x.segment []))) ∙
    reads_query t (n + length (put_spaced x [])))

-- what is read of a text is its tree's steps, as they are written
pub reads_text : (t : Query) → reading root 0 (text t) ≡ good (named [] (placed 1 t))
unfolding text step
reads_text t = kept root done 0 0x24 (put_query t []) refl refl ∙ reads_query t 1
