-- The steps of the plain walk, each in terms of what its parts promise: a value is a scalar or a container, and a container's items come
-- one after the other, each with the tally and the place at which the one before it ended. Assumes nothing.
use Rattle.std.specs.Prelude.{Option}
use mathlib.Core.Path.{◌≡◌, refl, sym, ap, ap₂, ◌∙◌}
use mathlib.Core.List.{List, [], ◌∷◌}
use mathlib.Core.Bool.{Bool, true, false, false≢true}
use Prim.Native.Nat.{ℕ, ◌+◌, ◌-◌, ◌≤◌, ◌<◌}
use native.Mathlib.Omega.{arith}
use lib.Dec.{eqb}
use lib.ListN.{length, drop, get_or, length-drop}
use Rattle.encoding.specs.Bytes.{put_blanks}
use Rattle.encoding.specs.Class.{class_of}
use Rattle.json_text.specs.Grammar.{Kind, put_key, put_value, put_more, text}
use Rattle.json_text.specs.Verdict.{max_depth}
use Rattle.query_parser.specs.Holds.{Holds}
use Rattle.query.specs.Steps.{Step}
use Rattle.query_parser.specs.declared.compiled.Kinds.{Kinds}
use Rattle.select.specs.Nodes.{Label, size, root, label_of}
use Rattle.select.specs.Visits.{visits, node_visits}
use Rattle.select.specs.Ways.{frame_if}
use Rattle.scan.specs.Places.{same_place, past_blanks, past_key}
use Rattle.scan.specs.Scans.{EndsBlanks, EndsScalar, kind_if}
use Rattle.scan.specs.Shape.{starts}
use Rattle.scan.specs.ShapeLaws.{solid_value, starts_value, stopped_end}
use Rattle.automaton.specs.Start.{start_none, start_some}
use Rattle.automaton.specs.State.{State, next, start}
use Rattle.automaton.specs.Tally.{Tally, raised, tallied, fresh}
use Rattle.automaton.specs.Halves.{end_pair, finish, waiting, begin}
use Rattle.pairs.specs.declared.Counts.{Counts}
use Rattle.pairs.specs.Pairs.{tally, tally_of, plus_one, Begins, Raises}
use Rattle.walk.specs.Ahead.{value_at, ItemAhead, MoreAhead, ItemsAhead, ValueAhead}
use Rattle.walk.specs.AheadLaws.{items_inside, no_items, first_item_lem, item_value, value_here, value_inside as item_inside}
use Rattle.walk.specs.AheadLaws.{value_stopped, key_solid, item_passed, more_inside, no_more, next_item_lem}
use Rattle.walk.specs.Enters as W
use Rattle.walk.specs.declared.Coming.{Coming}
use Rattle.walk.specs.ValueLaws.{scalar_passed, container_entered}
use Rattle.walk.specs.Walks.{Walks}
use Rattle.plain.specs.Plain.{RootState, EntersChild, WalksValue, WalksItems}

-- a state by its three parts
abbrev state : ℕ → Bool → ℕ → State
state m p k = record { marks = m; picked = p; frames = k }

-- the root

pub starts_none : (n : ℕ) → n ≡ 0 → RootState n (state 0 true 0)
starts_none n e = record { no_frames = refl; starts = λ x h. sym (start_none x (h ∙ e)) }

pub starts_some : (n : ℕ) → (n ≡ 0 → ⊥) → RootState n (state 1 false 0)
starts_some n f = record { no_frames = refl; starts = λ x h. sym (start_some x (λ e. f (sym h ∙ e))) }

-- an item's value

frame_more : (b : Bool) (k : ℕ) → frame_if b k ≤ k + 1
unfolding frame_if
frame_more true k = omega arith
frame_more false k = omega arith

pub enters_child : {names : List ℕ} {kinds : Kinds} {ops s : List ℕ} {a : ℕ} {o : Bool} {j : ℕ} {st : State} {r : Coming} {k : ℕ}
    → W.EntersChild names kinds ops s a o j st.marks r → k ≡ frame_if (eqb st.marks r.marks) st.frames
    → EntersChild names kinds ops s a o j st r.at (state r.marks r.picked k)
unfolding next
enters_child {st = st} {r = r} child framed =
    record {
      onward = child.onward;
      within = child.within;
      one_more = omega (arith, frame_more (eqb st.marks r.marks) st.frames);
      exact = λ z h w key rest d f.
          let e = child.exact w key rest d f in (e.0, rw (framed, ← e.1.marks_are z h, ← e.1.picked_is z h));
    }

-- a value that is ahead has a first byte
value_inside : {next' : State → Label → State} {s rest : List ℕ} {st : State} {n : ℕ} {goal t : Tally} {end a : ℕ}
    → ValueAhead next' s rest st n goal end a t → length s ≤ a → ⊥
unfolding starts
value_inside {s = s} {rest = rest} {a = a} v l = go (drop a s) refl
  where
    go : (u : List ℕ) → drop a s ≡ u → ⊥
    go [] e = false≢true (ap starts (sym e ∙ v.here) ∙ starts_value v.v rest)
    go (b ∷ u) e = omega (arith, length-drop a s, ap length e)

-- the place of an item's value, after blanks and its key
item_value_is : (next' : State → Label → State) (s rest : List ℕ) (k : Kind) (st : State) (n : ℕ) (goal : Tally) (end i j : ℕ) (t : Tally)
    (x : ItemAhead next' s rest k st n goal end i j t)
    → value_at k i x.w x.key ≡ item_value next' s rest k st n goal end i j t x
item_value_is next' s rest k st n goal end i j t x =
    let u : List ℕ = put_value x.v (put_more x.m rest) in
    same_place s (item_value next' s rest k st n goal end i j t x) (value_at k i x.w x.key) (item_inside next' s rest k st n goal end i j t x)
    (value_here next' s rest k st n goal end i j t x
    ∙ sym (past_key s (i + length x.w) k x.key u (past_blanks s i x.w (put_key k x.key u) x.here)))

-- the end goes into the pair that waits
ended : {w wait : ℕ} (e : ℕ) (l : List ℕ) (c : Counts) {l' : List ℕ} → w ≡ wait → l' ≡ end_pair wait e l → tally_of l' c ≡ finish w e (tally_of l c)
unfolding finish
ended e l c x y = ap (λ (z : List ℕ). tally_of z c) (y ∙ ap (λ (k : ℕ). end_pair k e l) (sym x))

-- a query's names, kinds and ops, a record s, and a value at a, with the state st and n levels that may be opened
module _ {names : List ℕ} {kinds : Kinds} {ops s : List ℕ} {a n : ℕ} {st : State} where
  pub value_past : {t : Tally} → a ≤ length s → length s ≤ a → WalksValue names kinds ops s a n st t t a
  value_past h l = record { onward = omega arith; within = h; exact = λ x f rest goal end v. absurd (value_inside v l) }

  pub value_too_deep : {t t' : Tally} → a ≤ length s → class_of (get_or s a 0) ≡ 1 → n ≡ 0 → WalksValue names kinds ops s a n st t t' a
  value_too_deep {t} h f z =
      record {
        onward = omega arith;
        within = h;
        exact = λ x g rest goal end v. absurd (omega (arith, (container_entered (next x) s rest st n goal end a t v f).levels));
      }

  module _ {list list' : List ℕ} {c c' : Counts} {wait : Option ℕ} (begun : Begins st.picked list c a list' c' wait) where
    pub value_scalar : {last : List ℕ} {e : ℕ} → (class_of (get_or s a 0) ≡ 1 → ⊥) → EndsScalar s a e → last ≡ end_pair (plus_one wait) e list'
        → WalksValue names kinds ops s a n st (tally_of list c) (tally_of last c') e
    value_scalar {e = e} f h d =
        let t : Tally = tally_of list c in
        record {
          onward = h.onward;
          within = h.within;
          exact = λ x g rest goal end v.
              let y = scalar_passed (next x) s rest st n goal end a t v e f h in
              (ended e list' c' begun.waits d ∙ ap (finish (waiting st.picked t) e) (sym begun.begun) ∙ y.0, y.1);
        }

    pub value_container : {raise : Counts} (below : Counts) {list'' last : List ℕ} {e : ℕ} → class_of (get_or s a 0) ≡ 1 → Raises c' st.frames raise
        → WalksItems names kinds ops s (a + 1) (n - 1) (eqb (get_or s a 0) 0x7B) st (tally_of list' raise) (tally_of list'' below) e
        → last ≡ end_pair (plus_one wait) e list''
        → WalksValue names kinds ops s a n st (tally_of list c) (tally_of last below) e
    value_container {raise} below {list''} {e = e} f r h d =
        let t : Tally = tally_of list c in
        record {
          onward = omega (arith, h.onward);
          within = h.within;
          exact = λ x g rest goal end v.
              let y = container_entered (next x) s rest st n goal end a t v f in
              let z : raised st.frames (begin st.picked t a) ≡ tally_of list' raise = ap (raised st.frames) begun.begun ∙ r.raises list' in
              let i = h.exact x g rest y.inner end (rw z at y.ahead) in
              let finished = ap₂ (λ (b : ℕ) (w : Tally). finish (waiting st.picked t) b w) i.1 i.0 in
              (ended e list'' below begun.waits d ∙ finished ∙ y.closes, i.1);
        }

-- a query's names, kinds and ops, a record s, and the items of a container from a on, with its state st and n levels that may be opened
module _ (names : List ℕ) (kinds : Kinds) (ops s : List ℕ) (a n : ℕ) (o : Bool) (st : State) (t : Tally) where
  -- what was ahead at a with the tally t is ahead at i with the tally u: the item at position j
  pub record AtItem (i j : ℕ) (u : Tally) : Type 0 where
    pub onward : a ≤ i
    pub within : i ≤ length s
    pub behind : j ≤ i
    pub exact : (x : List Step) → Holds names x kinds ops → (rest : List ℕ) (goal : Tally) (end : ℕ)
        → ItemsAhead (next x) s rest (kind_if o) st n goal end a t
        → ItemAhead (next x) s rest (kind_if o) st n goal end i j u

  -- an item has been passed; the next one's position is j
  pub record AtMore (i j : ℕ) (u : Tally) : Type 0 where
    pub onward : a ≤ i
    pub within : i ≤ length s
    pub behind : j ≤ i + 1
    pub exact : (x : List Step) → Holds names x kinds ops → (rest : List ℕ) (goal : Tally) (end : ℕ)
        → ItemsAhead (next x) s rest (kind_if o) st n goal end a t
        → MoreAhead (next x) s rest (kind_if o) st n goal end i j u

module _ {names : List ℕ} {kinds : Kinds} {ops s : List ℕ} {a n : ℕ} {o : Bool} {st : State} {t : Tally} where
  pub items_cut : {i : ℕ} → EndsBlanks s a i → length s ≤ i → WalksItems names kinds ops s a n o st t t i
  items_cut {i} b l =
      record {
        onward = b.onward;
        within = b.within;
        exact = λ x f rest goal end v. absurd (omega (arith, items_inside (next x) s rest (kind_if o) st n goal end a i t v b));
      }

  pub items_none : {i : ℕ} → EndsBlanks s a i → i < length s → class_of (get_or s i 0) ≡ 2 → WalksItems names kinds ops s a n o st t t (i + 1)
  items_none {i} b l e =
      record {
        onward = omega (arith, b.onward);
        within = omega arith;
        exact = λ x f rest goal end v. let y = no_items (next x) s rest (kind_if o) st n goal end a i t v b e in (y.0, sym y.1);
      }

  pub items_begin : {i : ℕ} → EndsBlanks s a i → (class_of (get_or s i 0) ≡ 2 → ⊥) → AtItem names kinds ops s a n o st t i 0 t
  items_begin {i} b f =
      record {
        onward = b.onward;
        within = b.within;
        behind = omega arith;
        exact = λ x h rest goal end v. first_item_lem (next x) s rest (kind_if o) st n goal end a i t v b f;
      }

  -- an item's value is entered and walked
  pub item_walked : {i j v e : ℕ} {st' : State} {u u' : Tally} → AtItem names kinds ops s a n o st t i j u
      → EntersChild names kinds ops s i o j st v st' → WalksValue names kinds ops s v n st' u u' e → AtMore names kinds ops s a n o st t e (j + 1) u'
  item_walked {i} {j} {v} {e} {st'} {u} {u'} p h w =
      record {
        onward = omega (arith, p.onward, h.onward, w.onward);
        within = w.within;
        behind = omega (arith, p.behind, h.onward, w.onward);
        exact = λ x f rest goal end z.
            let y = p.exact x f rest goal end z in
            let k = kind_if o in
            let r = put_more y.m rest in
            let b = h.exact x f y.w y.key (put_value y.v r) y.here (key_solid (next x) s rest k st n goal end i j u y) in
            let at = item_value (next x) s rest k st n goal end i j u y in
            let here : v ≡ at = b.0 ∙ item_value_is (next x) s rest k st n goal end i j u y in
            let sum : Tally = tallied u (visits (next x) y.v (next x st (label_of k y.key j)) at) in
            let g = w.exact x f r sum (at + size y.v)
            (record {
              v = y.v;
              here = ap (λ (d : ℕ). drop d s) here ∙ value_here (next x) s rest k st n goal end i j u y;
              stops = value_stopped (next x) s rest k st n goal end i j u y;
              shallow = y.shallow;
              runs = ap₂ (λ (d : State) (l : ℕ). tallied u (visits (next x) y.v d l)) b.1 here;
              ends = ap (λ (d : ℕ). d + size y.v) (sym here);
            })
            in
            item_passed (next x) s rest k st n goal end i j u y e u' g.1 (sym g.0);
      }

  pub more_cut : {i j e : ℕ} {u : Tally} → AtMore names kinds ops s a n o st t i j u → EndsBlanks s i e → length s ≤ e
      → WalksItems names kinds ops s a n o st t u e
  more_cut {i} {j} {e} {u} p b l =
      record {
        onward = omega (arith, p.onward, b.onward);
        within = b.within;
        exact = λ x f rest goal end v.
            absurd (omega (arith, more_inside (next x) s rest (kind_if o) st n goal end i j e u (p.exact x f rest goal end v) b));
      }

  pub more_none : {i j e : ℕ} {u : Tally} → AtMore names kinds ops s a n o st t i j u → EndsBlanks s i e → e < length s → (get_or s e 0 ≡ 0x2C → ⊥)
      → WalksItems names kinds ops s a n o st t u (e + 1)
  more_none {i} {j} {e} {u} p b l f =
      record {
        onward = omega (arith, p.onward, b.onward);
        within = omega arith;
        exact = λ x h rest goal end v.
            let y = no_more (next x) s rest (kind_if o) st n goal end i j e u (p.exact x h rest goal end v) b f in (y.0, sym y.1);
      }

  pub more_again : {i j e : ℕ} {u : Tally} → AtMore names kinds ops s a n o st t i j u → EndsBlanks s i e → e < length s → get_or s e 0 ≡ 0x2C
      → AtItem names kinds ops s a n o st t (e + 1) j u
  more_again {i} {j} {e} {u} p b l f =
      record {
        onward = omega (arith, p.onward, b.onward);
        within = omega arith;
        behind = omega (arith, p.behind, b.onward);
        exact = λ x h rest goal end v. next_item_lem (next x) s rest (kind_if o) st n goal end i j e u (p.exact x h rest goal end v) b f;
      }

-- the root stands after the blanks before it, with the state that a walk starts with
pub walks_root : {names : List ℕ} {kinds : Kinds} {ops s list after : List ℕ} {a e : ℕ} {c : Counts} {st : State} → EndsBlanks s 0 a
    → RootState kinds.count st → WalksValue names kinds ops s a max_depth st (tally list 0 0 0) (tally_of after c) e
    → Walks names kinds ops s list after c
unfolding text root node_visits fresh
walks_root {s = s} {list = list} {a = a} b r w =
    record {
      counts = λ x h t f l.
          let rest = put_blanks t.after [] in
          let blanks = b.exact t.before (put_value t.value rest) (sym f) (solid_value t.value rest) in
          let at : a ≡ length t.before = omega arith in
          let goal = tallied (fresh list) (node_visits (next x) (root t) (start x)) in
          sym
          (w.exact x h rest goal (a + size t.value)
          (record {
            v = t.value;
            here = ap (λ (d : ℕ). drop d s) blanks ∙ past_blanks s 0 t.before (put_value t.value rest) (sym f);
            stops = stopped_end t.after;
            shallow = l;
            runs = ap₂ (λ (d : State) (i : ℕ). tallied (fresh list) (visits (next x) t.value d i)) (r.starts x (sym h.count)) at;
            ends = refl;
          })
          ).0;
    }
