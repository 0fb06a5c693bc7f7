-- A value that is ahead is passed with its tally, or a container is entered: the laws of what is ahead, with the pile around. Assumes nothing.
use Rattle.std.specs.Prelude.{Option, Some, None, is_some}
use mathlib.Core.Path.{◌≡◌, refl, sym, ap, ap₂, subst, ◌∙◌}
use mathlib.Core.List.{List, [], ◌∷◌}
use mathlib.Core.Logic.{inl, inr}
use mathlib.Core.Bool.{Bool, true, false, false≢true}
use Prim.Native.Nat.{ℕ, zero, suc, ◌+◌, ◌-◌, ◌≤◌, ◌<◌}
use native.Mathlib.Nat.{le-max_right}
use native.Mathlib.Omega.{arith}
use lib.Dec.{eqb}
use lib.ListN.{length, get_or, drop}
use Rattle.encoding.specs.Class.{class_of}
use Rattle.json_text.specs.Grammar.{put_value}
use Rattle.json_text.specs.Verdict.{max_depth}
use Rattle.query.specs.Steps.{Step}
use Rattle.select.specs.Ways.{frame_if}
use Rattle.select.specs.Visits.{items_visits}
use Rattle.scan.specs.Places.{head_of}
use Rattle.scan.specs.Shape.{starts}
use Rattle.scan.specs.ShapeLaws.{starts_value}
use Rattle.scan.specs.Scans.{EndsBlanks, EndsScalar}
use Rattle.leap.specs.Brackets.{Leaves}
use Rattle.automaton.specs.State.{next}
use Rattle.automaton.specs.Tally.{Tally, raise_from, raised}
use Rattle.automaton.specs.TallyIs.{tallied_stopped}
use Rattle.automaton.specs.Dead.{items_dead}
use Rattle.automaton.specs.Halves.{begin_from, begin, waiting, finish}
use Rattle.pairs.specs.declared.Counts.{Counts}
use Rattle.pairs.specs.Pairs.{tally, plus_one, tally_of, Begins, Raises}
use Rattle.walk.specs.Ahead.{ItemsAhead}
use Rattle.walk.specs.AheadLaws.{items_inside, no_items, first_item_lem}
use Rattle.walk.specs.ValueLaws.{scalar_passed, container_entered}
use Rattle.pile.specs.declared.Pile.{Pile}
use Rattle.pile.specs.Pile.{kept, Open, kind_at, ValuePassed, ItemDue, ValueDue, ContainerDue}
use Rattle.pile.proofs.PileLaws.{passed_sized, passed_few, passed_kept, level_new}
use Rattle.pile.specs.Moves.{Lost, Idle, Skipped}
use Rattle.pile.specs.Due.{tally_at}
use Rattle.pile.specs.DueLaws.{onward_lost, lost_item}
use Rattle.walk.specs.declared.Coming.{Coming}
use Rattle.pile.specs.declared.Standing.{Standing}
use Rattle.enter.specs.Passes.{PassesContainer}

passed_as : {x : List Step} {s : List ℕ} {whole : Tally} {z : Pile} {i j : ℕ} {t u : Tally} {d f m : ℕ} → j ≡ i → u ≡ t
    → ValuePassed x s whole z i t d f m → ValuePassed x s whole z j u d f m
passed_as e1 e2 p = rw (e1, e2) p

-- a node that is begun after a stop changes nothing
pub idle_begun : {p : Bool} {l : List ℕ} {c : Counts} {i : ℕ} {l' : List ℕ} {c' : Counts} {w : Option ℕ} {m : ℕ} → Begins p l c i l' c' w
    → Idle m c.stop → Idle m c'.stop
unfolding begin begin_from
idle_begun g (inl e) = inl e
idle_begun {p} {l} {c} {i} {c' = c'} g (inr n) = inr (go c.stop c'.stop n (ap (λ (t : Tally). t.stop) g.begun))
  where
    go : (k k' : Option ℕ) → is_some k ≡ true → (begin p (tally l c.used c.peak (plus_one k)) i).stop ≡ plus_one k' → is_some k' ≡ true
    go None k' n e = absurd (false≢true n)
    go (Some s) None n e = absurd (omega arith)
    go (Some s) (Some s') n e = refl

-- frames that are counted after a stop change nothing
pub idle_raised : {c : Counts} {f : ℕ} {c' : Counts} {m : ℕ} → Raises c f c' → Idle m c.stop → Idle m c'.stop
unfolding raised raise_from
idle_raised r (inl e) = inl e
idle_raised {c} {f} {c'} r (inr n) = inr (go c.stop c'.stop n (ap (λ (t : Tally). t.stop) (r.raises [])))
  where
    go : (k k' : Option ℕ) → is_some k ≡ true → (raised f (tally [] c.used c.peak (plus_one k))).stop ≡ plus_one k' → is_some k' ≡ true
    go None k' n e = absurd (false≢true n)
    go (Some s) None n e = absurd (omega arith)
    go (Some s) (Some s') n e = refl

-- what begins a value stands in the record
starts_inside : (s xs : List ℕ) (i : ℕ) → starts xs ≡ true → drop i s ≡ xs → i < length s
unfolding starts
starts_inside s [] i h e = absurd (false≢true h)
starts_inside s (b ∷ xs) i h e = (head_of s i b xs e).inside

pub value_inside : {x : List Step} {s : List ℕ} {whole : Tally} {z : Pile} {i : ℕ} {t : Tally} {m' : ℕ} {p : Bool} {d f m : ℕ}
    → ValueDue x s whole z i t m' p d f m → i < length s
value_inside {s = s} {i = i} v = starts_inside s (put_value v.ahead.v v.rest) i (starts_value v.ahead.v v.rest) v.ahead.here

module _ {x : List Step} {s : List ℕ} {whole : Tally} {z : Pile} {i : ℕ} {l : List ℕ} {c : Counts} {m' : ℕ} {p : Bool} {d f m : ℕ}
    {l' : List ℕ} {c' : Counts} {w : Option ℕ} (v : ValueDue x s whole z i (tally_of l c) m' p d f m) (g : Begins p l c i l' c' w) where
  begun_is : begin v.state.picked (tally_of l c) i ≡ tally_of l' c'
  begun_is = ap (λ (b : Bool). begin b (tally_of l c) i) v.picked_is ∙ g.begun

  waits_is : waiting v.state.picked (tally_of l c) ≡ plus_one w
  waits_is = ap (λ (b : Bool). waiting b (tally_of l c)) v.picked_is ∙ g.waits

  -- a scalar
  pub scalar_due : {e : ℕ} → (class_of (get_or s i 0) ≡ 1 → ⊥) → EndsScalar s i e
      → ValuePassed x s whole z e (finish (plus_one w) e (tally_of l' c')) d f m
  scalar_due {e} n q =
      let y = scalar_passed (next x) s v.rest v.state v.room v.goal v.end i (tally_of l c) v.ahead e n q in
      passed_as y.1 (ap₂ (λ (n : ℕ) (t : Tally). finish n e t) (sym waits_is) (sym begun_is) ∙ y.0) v.after

  -- a container
  pub container_due : class_of (get_or s i 0) ≡ 1 → ContainerDue x s whole z i (tally_of l' c') w m' d f m
  container_due o =
      let y = container_entered (next x) s v.rest v.state v.room v.goal v.end i (tally_of l c) v.ahead o in
      record {
        state = v.state;
        rest = v.rest;
        room = v.room - 1;
        inner = y.inner;
        end = v.end;
        fits = omega (arith, v.fits, y.levels);
        marks_are = v.marks_are;
        frames_are = v.frames_are;
        ahead =
            subst
            (λ (t : Tally).
            ItemsAhead (next x) s v.rest (kind_at (get_or s i 0)) v.state (v.room - 1) y.inner v.end (i + 1) (raised v.state.frames t))
            begun_is y.ahead;
        after = passed_as refl (ap (λ (n : ℕ). finish n v.end y.inner) (sym waits_is) ∙ y.closes) v.after;
      }

-- the frames that a container has are counted then
raised_counted : (f : ℕ) (t : Tally) → (raised f t).stop ≡ 0 → f ≤ (raised f t).peak
unfolding raised raise_from
raised_counted f t e = go t.stop refl e
  where
    go : (k : ℕ) → t.stop ≡ k → (raise_from k f t).stop ≡ 0 → f ≤ (raise_from k f t).peak
    go zero y e = le-max_right t.peak f
    go (suc k) y e = absurd (omega arith)

-- items that change nothing: those of a container without marks, and all after a stop
pub framed_fits : (b : Bool) {f f' : ℕ} → f' ≡ frame_if b f → f < max_depth → f' ≤ max_depth
unfolding frame_if
framed_fits true e h = omega arith
framed_fits false e h = omega arith

-- there is a level and a frame for the container
pub has_level : {x : List Step} {s : List ℕ} {whole : Tally} {z : Pile} {i : ℕ} {t : Tally} {w : Option ℕ} {m' d f m : ℕ}
    → ContainerDue x s whole z i t w m' d f m → d < max_depth
has_level v = omega (arith, v.fits)

pub has_frame : {x : List Step} {s : List ℕ} {whole : Tally} {z : Pile} {i : ℕ} {t : Tally} {w : Option ℕ} {m' d f m : ℕ}
    → ContainerDue x s whole z i t w m' d f m → f < max_depth
has_frame v = omega (arith, v.fits, passed_few v.after)

-- bytes that no tree explains
pub container_lost : {s : List ℕ} {z z' : Pile} {l l' : List ℕ} {v : Coming} {w : Option ℕ} {a r : Standing} → Lost v.at a r → v.at < length s
    → a.frames ≤ max_depth
    → ((x : List Step) (whole : Tally) → ContainerDue x s whole z v.at (tally_at l a) w v.marks a.depth a.frames a.marks → ⊥)
    → PassesContainer s z z' l l' v w a r
container_lost y h g n =
    record { onward = onward_lost y (omega arith) (omega arith) g; passed = λ e. lost_item y; keeps = λ x whole d. absurd (n x whole d) }

module _ {x : List Step} {s : List ℕ} {whole : Tally} {z : Pile} {i : ℕ} {l : List ℕ} {c c' : Counts} {w : Option ℕ} {m' d f m f' : ℕ}
    (v : ContainerDue x s whole z i (tally_of l c) w m' d f m) (g : f' ≡ frame_if (eqb m m') f) (r : Raises c f' c') where
  frames_is : f' ≡ v.state.frames
  frames_is = g ∙ sym v.frames_are

  raised_is : raised v.state.frames (tally_of l c) ≡ tally_of l c'
  raised_is = ap (λ (n : ℕ). raised n (tally_of l c)) (sym frames_is) ∙ r.raises l

  inside : ItemsAhead (next x) s v.rest (kind_at (get_or s i 0)) v.state v.room v.inner v.end (i + 1) (tally_of l c')
  inside =
      subst (λ (t : Tally). ItemsAhead (next x) s v.rest (kind_at (get_or s i 0)) v.state v.room v.inner v.end (i + 1) t)
      raised_is v.ahead

  counted : plus_one c'.stop ≡ 0 → v.state.frames ≤ c'.peak
  counted e =
      subst (λ (t : Tally). t.stop ≡ 0 → v.state.frames ≤ t.peak) raised_is (raised_counted v.state.frames (tally_of l c)) e

  -- no node below it changes the tally
  unchanged : Idle m' c'.stop → v.inner ≡ tally_of l c'
  unchanged (inl e) =
      sym inside.runs ∙ items_dead x inside.is v.state (i + 1) (tally_of l c') (v.marks_are ∙ e) counted
  unchanged (inr e) = go c'.stop refl
    where
      go : (k : Option ℕ) → c'.stop ≡ k → v.inner ≡ tally_of l c'
      go None y = absurd (false≢true (ap is_some (sym y) ∙ e))
      go (Some n) y = sym inside.runs ∙ tallied_stopped (tally_of l c') (items_visits (next x) inside.is v.state (i + 1)) n (ap plus_one y)

  -- it is passed without a look inside
  pub skipped_due : {e : ℕ} {b : Bool} → Skipped m' c'.stop b → b ≡ true → Leaves s (i + 1) e
      → ValuePassed x s whole z e (finish (plus_one w) e (tally_of l c')) d f m
  skipped_due {e} y c q =
      let a : e ≡ v.end = q.exact _ inside.is v.rest inside.here ∙ sym inside.ends in
      passed_as a (ap₂ (λ (n : ℕ) (t : Tally). finish (plus_one w) n t) a (sym (unchanged (y.only c)))) v.after

  module _ {b : ℕ} (blanks : EndsBlanks s (i + 1) b) where
    -- something follows the opening bracket
    pub more_bytes : b < length s
    more_bytes =
        items_inside (next x) s v.rest (kind_at (get_or s i 0)) v.state v.room v.inner v.end (i + 1) b (tally_of l c')
        inside blanks

    -- it has no items
    pub empty_due : class_of (get_or s b 0) ≡ 2 → ValuePassed x s whole z (b + 1) (finish (plus_one w) (b + 1) (tally_of l c')) d f m
    empty_due e =
        let y =
        no_items (next x) s v.rest (kind_at (get_or s i 0)) v.state v.room v.inner v.end (i + 1) b (tally_of l c')
        inside blanks e in
        passed_as (sym y.1) (ap₂ (λ (n : ℕ) (t : Tally). finish (plus_one w) n t) (sym y.1) y.0) v.after

    -- it is entered
    pub items_due : (class_of (get_or s b 0) ≡ 2 → ⊥) → ItemDue x s whole (kept z f d m w (get_or s i 0)) b (tally_of l c') (d + 1) f' m'
    items_due e =
        let o : Open =
        record {
          bracket = get_or s i 0;
          count = 0;
          state = v.state;
          wait = w;
          rest = v.rest;
          room = v.room;
          inner = v.inner;
          end = v.end;
          depth = d;
          frames = f;
          marks = m;
        } in
        record {
          o = o;
          level = level_new z o f' m' (passed_sized v.after) refl (passed_few v.after) v.fits frames_is (sym v.marks_are) g;
          ahead =
              first_item_lem (next x) s v.rest (kind_at (get_or s i 0)) v.state v.room v.inner v.end (i + 1) b (tally_of l c')
              inside blanks e;
          after = passed_kept f d m w (get_or s i 0) (omega arith) (omega arith) v.after;
        }
