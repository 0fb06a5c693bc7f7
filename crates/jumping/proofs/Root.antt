-- The walk from the root: what is ahead at first, what each turn keeps, and what has come of it when the root is passed. Assumes nothing.
use Rattle.std.specs.Prelude.{None}
use mathlib.Core.Path.{◌≡◌, refl, sym, ap, ◌∙◌}
use mathlib.Core.List.{List, []}
use mathlib.Core.Bool.{Bool, true, false, true≢false}
use Prim.Native.Nat.{ℕ, ◌+◌, ◌≤◌, ◌<◌}
use native.Mathlib.Omega.{arith}
use lib.Dec.{eqb}
use lib.ListN.{length, drop}
use borrow.Author.Tests.{eq-eqb}
use Rattle.bits.specs.Truth.{refuted}
use Rattle.encoding.specs.Bytes.{put_blanks}
use Rattle.json_text.specs.Grammar.{Tree, text, nesting, put_value}
use Rattle.json_text.specs.Verdict.{max_depth}
use Rattle.query_parser.specs.Holds.{Holds}
use Rattle.query.specs.Steps.{Step}
use Rattle.query_parser.specs.declared.compiled.Kinds.{Kinds}
use Rattle.select.specs.Nodes.{size}
use Rattle.select.specs.Nodes as N
use Rattle.select.specs.Visits.{visits, node_visits}
use Rattle.select.specs.Ways.{frame_if}
use Rattle.scan.specs.Places.{past_blanks}
use Rattle.scan.specs.Scans.{EndsBlanks}
use Rattle.scan.specs.ShapeLaws.{solid_value, stopped_end}
use Rattle.automaton.specs.Start.{start_none, start_some}
use Rattle.automaton.specs.State.{State, next, start}
use Rattle.automaton.specs.Tally.{Tally, tallied, fresh}
use Rattle.walk.specs.Walks.{Walks}
use Rattle.pile.specs.declared.Pile.{Pile}
use Rattle.pile.specs.Pile.{Sized, ValuePassed, root, item, ValueDue}
use Rattle.pile.specs.Due.{tally_at, Due, Onward}
use Rattle.pile.specs.declared.Standing.{Standing}
use Rattle.jumping.specs.Turns.{RootMarks, BeforeRoot, turns_left, Turns}

-- the marks of the root

pub roots_none : {n : ℕ} → n ≡ 0 → RootMarks n 0
roots_none e = record { are = λ x h. ap (λ (y : State). y.marks) (sym (start_none x (sym h ∙ e))) }

pub roots_some : {n : ℕ} → (n ≡ 0 → ⊥) → RootMarks n 1
roots_some f = record { are = λ x h. ap (λ (y : State). y.marks) (sym (start_some x (λ e. f (h ∙ e)))) }

same_frame : (m f : ℕ) → f ≡ frame_if (eqb m m) f
unfolding frame_if
same_frame m f = ap (λ (b : Bool). frame_if b f) (sym (eq-eqb m m refl))

-- before the root
root_due : {x : List Step} {s : List ℕ} (t : Tree) {i m : ℕ} (z : Pile) (list : List ℕ) → Sized z → EndsBlanks s 0 i → m ≡ (start x).marks
    → text t ≡ s → nesting t.value ≤ max_depth
    → ValueDue x s (tallied (fresh list) (node_visits (next x) (N.root t) (start x))) z i (fresh list) m (eqb (length x) 0) 0 0 m
unfolding text N.root node_visits start
root_due {x} {s} t {i} {m} z list h b e f n =
    let rest = put_blanks t.after [] in
    let place : i ≡ 0 + length t.before = b.exact t.before (put_value t.value rest) (sym f) (solid_value t.value rest) in
    let at : i ≡ length t.before = omega arith in
    record {
      state = start x;
      rest = rest;
      room = max_depth;
      goal = tallied (fresh list) (node_visits (next x) (N.root t) (start x));
      end = i + size t.value;
      fits = omega arith;
      marks_are = sym e;
      picked_is = refl;
      frames_are = same_frame m 0;
      ahead =
          record {
            v = t.value;
            here = ap (λ (n : ℕ). drop n s) place ∙ past_blanks s 0 t.before (put_value t.value rest) (sym f);
            stops = stopped_end t.after;
            shallow = n;
            runs = ap (λ (n : ℕ). tallied (fresh list) (visits (next x) t.value (start x) n)) at;
            ends = refl;
          };
      after = root h refl refl refl;
    }

pub starts : {s : List ℕ} {n i m : ℕ} → EndsBlanks s 0 i → RootMarks n m
    → BeforeRoot s n (record { at = i; depth = 0; frames = 0; counts = record { used = 0; peak = 0; stop = None }; marks = m; item = true })
unfolding fresh
starts b r =
    record {
      within = b.within;
      item_is = refl;
      depth_is = refl;
      frames_are = refl;
      due = λ x h t f n z k list.
          record {
            root = λ e g. root_due t z list k b (r.are x h) f n;
            item = λ e g. absurd (g refl);
            passed = λ e. absurd (true≢false e);
          };
    }

pub root_comes : {names : List ℕ} {kinds : Kinds} {ops : List ℕ} {x : List Step} {s list : List ℕ} {whole : Tally} {z : Pile} {a : Standing}
    → Holds names x kinds ops → Due x s whole z list a → a.item ≡ true → a.depth ≡ 0
    → ValueDue x s whole z a.at (tally_at list a) a.marks (eqb kinds.count 0) a.depth a.frames a.marks
root_comes h d e f = rw h.count (d.root e f)

-- fewer turns are left

pub onward_from : {n i j : ℕ} {r : Standing} → i ≤ j → Onward n j r → Onward n i r
onward_from h y =
    record {
      onward = omega (arith, y.onward);
      farther = λ e. omega (arith, y.farther e);
      within = y.within;
      inside = y.inside;
      in_container = y.in_container;
      room = y.room;
      few = y.few;
    }

module _ {n : ℕ} {r : Standing} (a : Standing) (h : a.at ≤ n) (y : Onward n a.at r) where
  pub fewer_item : a.item ≡ true → turns_left n r.at r.item < turns_left n a.at a.item
  fewer_item e = rw e (go r.item y.farther)
    where
      go : (b : Bool) → (b ≡ true → a.at < r.at) → turns_left n r.at b < turns_left n a.at true
      go true f = omega (arith, f refl, y.within)
      go false f = omega (arith, y.onward, y.within)

  pub fewer_past : a.item ≡ false → a.at < r.at → turns_left n r.at r.item < turns_left n a.at a.item
  fewer_past e f = rw e (go r.item)
    where
      go : (b : Bool) → turns_left n r.at b < turns_left n a.at false
      go true = omega (arith, y.within)
      go false = omega (arith, y.within)

-- what was ahead where the turns began still is
pub record Running (names : List ℕ) (kinds : Kinds) (ops s : List ℕ) (z₀ : Pile) (list₀ : List ℕ) (a₀ : Standing) (z : Pile) (list : List ℕ)
    (a : Standing) : Type 0 where
  pub size_is : length list ≡ length list₀
  pub inside : a.at ≤ length s
  pub in_container : a.item ≡ false → a.depth ≡ 0 → ⊥
  pub room : a.depth ≤ max_depth
  pub few : a.frames ≤ max_depth
  pub keeps : (x : List Step) → Holds names x kinds ops → (whole : Tally) → Due x s whole z₀ list₀ a₀ → Due x s whole z list a

-- nothing is ahead once the root is passed
passed_whole : {x : List Step} {s : List ℕ} {whole : Tally} {z : Pile} {i : ℕ} {t : Tally} {d f m : ℕ}
    → d ≡ 0 → ValuePassed x s whole z i t d f m → t ≡ whole
passed_whole e (root h e1 e2 e3) = e3
passed_whole e (item o l a p) = absurd (omega (arith, l.depth))

pub running_starts : {names : List ℕ} {kinds : Kinds} {ops s list : List ℕ} {z : Pile} {n : ℕ} {a : Standing} → BeforeRoot s n a
    → Running names kinds ops s z list a z list a
running_starts y =
    record {
      size_is = refl;
      inside = y.within;
      in_container = λ e. absurd (true≢false (sym y.item_is ∙ e));
      room = omega (arith, y.depth_is);
      few = omega (arith, y.frames_are);
      keeps = λ x h whole d. d;
    }

module _ {names : List ℕ} {kinds : Kinds} {ops s : List ℕ} {z₀ z z' : Pile} {list₀ list list' : List ℕ} {a₀ a r : Standing}
    (before : Running names kinds ops s z₀ list₀ a₀ z list a) (turn : Turns names kinds ops s z z' list list' a r) where
  pub running_on : length list' ≡ length list → (r.depth ≡ 0 → ⊥) → Running names kinds ops s z₀ list₀ a₀ z' list' r
  running_on e n =
      record {
        size_is = e ∙ before.size_is;
        inside = turn.inside n;
        in_container = λ f g. n g;
        room = turn.room;
        few = turn.few;
        keeps = λ x h whole d. turn.keeps x h whole (before.keeps x h whole d);
      }

  -- the root has been passed
  pub walk_ends : BeforeRoot s kinds.count a₀ → Sized z₀ → r.depth ≡ 0 → Walks names kinds ops s list₀ list' r.counts
  walk_ends y h e =
      record {
        counts = λ x held t f n.
            let whole = tallied (fresh list₀) (node_visits (next x) (N.root t) (start x)) in
            let d = turn.keeps x held whole (before.keeps x held whole (y.due x held.count t f n z₀ h list₀)) in
            sym (passed_whole e (d.passed (refuted r.item (λ g. turn.in_container g e))));
      }
