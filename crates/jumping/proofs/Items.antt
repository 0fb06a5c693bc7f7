-- From an item to its value, and on from a value: the innermost container's next item, or the container around it. Assumes nothing.
use Rattle.std.specs.Prelude.{Option}
use mathlib.Core.Path.{◌≡◌, refl, sym, ap, ap₂, subst, ◌∙◌}
use mathlib.Core.List.{List}
use mathlib.Core.Bool.{Bool}
use Prim.Native.Nat.{ℕ, ◌+◌, ◌-◌, ◌%◌, ◌^◌, ◌≤◌, ◌<◌}
use native.Mathlib.Nat.{mod-eq_of_lt}
use native.Mathlib.Omega.{arith}
use lib.Dec.{eqb}
use lib.ListN.{length, get_or, set, drop}
use Rattle.json_text.specs.Grammar.{put_key, put_value, put_more}
use Rattle.json_text.specs.Verdict.{max_bytes}
use Rattle.query_parser.specs.Holds.{Holds}
use Rattle.query.specs.Steps.{Step}
use Rattle.query_parser.specs.declared.compiled.Kinds.{Kinds}
use Rattle.select.specs.Nodes.{size, label_of}
use Rattle.select.specs.Visits.{visits}
use Rattle.select.specs.Ways.{frame_if}
use Rattle.scan.specs.Places.{same_place, past_blanks, past_key}
use Rattle.scan.specs.Scans.{EndsBlanks}
use Rattle.automaton.specs.State.{next_marks, next_picked, next}
use Rattle.automaton.specs.Tally.{Tally, tallied}
use Rattle.automaton.specs.Halves.{finish}
use Rattle.pairs.specs.Pairs.{plus_one}
use Rattle.walk.specs.Ahead.{value_at}
use Rattle.walk.specs.AheadLaws as A
use Rattle.walk.specs.Enters.{EntersChild}
use Rattle.walk.specs.declared.Coming.{Coming}
use Rattle.pile.specs.declared.Pile.{Pile}
use Rattle.pile.specs.Pile.{container_at, counted, kind_at, ValuePassed, root, item, ItemDue, ValueDue}
use Rattle.pile.proofs.PileLaws.{passed_sized, passed_counted, at_position, level_counted, popped}
use Rattle.pile.specs.Moves.{Pops, CountsOn, Leaves}
use Rattle.pile.specs.Due.{tally_at}
use Rattle.pile.specs.declared.Standing.{Standing}

-- an item is ahead, whose value r is
module _ {names : List ℕ} {kinds : Kinds} {ops : List ℕ} {x : List Step} (holds : Holds names x kinds ops) {s : List ℕ} {whole : Tally} {z : Pile}
    {i : ℕ} {t : Tally} {d f m : ℕ} {b : Bool} {j : ℕ} {r : Coming} (due : ItemDue x s whole z i t d f m)
    (object : b ≡ eqb (container_at z (d - 1)).bracket 0x7B) (index : j ≡ (container_at z (d - 1)).count)
    (enters : EntersChild names kinds ops s i b j m r) where
  top_is : d - 1 ≡ due.o.depth
  top_is = omega (arith, due.level.depth)

  object_is : b ≡ eqb due.o.bracket 0x7B
  object_is =
      object ∙ ap (λ (n : ℕ). eqb (container_at z n).bracket 0x7B) top_is ∙ ap (λ (n : ℕ). eqb n 0x7B) due.level.bracket

  index_is : j ≡ due.o.count
  index_is = index ∙ ap (λ (n : ℕ). (container_at z n).count) top_is ∙ due.level.count

  pub item_due : ValueDue x s whole z r.at t r.marks r.picked d f m
  unfolding next
  item_due =
      let o = due.o in
      let y = due.ahead in
      let k = kind_at o.bracket in
      let at = A.item_value (next x) s o.rest k o.state o.room o.inner o.end i o.count t y in
      let here = A.value_here (next x) s o.rest k o.state o.room o.inner o.end i o.count t y in
      let rest = put_more y.m o.rest in
      let l = label_of k y.key o.count in
      let g = (rw (object_is, index_is) at enters).exact y.w y.key (put_value y.v rest) y.here
      (A.key_solid (next x) s o.rest k o.state o.room o.inner o.end i o.count t y) in
      let moves = g.1 in
      let goal : Tally = tallied t (visits (next x) y.v (next x o.state l) r.at) in
      let marks : r.marks ≡ next_marks x o.state.marks l = moves.marks_are x holds ∙ ap (λ (n : ℕ). next_marks x n l) due.level.marks in
      let picked : r.picked ≡ next_picked x o.state.marks l = moves.picked_is x holds ∙ ap (λ (n : ℕ). next_picked x n l) due.level.marks in
      let u = put_value y.v rest in
      let place : r.at ≡ at =
      g.0
      ∙ same_place s at (value_at k i y.w y.key) (A.value_inside (next x) s o.rest k o.state o.room o.inner o.end i o.count t y)
      (here ∙ sym (past_key s (i + length y.w) k y.key u (past_blanks s i y.w (put_key k y.key u) y.here))) in
      record {
        state = next x o.state l;
        rest = rest;
        room = o.room;
        goal = goal;
        end = r.at + size y.v;
        fits = due.level.fits;
        marks_are = sym marks;
        picked_is = sym picked;
        frames_are =
            ap (λ (n : ℕ). frame_if (eqb o.state.marks n) o.state.frames) (sym marks)
            ∙ ap₂ (λ (n j : ℕ). frame_if (eqb n r.marks) j) (sym due.level.marks) (sym due.level.frames);
        ahead =
            record {
              v = y.v;
              here = ap (λ (n : ℕ). drop n s) place ∙ here;
              stops = A.value_stopped (next x) s o.rest k o.state o.room o.inner o.end i o.count t y;
              shallow = y.shallow;
              runs = refl;
              ends = refl;
            };
        after =
            item o due.level
            (A.item_passed (next x) s o.rest k o.state o.room o.inner o.end i o.count t y (r.at + size y.v) goal
            (ap (λ (n : ℕ). n + size y.v) place)
            (ap (λ (n : ℕ). tallied t (visits (next x) y.v (next x o.state l) n)) (sym place)))
            due.after;
      }

-- after a value in a container
module _ {x : List Step} {s : List ℕ} {whole : Tally} {z : Pile} {i : ℕ} {t : Tally} {d f m c : ℕ}
    (inner : d ≡ 0 → ⊥) (blanks : EndsBlanks s i c) where
  -- something follows
  pub past_inside : ValuePassed x s whole z i t d f m → c < length s
  past_inside (root h e1 e2 e3) = absurd (inner e1)
  past_inside (item o l a p) = A.more_inside (next x) s o.rest (kind_at o.bracket) o.state o.room o.inner o.end i (o.count + 1) c t a blanks

  -- a comma, and then an item, with which the container has one more
  pub past_comma : {z' : Pile} → i ≤ max_bytes → get_or s c 0 ≡ 0x2C → CountsOn z (d - 1) z' → ValuePassed x s whole z i t d f m
      → ItemDue x s whole z' (c + 1) t d f m
  past_comma h e y (root k e1 e2 e3) = absurd (inner e1)
  past_comma {z'} h e y (item o l a p) =
      let n : d - 1 ≡ o.depth = omega (arith, l.depth) in
      let j : (container_at z (d - 1)).count ≡ o.count = ap (λ (k : ℕ). (container_at z k).count) n ∙ l.count in
      let one : ((container_at z (d - 1)).count + 1) % 2 ^ 32 ≡ o.count + 1 =
      ap (λ (k : ℕ). (k + 1) % 2 ^ 32) j ∙ mod-eq_of_lt (omega (arith, a.behind)) in
      let now : z' ≡ counted z o.depth (o.count + 1) = y.is ∙ ap₂ (λ (k w : ℕ). counted z k w) n one in
      rw now
      (record {
        o = at_position o (o.count + 1);
        level = level_counted (o.count + 1) (passed_sized p) l;
        ahead = A.next_item_lem (next x) s o.rest (kind_at o.bracket) o.state o.room o.inner o.end i (o.count + 1) c t a blanks e;
        after = passed_counted o.depth (o.count + 1) p;
      })

  -- the closing bracket: the container is left
  pub past_closed : {f' m' : ℕ} → (get_or s c 0 ≡ 0x2C → ⊥) → Pops z f (d - 1) m f' m' → ValuePassed x s whole z i t d f m
      → ValuePassed x s whole z (c + 1) (finish (plus_one (container_at z (d - 1)).wait) (c + 1) t) (d - 1) f' m'
  past_closed e y (root h e1 e2 e3) = absurd (inner e1)
  past_closed {f'} {m'} e y (item o l a p) =
      let n = A.no_more (next x) s o.rest (kind_at o.bracket) o.state o.room o.inner o.end i (o.count + 1) c t a blanks e in
      let k : d - 1 ≡ o.depth = omega (arith, l.depth) in
      let w : (container_at z (d - 1)).wait ≡ o.wait = ap (λ (j : ℕ). (container_at z j).wait) k ∙ l.wait in
      let g = popped l p (subst (λ (j : ℕ). Pops z f j m f' m') k y) in
      rw (w, k, g.0, g.1, n.0, ← n.1) p

-- where a container is left, all but its depth, its frames and its marks is as it was
module _ {z : Pile} {a r : Standing} (y : Leaves z a r) where
  pub left_depth : r.depth ≡ a.depth - 1
  left_depth = ap (λ (n : Standing). n.depth) y.is

  pub left_due : (list : List ℕ) (w : Option ℕ) {x : List Step} {s : List ℕ} {whole : Tally} {e : ℕ}
      → ValuePassed x s whole z e (finish (plus_one w) e (tally_at list a)) (a.depth - 1) r.frames r.marks
      → ValuePassed x s whole z e (finish (plus_one w) e (tally_at list r)) r.depth r.frames r.marks
  left_due list w p = rw (left_depth, ap (λ (n : Standing). tally_at list n) y.is) p
