-- What the writer of a path answers, way by way, is what it answers by computing: the verdict on the record decides first; of a record that is
-- taken the descent finds the node and leaves its trail in the slots; and what the links are measured and written as is so of the trail's
-- path. Assumes nothing.
use Rattle.std.specs.Prelude.{Option, Some, None}
use mathlib.Core.Path.{◌≡◌, refl, sym, ap, ◌∙◌}
use mathlib.Core.List.{List, []}
use mathlib.Core.Option.{none, some}
use Prim.Native.Nat.{ℕ, zero, suc, ◌≤◌, ◌<◌}
use native.Mathlib.Nat.{zero-add}
use native.Mathlib.Omega.{arith}
use borrow.Author.Tests.{le-leb, lt-leb}
use lib.ListN.{length}
use Rattle.encoding.specs.Verdict as verdict
use Rattle.encoding.specs.Verdict.{Verdict, taken}
use Rattle.encoding.specs.Refusals.{refused}
use Rattle.encoding.specs.RefusalLaws.{some_ground}
use Rattle.encoding.specs.declared.refusals.Refusal.{Refusal}
use Rattle.json_text.specs.Grammar.{Tree}
use Rattle.json_text.specs.Verdict.{record_verdict}
use Rattle.select.specs.Visits.{nodes}
use Rattle.answers.specs.Finder.{end_among, end_at, end_in, offset_verdict, find_verdict}
use Rattle.answers.specs.Lister.{or_else}
use Rattle.answers.proofs.ListerIs.{refuses_first}
use Rattle.answers.specs.Within.{RecordIs}
use Rattle.answers.specs.WithinLaws.{record_is_taken, record_tree, taken_record}
use Rattle.text.specs.Put.{put, Room, Written}
use Rattle.paths.specs.Answer.{trail_among, trail_at, trail_in, path_of, first_half, half_verdict, room_verdict, trail_verdict, path_verdict}
use Rattle.paths.specs.Answer.{path_if, path_written, WritesPath}
use Rattle.paths.specs.Trails.{trails_of}
use Rattle.seek.specs.declared.keeper.KeptLink.{KeptLink}
use Rattle.trace.specs.Traces.{TracesFrom}
use Rattle.path.specs.Answered.{RefusedBy}
use Rattle.path.specs.HeldLaws.{held_text, held_half, held_within}
use Rattle.path.specs.Measured.{path_from, PathSized, PathRefused}
use Rattle.path.specs.Reached.{Reaches}
use Rattle.path.specs.Slots.{slots_half, SlotsWithin}

-- the record is taken
pub answered_record : {s : List ℕ} → taken ≡ record_verdict s → (t : Tree) × RecordIs s t
answered_record {s} h = taken_record s (ap (λ (v : Verdict). v.ground) (sym h))

module _ (s : List ℕ) (o : ℕ) where
  -- a record that is taken
  module _ {t : Tree} (ht : RecordIs s t) where
    find_verdict_lem : find_verdict s o ≡ offset_verdict (end_among (nodes t) o) o
    unfolding find_verdict or_else end_in end_at
    find_verdict_lem = rw (record_is_taken ht, record_tree ht)

    trail_in_lem : trail_in s o ≡ trail_among (trails_of t) o
    unfolding trail_in trail_at
    trail_in_lem = rw (record_tree ht)

    module _ {slots : List KeptLink} where
      finds_none : TracesFrom s o slots None → find_verdict s o ≡ verdict.refused 8 o
      unfolding offset_verdict
      finds_none tr = find_verdict_lem ∙ rw (← tr.finds.exact t ht.written ht.levels) refl

      finds_one : {e : ℕ} → TracesFrom s o slots (Some e) → find_verdict s o ≡ taken
      unfolding offset_verdict
      finds_one tr = find_verdict_lem ∙ rw (← tr.finds.exact t ht.written ht.levels) refl

      pub reaches : {e : ℕ} → TracesFrom s o slots (Some e) → Reaches s o slots
      reaches tr =
          let (u, among, holds) = tr.trail_is t ht.written ht.levels in
          record {
            found = finds_one tr;
            trail = u;
            there = trail_in_lem ∙ among;
            holds = holds;
          }

  -- a node that is found
  module _ {ks : List KeptLink} (r : Reaches s o ks) where
    text_is : path_from s ks ≡ path_of r.trail
    text_is = held_text r.holds

    half_is : slots_half s ks ≡ first_half r.trail
    half_is = held_half r.holds

    pub reached_within : SlotsWithin s ks
    reached_within = held_within r.holds

  -- the answers, where b is the buffer before
  module _ (b : List ℕ) where
    -- a refusal leaves the buffer as it was
    refuses : {v : Verdict} → path_verdict s o (length b) ≡ v → 0 < v.ground → RefusedBy s o b b v
    unfolding path_written path_if
    refuses {v} e h =
        let w : path_written s o (length b) ≡ [] = rw e (go v.ground h) in
        record {
          ground_is = ap (λ (u : Verdict). u.ground) (sym e);
          place_is = ap (λ (u : Verdict). u.place) (sym e);
          size_is = rw w;
          buffer_is = rw w;
        }
      where
        go : (g : ℕ) → 0 < g → path_if g (trail_in s o) ≡ []
        go zero h = absurd (omega arith)
        go (suc g) h = refl

    -- where the value finder refuses
    finder_refuses : {v : Verdict} → find_verdict s o ≡ v → 0 < v.ground → RefusedBy s o b b v
    unfolding path_verdict
    finder_refuses {v} e h = refuses (rw e (refuses_first v (trail_verdict (trail_in s o) o (length b)) h)) h

    -- grounds 4 to 6
    pub writes_refused : (e : Refusal) → refused e ≡ record_verdict s → RefusedBy s o b b (refused e)
    unfolding find_verdict
    writes_refused e h =
        let l : 0 < (refused e).ground = omega (arith, some_ground e.ground) in
        finder_refuses (rw (← h) (refuses_first (refused e) (offset_verdict (end_in s o) o) l)) l

    -- ground 8
    pub writes_none : {t : Tree} → RecordIs s t → {slots : List KeptLink} → TracesFrom s o slots None → RefusedBy s o b b (verdict.refused 8 o)
    writes_none ht tr = finder_refuses (finds_none ht tr) (omega arith)

    module _ {ks : List KeptLink} (r : Reaches s o ks) where
      path_verdict_lem :
          path_verdict s o (length b) ≡ or_else (half_verdict (slots_half s ks)) (room_verdict (length (path_from s ks)) (length b) o)
      unfolding path_verdict or_else trail_verdict
      path_verdict_lem = rw (r.found, r.there, half_is r, ap length (text_is r))

      -- ground 9
      pub writes_half : {e : Refusal} → PathRefused s ks e → RefusedBy s o b b (refused e)
      unfolding half_verdict or_else
      writes_half m = rw m.is (refuses (path_verdict_lem ∙ rw m.half_at) (omega arith))

      module _ {size : ℕ} (m : PathSized s ks size) where
        room_verdict_lem : path_verdict s o (length b) ≡ room_verdict size (length b) o
        unfolding half_verdict or_else
        room_verdict_lem = path_verdict_lem ∙ rw (m.whole, m.sized)

        -- ground 10
        pub writes_too_long : length b < size → RefusedBy s o b b (verdict.refused 10 o)
        unfolding room_verdict
        writes_too_long h = refuses (room_verdict_lem ∙ rw (lt-leb size (length b) h, room_verdict)) (omega arith)

        -- no ground
        module _ (h : size ≤ length b) where
          is_taken : path_verdict s o (length b) ≡ taken
          unfolding room_verdict
          is_taken = room_verdict_lem ∙ rw (le-leb size (length b) h, room_verdict)

          is_path : path_written s o (length b) ≡ path_from s ks
          unfolding path_written path_if
          is_path = rw (is_taken, r.there) (sym (text_is r))

          pub path_fits : Room (path_from s ks) 0 b
          path_fits = record { fits = omega (arith, m.sized) }

          pub writes_all : {a : List ℕ} {n : ℕ} → Written (path_from s ks) 0 b a n → WritesPath s o b a 0 0 n
          unfolding put
          writes_all {a} {n} w =
              let all : n ≡ length (path_from s ks) = w.end_is ∙ zero-add (length (path_from s ks)) in
              record {
                ground_is = ap (λ (v : Verdict). v.ground) (sym is_taken);
                place_is = ap (λ (v : Verdict). v.place) (sym is_taken);
                size_is = all ∙ ap length (sym is_path);
                buffer_is = w.after_is ∙ rw (is_path, all, zero-add (length (path_from s ks)));
              }
