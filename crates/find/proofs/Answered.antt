-- What the finder answers, way by way, is what it answers by computing: the verdict on the record decides first, and of a record that is
-- taken the descent finds the end among its nodes. The value stands inside the record. Assumes nothing.
use mathlib.Core.Path.{◌≡◌, refl, sym, ap, subst}
use mathlib.Core.List.{List, []}
use mathlib.Core.Option as maybe
use Prim.Native.Nat.{ℕ, ◌-◌, ◌≤◌}
use native.Mathlib.Nat.{pos_of_ne-zero}
use native.Mathlib.Omega.{arith}
use lib.ListN.{length, take, drop}
use Rattle.std.specs.Prelude.{Option, Some, None, Err, ok_or}
use Rattle.encoding.specs.Verdict.{Verdict, taken}
use Rattle.encoding.specs.Refusals.{refused}
use Rattle.encoding.specs.RefusalLaws.{some_ground}
use Rattle.encoding.specs.declared.refusals.Refusal.{Refusal}
use Rattle.encoding.specs.declared.refusals.Ground.TheVariants.{NoValue}
use Rattle.json_text.specs.Append.{length-text}
use Rattle.json_text.specs.Grammar.{Tree}
use Rattle.json_text.specs.Verdict.{record_verdict}
use Rattle.json_text.proofs.Says.{record_says}
use Rattle.select.specs.Nodes.{IsNode, size, root}
use Rattle.select.specs.Nodes as N
use Rattle.select.specs.Order.{first_before_end, below_within}
use Rattle.select.specs.Visits.{nodes}
use Rattle.answers.specs.Lister.{or_else}
use Rattle.answers.specs.Finder.{end_among, end_at, end_in, offset_verdict, find_verdict, or_zero, end_if, find_end, Finds, value_part, start_if, part_start}
use Rattle.answers.proofs.FinderIs.{finder_says_only, finds_say, reader_part, reader_says_only}
use Rattle.answers.specs.FinderSays.{FinderSays, record_refused, no_value, found, nothing}
use Rattle.answers.specs.Within.{RecordIs}
use Rattle.answers.specs.WithinLaws.{record_is_taken, record_tree, taken_record}
use Rattle.find.specs.Found.{FindsEnd}
use Rattle.seek.specs.Seeks.{FindsFrom}

-- the record is taken
pub answered_record : {s : List ℕ} → taken ≡ record_verdict s → (t : Tree) × RecordIs s t
answered_record {s} h = taken_record s (sym (ap (λ (v : Verdict). v.ground) h))

module _ (s : List ℕ) (o : ℕ) where
  -- the record is refused
  pub finds_refused : (r : Refusal) → refused r ≡ record_verdict s → FindsEnd s o (Err r)
  finds_refused r h =
      subst (λ (v : Verdict). Finds s o v.ground v.place 0) (sym h)
      (finder_says_only s o (record_refused (record_verdict s) (record_says s) (rw (← h) (pos_of_ne-zero (some_ground r.ground)))))

  -- the record is taken
  module _ {t : Tree} (ht : RecordIs s t) where
    end_in_lem : end_in s o ≡ end_among (nodes t) o
    unfolding end_in end_at
    end_in_lem = ap (λ (x : maybe.Option Tree). end_at x o) (record_tree ht)

    -- by the end among the nodes
    finds_among : (x : maybe.Option ℕ) → x ≡ end_among (nodes t) o
        → Finds s o (offset_verdict x o).ground (offset_verdict x o).place (end_if (offset_verdict x o).ground x)
    unfolding find_verdict find_end or_else
    finds_among x e =
        let q : find_verdict s o ≡ offset_verdict x o = rw (record_is_taken ht, end_in_lem, ← e) refl in
        record {
          ground_is = ap (λ (v : Verdict). v.ground) (sym q);
          place_is = ap (λ (v : Verdict). v.place) (sym q);
          end_is = rw (q, end_in_lem, ← e) refl;
        }

    pub finds_end : (x : Option ℕ) → FindsFrom s o x → FindsEnd s o (ok_or x (record { ground = NoValue; place = o }))
    unfolding offset_verdict end_if or_zero
    finds_end None h = finds_among maybe.none (h.exact t ht.written ht.levels)
    finds_end (Some e) h = finds_among (maybe.some e) (h.exact t ht.written ht.levels)

  module _ {g p e : ℕ} (h : Finds s o g p e) where
    -- a value that was found stands inside the record
    pub found_inside : g ≡ 0 → (o ≤ e) × (e ≤ length s)
    unfolding IsNode N.end_of size root
    found_inside z = go (finds_say s o h) z
      where
        go : {g p e : ℕ} → FinderSays s o g p e → g ≡ 0 → (o ≤ e) × (e ≤ length s)
        go (record_refused v x l) z = absurd (omega arith)
        go (no_value t ht f) z = absurd (omega arith)
        go (found t ht n b f) z = (
          omega (arith, b.first, first_before_end n),
          omega (arith, (below_within b.node).1, length-text t, ap length ht.written),
        )

    pub part_read : take (e - o) (drop o s) ≡ value_part s o
    part_read = sym (reader_part s o (finds_say s o h))

    -- where the finder refuses the part is empty and begins at the record's first byte
    pub part_empty : (g ≡ 0 → ⊥) → (0 ≡ part_start s o) × ([] ≡ value_part s o)
    part_empty f = reader_says_only s o (nothing (finds_say s o h) (omega (arith, f)))

    -- else it begins at the offset
    pub part_there : g ≡ 0 → part_start s o ≡ o
    unfolding part_start start_if
    part_there z = rw (← h.ground_is, z) refl
