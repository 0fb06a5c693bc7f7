-- What the value finder answers and the value reader returns (document 01, "Grounds for refusing").
use Rattle.std.specs.Prelude.{◌≡◌, List, [], ◌∷◌, true, false, ℕ, zero, suc, ◌+◌, ◌-◌, eqb, take, drop}
use Rattle.std.proofs.Math.Option.{Option, some, none}
use Rattle.encoding.specs.Verdict.{Verdict, taken, refused}
use Rattle.json_text.specs.Grammar.{Tree}
use Rattle.json_text.specs.TreeOf.{tree_of}
use Rattle.json_text.specs.Verdict.{record_verdict}
use Rattle.select.specs.Nodes.{end_of}
use Rattle.select.specs.Visits.{Visit, Way, nodes}
use Rattle.answers.specs.Lister.{or_else}

-- the end of the node that begins at the offset, if one does
unfoldable pub end_among : List (Visit Way) → ℕ → Option ℕ
unfolding end_of
end_among [] at = none
end_among (v ∷ vs) at = elim (eqb v.node.first at) [ true ↦ some (end_of v.node) | false ↦ end_among vs at ]

unfoldable pub end_at : Option Tree → ℕ → Option ℕ
unfolding end_among nodes
end_at none at = none
end_at (some t) at = end_among (nodes t) at

unfoldable pub end_in : («record» : List ℕ) → ℕ → Option ℕ
unfolding end_at tree_of
end_in r at = end_at (tree_of r) at

-- ground 8: the offset is not the first byte of a value
unfoldable pub offset_verdict : Option ℕ → ℕ → Verdict
offset_verdict none at = refused 8 at
offset_verdict (some e) at = taken

unfoldable pub find_verdict : («record» : List ℕ) → ℕ → Verdict
unfolding or_else record_verdict offset_verdict end_in
find_verdict r at = or_else (record_verdict r) (offset_verdict (end_in r at) at)

unfoldable pub or_zero : Option ℕ → ℕ
or_zero none = 0
or_zero (some e) = e

-- the end is 0 on refusal
unfoldable pub end_if : ℕ → Option ℕ → ℕ
unfolding or_zero
end_if zero e = or_zero e
end_if (suc g) e = 0

unfoldable pub find_end : («record» : List ℕ) → ℕ → ℕ
unfolding end_if find_verdict end_in
find_end r at = end_if (find_verdict r at).ground (end_in r at)

-- the finder's promise
pub record Finds («record» : List ℕ) (offset g p e : ℕ) : Type 0 where
  pub ground_is : g ≡ (find_verdict «record» offset).ground
  pub place_is : p ≡ (find_verdict «record» offset).place
  pub end_is : e ≡ find_end «record» offset

-- the part of the record that is the value; an empty part where the finder refuses (its end is 0 there)
unfoldable pub value_part : («record» : List ℕ) → ℕ → List ℕ
unfolding find_end
value_part r at = take (find_end r at - at) (drop at r)

-- where that part begins, counted from the record's first byte: at the offset; at the first byte itself where the finder refuses
unfoldable pub start_if : ℕ → ℕ → ℕ
start_if zero at = at
start_if (suc g) at = 0

unfoldable pub part_start : («record» : List ℕ) → ℕ → ℕ
unfolding start_if find_verdict
part_start r at = start_if (find_verdict r at).ground at

-- the second of two places in memory, each a block and an offset in it, is n bytes behind the first
pub record Behind (whole part : ℕ × ℕ) (n : ℕ) : Type 0 where
  pub block_is : part.0 ≡ whole.0
  pub offset_is : part.1 ≡ whole.1 + n
