-- What the value finder and the value reader give by computing is what document 01 says of their arguments, and nothing else is said of them.
-- The visits of a record are its nodes, no two nodes begin at one place, and a node's bytes are those of its value. Assumes nothing.
use Rattle.std.specs.Prelude.{◌≡◌, ◌↔◌, ◌⊎◌, Bool, true, false, eqb, drop}
use Rattle.std.proofs.Math.Path.{refl, sym, ap}
use Rattle.std.proofs.Common.{subst, ◌∙◌, inl, inr, arith, eqb-true}
use mathlib.Core.List.Memᴰ
use mathlib.Core.List.{List, [], ◌∷◌, Memᴰ}
use Rattle.std.proofs.Math.Option.{Option, some, none}
use Prim.Native.Nat.{ℕ, zero, suc, ◌-◌, ◌<◌}
use Rattle.std.proofs.lemmas.Bool.{eqb-false}
use Rattle.std.proofs.Math.ListN.{take}
use Rattle.encoding.specs.Verdict.{Verdict}
use Rattle.encoding.specs.Verdict as verdict
use Rattle.json_text.specs.Grammar.{Tree}
use Rattle.json_text.proofs.TreeOfLaws.{unambiguous}
use Rattle.json_text.specs.Verdict.{RecordSays, record_verdict}
use Rattle.json_text.proofs.Says.{record_says, record_says_only}
use Rattle.json_text.specs.Verdict as J
use Rattle.select.specs.Nodes.{Node, IsNode, end_of, root}
use Rattle.select.specs.Visits.{Visit, Way, nodes}
use Rattle.select.specs.Reach.{below_is, nodes_are}
use Rattle.select.specs.Order.{node_unique}
use Rattle.select.specs.Stands.{node_bytes}
use Rattle.answers.specs.Lister.{or_else}
use Rattle.answers.specs.Finder.{end_among, end_at, end_in, offset_verdict, find_verdict, or_zero, end_if, find_end, Finds, value_part, start_if, part_start}
use Rattle.answers.specs.Within.{RecordIs}
use Rattle.answers.specs.WithinLaws.{record_is_taken, record_tree}
use Rattle.answers.proofs.ListerIs.{refuses_first}
use Rattle.answers.specs.FinderSays.{Begins, FinderSays, record_refused, no_value, found, ReaderSays, nothing, value}

-- the end of the visited node that begins at a place, or none where no visited node does
data Among (vs : List (Visit Way)) (at : ℕ) : Option ℕ → Type 0 where
  one : (v : Visit Way) → Memᴰ v vs → v.node.first ≡ at → Among vs at (some (end_of v.node))
  no_one : ((v : Visit Way) → Memᴰ v vs → v.node.first ≡ at → ⊥) → Among vs at none

among : (vs : List (Visit Way)) (at : ℕ) → Among vs at (end_among vs at)
unfolding end_among
among [] at = no_one (λ v m. absurd (Memᴰ.not-nil m))
among (v ∷ vs) at = go (eqb v.node.first at) refl (among vs at)
  where
    later : {x : Option ℕ} → (v.node.first ≡ at → ⊥) → Among vs at x → Among (v ∷ vs) at x
    later f (one u m e) = one u (Memᴰ.tail m) e
    later f (no_one g) = no_one (λ u m. by u (Memᴰ.cases_cons m))
      where
        by : (u : Visit Way) → (u ≡ v) ⊎ Memᴰ u vs → u.node.first ≡ at → ⊥
        by u (inl p) e = f (ap (λ (z : Visit Way). z.node.first) (sym p) ∙ e)
        by u (inr m) e = g u m e

    go : (b : Bool) → eqb v.node.first at ≡ b → Among vs at (end_among vs at) →
        Among (v ∷ vs) at (elim b as (λ _. Option ℕ) [ true ↦ some (end_of v.node) | false ↦ end_among vs at ])
    go true e rest = one v (Memᴰ.head refl) (eqb-true v.node.first at e)
    go false e rest = later (eqb-false v.node.first at e) rest

-- the end of the node that begins at the offset
data Ends (t : Tree) (offset : ℕ) : Option ℕ → Type 0 where
  node : (n : Node) → Begins t offset n → Ends t offset (some (end_of n))
  no_node : ((n : Node) → Begins t offset n → ⊥) → Ends t offset none

ends : (t : Tree) (offset : ℕ) → Ends t offset (end_among (nodes t) offset)
unfolding IsNode
ends t offset = go (among (nodes t) offset)
  where
    go : {x : Option ℕ} → Among (nodes t) offset x → Ends t offset x
    go (one v m e) = node v.node (record { node = (below_is (root t) v.node).1 (v.state, (nodes_are t v.state v.node).0 m); first = e })
    go (no_one f) =
        no_node λ n b. let (w, r) = (below_is (root t) n).0 b.node in f (record { state = w; node = n }) ((nodes_are t w n).1 r) b.first

-- no two nodes begin at one place
begins_unique : {t : Tree} {offset : ℕ} {n m : Node} → Begins t offset n → Begins t offset m → m ≡ n
begins_unique {t} {n = n} {m = m} b c = node_unique t m n c.node b.node (c.first ∙ sym b.first)

-- the three numbers by the verdict on the record and the end
abbrev finds_by : (v : Verdict) → (end : Option ℕ) → (offset g p e : ℕ) → Type 0
finds_by v x offset g p e =
    let w = or_else v (offset_verdict x offset) in
    (g ≡ w.ground) × (p ≡ w.place) × (e ≡ end_if w.ground x)

module _ («record» : List ℕ) (offset : ℕ) where
  finds_by_lem : {g p e : ℕ} → finds_by (record_verdict «record») (end_in «record» offset) offset g p e → Finds «record» offset g p e
  unfolding find_verdict find_end
  finds_by_lem h = record { ground_is = h.0; place_is = h.1; end_is = h.2 }

  finds_refused : (v : Verdict) → record_verdict «record» ≡ v → 0 < v.ground → Finds «record» offset v.ground v.place 0
  unfolding end_if
  finds_refused v e h =
      finds_by_lem (rw e (rw (refuses_first v (offset_verdict (end_in «record» offset) offset) h) (refl, refl, none_for v.ground h)))
    where
      none_for : (g : ℕ) → 0 < g → 0 ≡ end_if g (end_in «record» offset)
      none_for zero h = absurd (omega arith)
      none_for (suc g) h = refl

  -- the record is taken
  module _ {t : Tree} (ht : RecordIs «record» t) where
    end_in_lem : end_in «record» offset ≡ end_among (nodes t) offset
    unfolding end_in end_at
    end_in_lem = ap (λ (x : Option Tree). end_at x offset) (record_tree ht)

    finds_node : (n : Node) → Begins t offset n → Finds «record» offset 0 0 (end_of n)
    unfolding or_else offset_verdict end_if or_zero
    finds_node n b = finds_by_lem (rw (record_is_taken ht, end_in_lem) (go (ends t offset)))
      where
        go : {x : Option ℕ} → Ends t offset x → finds_by verdict.taken x offset 0 0 (end_of n)
        go (node m c) = (refl, refl, ap end_of (begins_unique c b))
        go (no_node f) = absurd (f n b)

    finds_no_node : ((n : Node) → Begins t offset n → ⊥) → Finds «record» offset 8 offset 0
    unfolding or_else offset_verdict end_if
    finds_no_node f = finds_by_lem (rw (record_is_taken ht, end_in_lem) (go (ends t offset)))
      where
        go : {x : Option ℕ} → Ends t offset x → finds_by verdict.taken x offset 8 offset 0
        go (node m c) = absurd (f m c)
        go (no_node g) = (refl, refl, refl)

  -- what is said of the finder's arguments is what it answers by computing
  pub finder_says_only : {g p e : ℕ} → FinderSays «record» offset g p e → Finds «record» offset g p e
  finder_says_only (record_refused v x h) = finds_refused v (sym (record_says_only «record» v x)) h
  finder_says_only (no_value t ht f) = finds_no_node ht f
  finder_says_only (found t ht n b f) = finds_node ht n b

  -- what the finder answers by computing is said of its arguments
  pub finder_says : FinderSays «record» offset (find_verdict «record» offset).ground (find_verdict «record» offset).place (find_end «record» offset)
  finder_says = go (record_says «record»)
    where
      Answered : Type 0
      Answered = FinderSays «record» offset (find_verdict «record» offset).ground (find_verdict «record» offset).place (find_end «record» offset)

      computed : {g p e : ℕ} → FinderSays «record» offset g p e → Answered
      computed x = let h = finder_says_only x in rw (← h.ground_is, ← h.place_is, ← h.end_is) x

      at_end : {t : Tree} {x : Option ℕ} → RecordIs «record» t → Ends t offset x → Answered
      at_end {t} ht (node n b) = computed (found t ht n b (λ m c. begins_unique b c))
      at_end {t} ht (no_node f) = computed (no_value t ht f)

      go : {v : Verdict} → RecordSays «record» v → Answered
      go (J.taken l j) = at_end (record { written = j.written; bytes = l; levels = j.shallow }) (ends j.tree offset)
      go (J.long l) = computed (record_refused _ (J.long l) (omega arith))
      go (J.wrong p l f d a) = computed (record_refused _ (J.wrong p l f d a) (omega arith))
      go (J.deep p l o) = computed (record_refused _ (J.deep p l o) (omega arith))

  -- so it is said of what any call answers that meets the finder's promise
  pub finds_say : {g p e : ℕ} → Finds «record» offset g p e → FinderSays «record» offset g p e
  finds_say h = rw (h.ground_is, h.place_is, h.end_is) finder_says

  -- of a record that is taken: ground 0 exactly if a node begins at the offset, and then the end is its end
  pub finds_exactly : {t : Tree} {g p e : ℕ} → RecordIs «record» t → Finds «record» offset g p e
      → (g ≡ 0) ↔ ((n : Node) × Begins t offset n × (e ≡ end_of n))
  finds_exactly {t} {g} {p} {e} ht h = (go (finds_say h), λ x. h.ground_is ∙ sym (finds_node ht x.0 x.1).ground_is)
    where
      go : {g p e : ℕ} → FinderSays «record» offset g p e → g ≡ 0 → (n : Node) × Begins t offset n × (e ≡ end_of n)
      go (record_refused v x k) z = absurd (omega arith)
      go (no_value t' ht' f) z = absurd (omega arith)
      go (found t' ht' n b f) z =
          (n, subst (λ (u : Tree). Begins u offset n) (unambiguous t' t (ht'.written ∙ sym ht.written)) b, refl)

  -- the reader's part runs from the offset to the end that the finder answers
  pub reader_part : {g p e : ℕ} → FinderSays «record» offset g p e → value_part «record» offset ≡ take (e - offset) (drop offset «record»)
  unfolding value_part
  reader_part x = ap (λ (e : ℕ). take (e - offset) (drop offset «record»)) (sym (finder_says_only x).end_is)

  no_end : {g p e : ℕ} → FinderSays «record» offset g p e → 0 < g → e ≡ 0
  no_end (record_refused v x h) k = refl
  no_end (no_value t ht f) k = refl
  no_end (found t ht n b f) k = absurd (omega arith)

  start_at : {g p e : ℕ} → FinderSays «record» offset g p e → part_start «record» offset ≡ start_if g offset
  unfolding part_start
  start_at x = ap (λ (g : ℕ). start_if g offset) (sym (finder_says_only x).ground_is)

  no_start : {g : ℕ} → 0 < g → start_if g offset ≡ 0
  unfolding start_if
  no_start {g = zero} h = absurd (omega arith)
  no_start {g = suc g} h = refl

  -- what is said of the reader's arguments is what it returns by computing
  pub reader_says_only : {start : ℕ} {part : List ℕ} → ReaderSays «record» offset start part
      → (start ≡ part_start «record» offset) × (part ≡ value_part «record» offset)
  unfolding start_if
  reader_says_only (nothing {end = e} x h) =
      let z : e - offset ≡ 0 = omega (arith, no_end x h) in
      (sym (start_at x ∙ no_start h), sym (reader_part x ∙ rw z refl))
  reader_says_only (value t ht n b) =
      let x = found t ht n b (λ m c. begins_unique b c) in
      (sym (start_at x), sym (reader_part x ∙ rw (← b.first, ← ht.written) (node_bytes t n b.node)))

  -- what the reader returns by computing is said of its arguments
  pub reader_says : ReaderSays «record» offset (part_start «record» offset) (value_part «record» offset)
  reader_says = go finder_says
    where
      Returned : Type 0
      Returned = ReaderSays «record» offset (part_start «record» offset) (value_part «record» offset)

      computed : {start : ℕ} {part : List ℕ} → ReaderSays «record» offset start part → Returned
      computed x = let (s, p) = reader_says_only x in rw (← s, ← p) x

      go : {g p e : ℕ} → FinderSays «record» offset g p e → Returned
      go (record_refused v x h) = computed (nothing (record_refused v x h) h)
      go (no_value t ht f) = computed (nothing (no_value t ht f) (omega arith))
      go (found t ht n b f) = computed (value t ht n b)
