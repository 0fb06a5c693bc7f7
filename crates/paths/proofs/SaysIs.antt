-- What the writer of a node's path gives by computing is what change request S-4 says of its arguments, and nothing else is said of them.
-- The node at the offset has one trail, and its path is that of the trail's labels where no name on it has half of a pair. Assumes nothing.
use Rattle.std.specs.Prelude.{◌≡◌, ◌↔◌, ◌⊎◌, Bool, true, false, eqb, leb}
use Rattle.std.proofs.Math.Path.{refl, sym, ap, ap₂}
use Rattle.std.proofs.Common.{◌∙◌, inl, inr, arith, eqb-true, leb-true, leb-false, le-leb}
use mathlib.Core.List.Memᴰ
use mathlib.Core.List.{List, [], ◌∷◌, ◌++◌, Memᴰ}
use Rattle.std.proofs.Math.Option.{Option, some, none}
use Prim.Native.Nat.{ℕ, zero, suc, ◌≤◌, ◌<◌}
use Rattle.std.proofs.lemmas.Bool.{eqb-false, lt-leb}
use Rattle.std.proofs.Math.ListN.{length, drop}
use Rattle.encoding.specs.Verdict.{Verdict, taken, refused}
use Rattle.json_text.specs.Grammar.{Tree}
use Rattle.select.specs.Nodes.{Node, IsNode, root}
use Rattle.select.specs.Visits.{Visit}
use Rattle.select.specs.Order.{node_unique}
use Rattle.answers.specs.Lister.{or_else}
use Rattle.answers.proofs.ListerIs.{refuses_first}
use Rattle.answers.specs.Finder.{find_verdict}
use Rattle.answers.specs.FinderSays.{Begins, FinderSays, record_refused, no_value, found}
use Rattle.answers.proofs.FinderIs.{finder_says_only, finder_says}
use Rattle.answers.specs.Within.{RecordIs}
use Rattle.answers.specs.WithinLaws.{record_tree}
use Rattle.paths.specs.Answer.{trail_among, trail_at, trail_in, path_of, first_half, half_verdict, room_verdict, trail_verdict, path_verdict}
use Rattle.paths.specs.Answer.{path_if, path_written, WritesPath}
use Rattle.paths.specs.HalvesAre.{first_half_is, whole_is}
use Rattle.paths.specs.Normalized.{PathOf, labels_on}
use Rattle.paths.proofs.NormalizedIs.{normalized_is}
use Rattle.paths.specs.Says.{PathSays, finder_refused, half_name, too_long, written}
use Rattle.paths.specs.Trails.{Trail, trails_of}
use Rattle.paths.specs.TrailsAre.{Leads, visited_is, leads_below, trail_unique, trail_to, labels_on_lem}

-- a node has a path exactly if no name on its trail has half of a pair, and that is the one of its trail
pub path_is : (t : Tree) {u : Trail} {n : Node} → Leads (root t) u n → (s : List ℕ) → PathOf t n s ↔ ((first_half u ≡ none) × (s ≡ path_of u))
unfolding path_of
path_is t {u} {n} p s = (there, back)
  where
    there : PathOf t n s → (first_half u ≡ none) × (s ≡ path_of u)
    there h =
        let (w, e) = (normalized_is (labels_on h.node) s).0 h.path in
        ((whole_is t p).1 (rw (labels_on_lem t p h.node) at w), rw (labels_on_lem t p h.node) at e)

    back : (first_half u ≡ none) × (s ≡ path_of u) → PathOf t n s
    back (e, f) =
        let b = leads_below p in
        record { node = b; path = (normalized_is (labels_on b) s).1 (rw (labels_on_lem t p b) ((whole_is t p).0 e, f)) }

-- the trail of a visited node that begins at a place, if all that begin there have the same
trail_among_lem : (vs : List (Visit Trail)) (at : ℕ) (u : Trail) → ((v : Visit Trail) → Memᴰ v vs → v.node.first ≡ at → v.state ≡ u)
    → (v : Visit Trail) → Memᴰ v vs → v.node.first ≡ at → trail_among vs at ≡ some u
unfolding trail_among
trail_among_lem [] at u f v m e = absurd (Memᴰ.not-nil m)
trail_among_lem (x ∷ vs) at u f v m e =
    go (eqb x.node.first at) refl (trail_among_lem vs at u (λ y k. f y (Memᴰ.tail k)) v) (Memᴰ.cases_cons m)
  where
    go : (b : Bool) → eqb x.node.first at ≡ b → (Memᴰ v vs → v.node.first ≡ at → trail_among vs at ≡ some u)
        → (v ≡ x) ⊎ Memᴰ v vs → elim b as (λ _. Option Trail) [ true ↦ some x.state | false ↦ trail_among vs at ] ≡ some u
    go true h rest k = ap some (f x (Memᴰ.head refl) (eqb-true x.node.first at h))
    go false h rest (inl p) = absurd (eqb-false x.node.first at h (ap (λ (y : Visit Trail). y.node.first) (sym p) ∙ e))
    go false h rest (inr k) = rest k e

-- the trail that is computed is the one of the node at the offset
pub trail_in_lem : {«record» : List ℕ} {offset : ℕ} {t : Tree} {n : Node} {u : Trail} → RecordIs «record» t → Begins t offset n → Leads (root t) u n
    → trail_in «record» offset ≡ some u
unfolding trail_in trail_at
trail_in_lem {offset = offset} {t} {n} {u} ht b p =
    rw (record_tree ht)
    (trail_among_lem (trails_of t) offset u
    (λ v m e. trail_unique t ((visited_is t v.state v.node).0 m) p (e ∙ sym b.first))
    (record { state = u; node = n }) ((visited_is t u n).1 p) b.first)

-- ground 10, by the room
module _ (n room at : ℕ) where
  abbrev by_room : Bool → Verdict
  by_room b = elim b [ true ↦ taken | false ↦ refused 10 at ]

  room_fits : n ≤ room → room_verdict n room at ≡ taken
  unfolding room_verdict
  room_fits h = ap by_room (le-leb n room h)

  room_lacks : room < n → room_verdict n room at ≡ refused 10 at
  unfolding room_verdict
  room_lacks h = ap by_room (lt-leb n room h)

module _ («record» : List ℕ) (offset : ℕ) (before : List ℕ) where
  -- the promise, by the verdict and what is written
  writes : (w : Verdict) (s : List ℕ) → path_verdict «record» offset (length before) ≡ w → path_if w.ground (trail_in «record» offset) ≡ s
      → WritesPath «record» offset before (s ++ drop (length s) before) w.ground w.place (length s)
  unfolding path_written
  writes w s e f =
      let all : path_written «record» offset (length before) ≡ s = ap (λ (v : Verdict). path_if v.ground (trail_in «record» offset)) e ∙ f in
      record {
        ground_is = ap (λ (v : Verdict). v.ground) (sym e);
        place_is = ap (λ (v : Verdict). v.place) (sym e);
        size_is = ap length (sym all);
        buffer_is = ap (λ (z : List ℕ). z ++ drop (length s) before) (sym all);
      }

  -- a refusal writes nothing
  refuses : (w : Verdict) → path_verdict «record» offset (length before) ≡ w → 0 < w.ground
      → WritesPath «record» offset before before w.ground w.place 0
  unfolding path_if
  refuses w e h = writes w [] e (nothing w.ground h)
    where
      nothing : (g : ℕ) → 0 < g → path_if g (trail_in «record» offset) ≡ []
      nothing zero h = absurd (omega arith)
      nothing (suc g) h = refl

  -- grounds 4 to 6 and 8
  finder_refuses : {g p e : ℕ} → FinderSays «record» offset g p e → 0 < g → WritesPath «record» offset before before g p 0
  unfolding path_verdict
  finder_refuses {g} {p} x h =
      let f = finder_says_only «record» offset x in
      let e : find_verdict «record» offset ≡ refused g p = ap₂ refused (sym f.ground_is) (sym f.place_is) in
      refuses (refused g p) (rw e (refuses_first (refused g p) (trail_verdict (trail_in «record» offset) offset (length before)) h)) h

  -- the record is taken, and the node n with the trail u begins at the offset
  module _ {t : Tree} (ht : RecordIs «record» t) {n : Node} (b : Begins t offset n) {u : Trail} (p : Leads (root t) u n) where
    -- grounds 9 and 10 are all that is left
    node_verdict : {x : Option ℕ} → first_half u ≡ x
        → path_verdict «record» offset (length before) ≡ or_else (half_verdict x) (room_verdict (length (path_of u)) (length before) offset)
    unfolding path_verdict trail_verdict or_else IsNode
    node_verdict e =
        let f = finder_says_only «record» offset (found t ht n b (λ m c. node_unique t m n c.node b.node (c.first ∙ sym b.first))) in
        let ok : find_verdict «record» offset ≡ taken = ap₂ refused (sym f.ground_is) (sym f.place_is) in
        rw (ok, trail_in_lem ht b p) (ap (λ (x : Option ℕ). or_else (half_verdict x) (room_verdict (length (path_of u)) (length before) offset)) e)

    -- 9, 10 and 0

    half_writes : (q : ℕ) → first_half u ≡ some q → WritesPath «record» offset before before 9 q 0
    unfolding half_verdict or_else
    half_writes q e = refuses (refused 9 q) (node_verdict e) (omega arith)

    long_writes : first_half u ≡ none → length before < length (path_of u) → WritesPath «record» offset before before 10 offset 0
    unfolding half_verdict or_else
    long_writes e h = refuses (refused 10 offset) (node_verdict e ∙ room_lacks (length (path_of u)) (length before) offset h) (omega arith)

    fit_writes : first_half u ≡ none → length (path_of u) ≤ length before
        → WritesPath «record» offset before (path_of u ++ drop (length (path_of u)) before) 0 0 (length (path_of u))
    unfolding half_verdict or_else path_if
    fit_writes e h = writes taken (path_of u) (node_verdict e ∙ room_fits (length (path_of u)) (length before) offset h) (rw (trail_in_lem ht b p))

  -- what is said of the writer's arguments is what it answers by computing
  pub path_says_only : {g p n : ℕ} {after : List ℕ} → PathSays «record» offset before g p n after → WritesPath «record» offset before after g p n
  unfolding IsNode
  path_says_only (finder_refused x h) = finder_refuses x h
  path_says_only (half_name t ht n b q h) = let (u, p) = trail_to t b.node in half_writes ht b p q ((first_half_is t p q).1 h)
  path_says_only (too_long t ht n b s x l) =
      let (u, p) = trail_to t b.node in let (h, e) = (path_is t p s).0 x in long_writes ht b p h (rw e at l)
  path_says_only (written t ht n b s x l) =
      let (u, p) = trail_to t b.node in let (h, e) = (path_is t p s).0 x in rw e (fit_writes ht b p h (rw e at l))

  -- it is said of the arguments what the writer answers by computing
  abbrev Answered : Type 0
  Answered =
      let w = path_written «record» offset (length before) in
      let v = path_verdict «record» offset (length before) in
      PathSays «record» offset before v.ground v.place (length w) (w ++ drop (length w) before)

  pub path_says : Answered
  unfolding IsNode
  path_says = go (finder_says «record» offset)
    where
      computed : {g p n : ℕ} {after : List ℕ} → PathSays «record» offset before g p n after → Answered
      computed x = let h = path_says_only x in rw (← h.ground_is, ← h.place_is, ← h.size_is, ← h.buffer_is) x

      go : {g p e : ℕ} → FinderSays «record» offset g p e → Answered
      go (record_refused v x h) = computed (finder_refused (record_refused v x h) h)
      go (no_value t ht f) = computed (finder_refused (no_value t ht f) (omega arith))
      go (found t ht n b f) = let (u, p) = trail_to t b.node in by_half p (first_half u) refl
        where
          by_half : {u : Trail} → Leads (root t) u n → (x : Option ℕ) → first_half u ≡ x → Answered
          by_half p (some q) e = computed (half_name t ht n b q ((first_half_is t p q).0 e))
          by_half {u} p none e = by_room_lem (leb (length (path_of u)) (length before)) refl
            where
              by_room_lem : (y : Bool) → leb (length (path_of u)) (length before) ≡ y → Answered
              by_room_lem true h = computed (written t ht n b (path_of u) ((path_is t p (path_of u)).1 (e, refl)) (leb-true _ _ h))
              by_room_lem false h = computed (too_long t ht n b (path_of u) ((path_is t p (path_of u)).1 (e, refl)) (leb-false _ _ h))

  -- so it is said of what any call answers that meets the promise
  pub writes_say : {g p n : ℕ} {after : List ℕ} → WritesPath «record» offset before after g p n → PathSays «record» offset before g p n after
  writes_say h = rw (h.buffer_is, h.ground_is, h.place_is, h.size_is) path_says
