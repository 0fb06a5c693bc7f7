-- How high a peak can be: where p plain steps stand before deep ones, at most the number of steps less one, or p where no deep one follows.
-- On the plain steps a node has at most the mark of its depth; from there on marks are only added, and each frame adds one more.
-- Assumes nothing.
use Rattle.std.specs.Prelude.{◌≡◌, ◌⊎◌, Bool, ◌&&◌, ltb, length}
use Rattle.std.proofs.Math.Path.{refl}
use Rattle.std.proofs.Common.{sym, ap, subst, ◌∙◌, inl, inr, ltb-true, ltb-false, length-append}
use mathlib.Core.List.Memᴰ
use mathlib.Core.List.{List, [], ◌∷◌, ◌++◌}
use Rattle.std.proofs.Math.Option.{Option, some}
use Rattle.std.proofs.Math.Bool.{true, false}
use Rattle.std.specs.Bool.{beq}
use Rattle.std.proofs.lemmas.Bool.{false≢true}
use Prim.Native.Nat.{ℕ, zero, suc, ◌+◌, ◌-◌, ◌≤◌, ◌<◌, max}
use native.Mathlib.Omega.{arith}
use Rattle.std.proofs.Math.ListN.{get_elem?}
use Rattle.json_text.specs.Grammar.{Tree}
use Rattle.query.specs.Steps.{Step, is_deep}
use Rattle.select.specs.Nodes.{Label}
use Rattle.select.specs.Marks.{Peak, AllSteps, DeepPeak}
use Rattle.select.specs.Visits.{Way, nodes}
use Rattle.select.specs.Ways.{mark, same_marks, frame_if, frames, peak}
use Rattle.select.specs.MarksStep.{mark_root_suc, mark_less, Origin, mark_origin}
use Rattle.select.proofs.MarksAre.{mark_below}
use Rattle.select.proofs.PeakIs.{most_bound, peak_is, peak_unique}
use Rattle.select.specs.PileBound.{PlainBeforeDeep, PileBound, deep, plain, mixed}

abbrev one : Bool → ℕ
one true = 1
one false = 0

-- how many of the first n marks the node at a way has
unfoldable count : List Step → ℕ → Way → ℕ
unfolding mark
count q zero w = 0
count q (suc n) w = one (mark q n w) + count q n w

-- a mark is counted
count_has : (q : List Step) (i n : ℕ) (w : Way) → i < n → mark q i w ≡ true → 0 < count q n w
unfolding count
count_has q i zero w h e = absurd (omega arith)
count_has q i (suc n) w h e = go (ltb i n) refl (λ k. count_has q i n w k e)
  where
    go : (b : Bool) → ltb i n ≡ b → (i < n → 0 < count q n w) → 0 < one (mark q n w) + count q n w
    go true t rest = omega (arith, rest (ltb-true i n t))
    go false t rest =
        let same : i ≡ n = omega (arith, ltb-false i n t) in
        let m : mark q n w ≡ true = subst (λ (j : ℕ). mark q j w ≡ true) same e in
        omega (arith, ap one m)

-- and only a mark
count_found : (q : List Step) (n : ℕ) (w : Way) → 0 < count q n w → (i : ℕ) × (mark q i w ≡ true)
unfolding count
count_found q zero w h = absurd (omega arith)
count_found q (suc n) w h = go (mark q n w) refl h (λ k. count_found q n w k)
  where
    go : (b : Bool) → mark q n w ≡ b → 0 < one b + count q n w → (0 < count q n w → (i : ℕ) × (mark q i w ≡ true)) → (i : ℕ) × (mark q i w ≡ true)
    go true e h rest = (n, e)
    go false e h rest = rest (omega arith)

-- where no mark is less than p
count_low : (q : List Step) (p n : ℕ) (w : Way) → ((i : ℕ) → mark q i w ≡ true → p ≤ i) → count q n w ≤ n - p
unfolding count
count_low q p zero w low = omega arith
count_low q p (suc n) w low = go (mark q n w) refl (count_low q p n w low)
  where
    go : (b : Bool) → mark q n w ≡ b → count q n w ≤ n - p → one b + count q n w ≤ suc n - p
    go true e rest = omega (arith, low n e)
    go false e rest = omega arith

module _ (q : List Step) (w w' : Way) (grow : (i : ℕ) → mark q i w ≡ true → mark q i w' ≡ true) where
  count_grows : (n : ℕ) → count q n w ≤ count q n w'
  unfolding count
  count_grows zero = omega arith
  count_grows (suc n) = omega (arith, up (mark q n w) (mark q n w') (grow n), count_grows n)
    where
      up : (x y : Bool) → (x ≡ true → y ≡ true) → one x ≤ one y
      up true true h = omega arith
      up true false h = absurd (false≢true (h refl))
      up false true h = omega arith
      up false false h = omega arith

  -- where the marks are not the same there is one more
  count_rises : (n : ℕ) → same_marks q n w w' ≡ false → count q n w < count q n w'
  unfolding count same_marks
  count_rises zero e = absurd (false≢true (sym e))
  count_rises (suc n) e = go (mark q n w) (mark q n w') (grow n) e (λ k. count_rises n k)
    where
      go : (x y : Bool) → (x ≡ true → y ≡ true) → (beq x y && same_marks q n w w') ≡ false
          → (same_marks q n w w' ≡ false → count q n w < count q n w') → one x + count q n w < one y + count q n w'
      go true true h e rest = omega (arith, rest e)
      go true false h e rest = absurd (false≢true (h refl))
      go false true h e rest = omega (arith, count_grows n)
      go false false h e rest = omega (arith, rest e)

-- p plain steps, and then deep ones
pub record PlainThenDeep (p : ℕ) (q : List Step) : Type 0 where
  pub plain : (i : ℕ) → i < p → is_deep (get_elem? q i) ≡ false
  pub deep : (i : ℕ) → p ≤ i → i < length q → is_deep (get_elem? q i) ≡ true

module _ (p : ℕ) (q : List Step) (kinds : PlainThenDeep p q) where
  -- among the plain steps: at most the mark of the depth
  record Early (w : Way) : Type 0 where
    short : length w < p
    only : (i : ℕ) → mark q i w ≡ true → i ≡ length w
    few : frames q w ≤ length w

  -- behind them: no mark is less than p
  record Late (w : Way) : Type 0 where
    low : (i : ℕ) → mark q i w ≡ true → p ≤ i
    few : frames q w ≤ p + (count q (length q) w - 1)

  frames_step : (l : Label) (w : Way) → frames q (l ∷ w) ≤ frames q w + 1
  unfolding frames frame_if
  frames_step l w = go (same_marks q (length q) w (l ∷ w))
    where
      go : (b : Bool) → frame_if b (frames q w) ≤ frames q w + 1
      go true = omega arith
      go false = omega arith

  late_step : (l : Label) (w : Way) → Late w → Late (l ∷ w)
  unfolding frames frame_if
  late_step l w h = record {
    low = λ i e. below i (mark_origin q i l w e);
    few = fewer (same_marks q (length q) w (l ∷ w)) refl;
  }
    where
      below : (i : ℕ) → Origin q i w → p ≤ i
      below i (inl (d, e)) = h.low i e
      below i (inr (j, s, e)) = omega (arith, h.low j e)

      grow : (i : ℕ) → mark q i w ≡ true → mark q i (l ∷ w) ≡ true
      grow i e = (mark_below q i l w).1 (mark_less q i w e, inr (kinds.deep i (h.low i e) (mark_less q i w e), e))

      had : {i : ℕ} → Origin q i w → 0 < count q (length q) w
      had {i} (inl (d, e)) = count_has q i (length q) w (mark_less q i w e) e
      had (inr (j, s, e)) = count_has q j (length q) w (mark_less q j w e) e

      fewer : (b : Bool) → same_marks q (length q) w (l ∷ w) ≡ b → frame_if b (frames q w) ≤ p + (count q (length q) (l ∷ w) - 1)
      fewer true e = omega (arith, h.few, count_grows q w (l ∷ w) grow (length q))
      fewer false e =
          let more = count_rises q w (l ∷ w) grow (length q) e in
          let (i, m) = count_found q (length q) (l ∷ w) (omega arith) in
          omega (arith, h.few, had (mark_origin q i l w m))

  early_step : (l : Label) (w : Way) → Early w → Early (l ∷ w) ⊎ Late (l ∷ w)
  early_step l w h = go (ltb (suc (length w)) p) refl
    where
      of : (i : ℕ) → Origin q i w → i ≡ suc (length w)
      of i (inl (d, e)) = absurd (false≢true (sym (kinds.plain i (omega (arith, h.only i e, h.short))) ∙ d))
      of i (inr (j, s, e)) = omega (arith, h.only j e)

      go : (b : Bool) → ltb (suc (length w)) p ≡ b → Early (l ∷ w) ⊎ Late (l ∷ w)
      go true t = inl (record {
        short = ltb-true (suc (length w)) p t;
        only = λ i e. of i (mark_origin q i l w e);
        few = omega (arith, frames_step l w, h.few);
      })
      go false t = inr (record {
        low = λ i e. omega (arith, of i (mark_origin q i l w e), ltb-false (suc (length w)) p t);
        few = omega (arith, frames_step l w, h.few, h.short);
      })

  kept : (w : Way) → Early w ⊎ Late w
  unfolding frames
  kept [] = go (ltb 0 p) refl
    where
      zeroth : (i : ℕ) → mark q i [] ≡ true → i ≡ 0
      zeroth zero e = refl
      zeroth (suc i) e = absurd (false≢true (sym (mark_root_suc q i) ∙ e))

      go : (b : Bool) → ltb 0 p ≡ b → Early [] ⊎ Late []
      go true t = inl (record { short = ltb-true 0 p t; only = zeroth; few = omega arith })
      go false t = inr (record { low = λ i e. omega (arith, ltb-false 0 p t); few = omega arith })
  kept (l ∷ w) = go (kept w)
    where
      go : Early w ⊎ Late w → Early (l ∷ w) ⊎ Late (l ∷ w)
      go (inl h) = early_step l w h
      go (inr h) = inr (late_step l w h)

  pub frames_bound : (w : Way) → frames q w ≤ max p (length q - 1)
  frames_bound w = go (kept w)
    where
      go : Early w ⊎ Late w → frames q w ≤ max p (length q - 1)
      go (inl h) = omega (arith, h.short, h.few)
      go (inr h) = omega (arith, h.few, count_low q p (length q) w h.low)

-- the bound for p plain steps and then deep ones
pub peak_bound : (t : Tree) (q : List Step) (k p : ℕ) → PlainThenDeep p q → Peak t q k → k ≤ max p (length q - 1)
unfolding peak
peak_bound t q k p h x =
    omega (arith, peak_unique x (peak_is t q), most_bound q (max p (length q - 1)) (nodes t) (λ v m. frames_bound p q h v.state))

pub step_kind : (d : Bool) (q : List Step) → AllSteps d q → (i : ℕ) → i < length q → is_deep (get_elem? q i) ≡ d
step_kind d [] h i k = absurd (omega arith)
step_kind d (s ∷ q) h zero k = h s (Memᴰ.head refl)
step_kind d (s ∷ q) h (suc i) k = step_kind d q (λ x m. h x (Memᴰ.tail m)) i (omega arith)

up_to : (p d : List Step) → AllSteps false p → AllSteps true d → PlainThenDeep (length p) (p ++ d)
up_to [] d f g = record { plain = λ i l. absurd (omega arith); deep = λ i l m. step_kind true d g i m }
up_to (s ∷ p) d f g =
    let rest = up_to p d (λ x m. f x (Memᴰ.tail m)) g in
    record { plain = first rest; deep = later rest }
  where
    first : PlainThenDeep (length p) (p ++ d) → (i : ℕ) → i < suc (length p) → is_deep (get_elem? (s ∷ p ++ d) i) ≡ false
    first rest zero l = f s (Memᴰ.head refl)
    first rest (suc i) l = rest.plain i (omega arith)

    later : PlainThenDeep (length p) (p ++ d) → (i : ℕ) → suc (length p) ≤ i → i < suc (length (p ++ d)) → is_deep (get_elem? (s ∷ p ++ d) i) ≡ true
    later rest zero l m = absurd (omega arith)
    later rest (suc i) l m = rest.deep i (omega arith) (omega arith)

-- of plain steps followed by one or more deep ones: at most one fewer than the steps
pub plain_then_deep : (t : Tree) (q : List Step) (k : ℕ) → PlainBeforeDeep q → Peak t q k → k + 1 ≤ length q
plain_then_deep t q k h x =
    let kinds = subst (PlainThenDeep (length h.plain)) (sym h.parts) (up_to h.plain h.deep h.all_plain h.all_deep) in
    omega (arith, peak_bound t q k (length h.plain) kinds x, h.some_deep, ap length h.parts, length-append h.plain h.deep)

-- of deep steps only: the same, or none for no step
pub deep_only : (t : Tree) (q : List Step) (k : ℕ) → AllSteps true q → Peak t q k → DeepPeak q k
deep_only t q k h x =
    let b = peak_bound t q k 0 (up_to [] q (λ s m. absurd (Memᴰ.not-nil m)) h) x in
    record { steps = λ l. omega arith; bare = λ l. omega arith }

-- of plain steps only: at most the steps
pub plain_only : (t : Tree) (q : List Step) (k : ℕ) → AllSteps false q → Peak t q k → k ≤ length q
plain_only t q k h x =
    let kinds : PlainThenDeep (length q) q = record { plain = step_kind false q h; deep = λ i l m. absurd (omega arith) } in
    omega (arith, peak_bound t q k (length q) kinds x)

-- so a bound by the steps holds in every record
pub bound_holds : (t : Tree) (q : List Step) (k b : ℕ) → PileBound q (some b) → Peak t q k → k ≤ b
bound_holds t q k b y x = go y refl
  where
    go : {o : Option ℕ} → PileBound q o → o ≡ some b → k ≤ b
    go (deep {k = c} h e) z = let same : c ≡ b = cc in omega (arith, plain_then_deep t q k h x)
    go (plain h) z = let same : length q ≡ b = cc in omega (arith, plain_only t q k h x)
    go (mixed h) z = let same : ◌≡◌ {A = ℕ} 0 1 = cc in absurd (omega arith)
