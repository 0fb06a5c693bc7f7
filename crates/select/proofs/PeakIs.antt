-- The most frames among the visits is the peak: the greatest number of frames on one path down from the root.
-- A path down is the way to its last node, and the test of marks on ways counts its frames. Assumes nothing.
use Rattle.std.specs.Prelude.{◌≡◌, ◌⊎◌, Bool, leb, length}
use Rattle.std.proofs.Math.Path.{refl, ap, subst}
use Rattle.std.proofs.Common.{sym, ◌∙◌, inr, leb-true, leb-false}
use Rattle.std.proofs.Math.Logic.{inl}
use mathlib.Core.List.Memᴰ
use mathlib.Core.List.{List, [], ◌∷◌, Memᴰ}
use Rattle.std.proofs.Math.Bool.{true, false, false≢true}
use Prim.Native.Nat.{ℕ, suc, ◌+◌, ◌≤◌, ◌<◌, max}
use Rattle.std.proofs.Math.Numerals.{add-one}
use native.Mathlib.Omega.{arith}
use Rattle.json_text.specs.Grammar.{Value, literal, number, string, container, Tree}
use Rattle.query.specs.Steps.{Step}
use Rattle.select.specs.Nodes.{Label, Node, Child, value_children, children, IsChild, IsContainer, holds, root}
use Rattle.select.specs.Marks.{Frames, Peak}
use Rattle.select.specs.Marks as M
use Rattle.select.specs.Visits.{Visit, Way, nodes}
use Rattle.select.specs.Ways.{same_marks, frame_if, frames, container_frames, most_frames, peak}
use Rattle.select.specs.Reach.{Reach, start, down, nodes_are}
use Rattle.select.proofs.MarksAre.{same_marks_is}

-- only a container has children
value_container : {c : Child} (v : Value) (a : ℕ) → Memᴰ c (value_children v a) → IsContainer (record { value = v; first = a })
unfolding value_children
value_container (literal l) a m = absurd (Memᴰ.not-nil m)
value_container (number g n f e) a m = absurd (Memᴰ.not-nil m)
value_container (string cs) a m = absurd (Memᴰ.not-nil m)
value_container (container k is) a m = holds k is

parent_container : (p : Node) (l : Label) (n : Node) → IsChild p l n → IsContainer p
unfolding IsChild children
parent_container p l n m = value_container p.value p.first m

one_more : (k : ℕ) (b : Bool) → (b ≡ true → ⊥) → frame_if b k ≡ k + 1
unfolding frame_if
one_more k true h = absurd (h refl)
one_more k false h = refl

module _ (r : Node) (q : List Step) where
  -- the frames on a path are those that the way to its end tells
  frames_way : {n : Node} {j : ℕ} → Frames r q n j → (w : Way) × Reach r w n × (frames q w ≡ j)
  unfolding frames frame_if
  frames_way M.start = ([], start, refl)
  frames_way (M.same l f c is s) =
      let (w, x, e) = frames_way f in
      (l ∷ w, down l x c, ap (λ (b : Bool). frame_if b (frames q w)) ((same_marks_is r q x (down l x c)).0 s) ∙ e)
  frames_way (M.frame {k} l f c is s) =
      let (w, x, e) = frames_way f in
      let test = same_marks q (length q) w (l ∷ w) in (
        l ∷ w,
        down l x c,
        one_more (frames q w) test (λ h. s ((same_marks_is r q x (down l x c)).1 h)) ∙ add-one (frames q w) ∙ ap suc e,
      )

  pub frames_container : {n : Node} {j : ℕ} → Frames r q n j → (j ≡ 0) ⊎ IsContainer n
  frames_container M.start = inl refl
  frames_container (M.same l f c is s) = inr is
  frames_container (M.frame l f c is s) = inr is

  pub way_frames : {w : Way} {n : Node} → Reach r w n → IsContainer n → Frames r q n (frames q w)
  unfolding frames
  way_frames start is = M.start
  way_frames (down {m} {n} {w} l x c) is = go (same_marks q (length q) w (l ∷ w)) refl (way_frames x (parent_container m l n c))
    where
      go : (b : Bool) → same_marks q (length q) w (l ∷ w) ≡ b → Frames r q m (frames q w) → Frames r q n (frame_if b (frames q w))
      go true e f = M.same l f c is ((same_marks_is r q x (down l x c)).1 e)
      go false e f =
          subst
          (Frames r q n)
          (sym (add-one (frames q w)))
          (M.frame l f c is (λ s. false≢true (sym e ∙ (same_marks_is r q x (down l x c)).0 s)))

-- only a container has frames of its own
frames_own : (v : Value) (a k : ℕ) → 0 < container_frames v k → IsContainer (record { value = v; first = a }) × (container_frames v k ≡ k)
unfolding container_frames
frames_own (literal l) a k h = absurd (omega arith)
frames_own (number g n f e) a k h = absurd (omega arith)
frames_own (string cs) a k h = absurd (omega arith)
frames_own (container c is) a k h = (holds c is, refl)

container_frames_lem : {n : Node} (k : ℕ) → IsContainer n → container_frames n.value k ≡ k
unfolding container_frames
container_frames_lem k (holds c is) = refl

module _ (q : List Step) where
  abbrev own : Visit Way → ℕ
  own v = container_frames v.node.value (frames q v.state)

  most_bounds : {v : Visit Way} (vs : List (Visit Way)) → Memᴰ v vs → own v ≤ most_frames q vs
  unfolding most_frames
  most_bounds [] m = absurd (Memᴰ.not-nil m)
  most_bounds {v} (u ∷ vs) m = go (Memᴰ.cases_cons m) (λ h. most_bounds vs h)
    where
      go : (v ≡ u) ⊎ Memᴰ v vs → (Memᴰ v vs → own v ≤ most_frames q vs) → own v ≤ max (own u) (most_frames q vs)
      go (inl e) rest = omega (arith, ap own e)
      go (inr h) rest = omega (arith, rest h)

  -- no more than what bounds the frames of each
  pub most_bound : (b : ℕ) (vs : List (Visit Way)) → ((v : Visit Way) → Memᴰ v vs → frames q v.state ≤ b) → most_frames q vs ≤ b
  unfolding most_frames container_frames
  most_bound b [] h = omega arith
  most_bound b (v ∷ vs) h =
      omega (arith, less v.node.value, h v (Memᴰ.head refl), most_bound b vs (λ u m. h u (Memᴰ.tail m)))
    where
      less : (x : Value) → container_frames x (frames q v.state) ≤ frames q v.state
      less (literal l) = omega arith
      less (number g n f e) = omega arith
      less (string cs) = omega arith
      less (container k is) = omega arith

  -- the most is none, or that of a container
  abbrev Attained : List (Visit Way) → ℕ → Type 0
  Attained vs k = (v : Visit Way) × Memᴰ v vs × IsContainer v.node × (frames q v.state ≡ k)

  most_attained : (vs : List (Visit Way)) → (most_frames q vs ≡ 0) ⊎ Attained vs (most_frames q vs)
  unfolding most_frames container_frames
  most_attained [] = inl refl
  most_attained (v ∷ vs) = go (leb (own v) (most_frames q vs)) refl (most_attained vs)
    where
      Result : Type 0
      Result = (max (own v) (most_frames q vs) ≡ 0) ⊎ Attained (v ∷ vs) (max (own v) (most_frames q vs))

      here : most_frames q vs < own v → Result
      here h =
          let (is, e) = frames_own v.node.value v.node.first (frames q v.state) (omega arith) in
          inr (v, Memᴰ.head refl, is, omega arith)

      later : own v ≤ most_frames q vs → (most_frames q vs ≡ 0) ⊎ Attained vs (most_frames q vs) → Result
      later h (inl e) = inl (omega arith)
      later h (inr (u, m, is, e)) = inr (u, Memᴰ.tail m, is, omega arith)

      go : (b : Bool) → leb (own v) (most_frames q vs) ≡ b → (most_frames q vs ≡ 0) ⊎ Attained vs (most_frames q vs) → Result
      go true e rest = later (leb-true (own v) (most_frames q vs) e) rest
      go false e rest = here (leb-false (own v) (most_frames q vs) e)

-- the peak, by its definition
pub peak_is : (t : Tree) (q : List Step) → Peak t q (peak t q)
unfolding peak
peak_is t q = go (most_attained q (nodes t))
  where
    bounds : (n : Node) (j : ℕ) → Frames (root t) q n j → j ≤ most_frames q (nodes t)
    bounds n j f = of (frames_container (root t) q f)
      where
        of : (j ≡ 0) ⊎ IsContainer n → j ≤ most_frames q (nodes t)
        of (inl e) = omega arith
        of (inr is) =
            let (w, x, e) = frames_way (root t) q f in
            omega (arith, container_frames_lem (frames q w) is, most_bounds q (nodes t) ((nodes_are t w n).1 x))

    go : (most_frames q (nodes t) ≡ 0) ⊎ Attained q (nodes t) (most_frames q (nodes t)) → Peak t q (most_frames q (nodes t))
    go (inl e) = record { bound = bounds; node = root t; reached = subst (Frames (root t) q (root t)) (sym e) M.start }
    go (inr (v, m, is, e)) = record {
      bound = bounds;
      node = v.node;
      reached = subst (Frames (root t) q v.node) e (way_frames (root t) q ((nodes_are t v.state v.node).0 m) is);
    }

-- and no other number is
pub peak_unique : {t : Tree} {q : List Step} {k k' : ℕ} → Peak t q k → Peak t q k' → k ≡ k'
peak_unique {t} {q} {k} {k'} p p' = omega (arith, p.bound p'.node k' p'.reached, p'.bound p.node k p.reached)
