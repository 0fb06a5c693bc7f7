-- The pile stays as it is below what is written, and its topmost frame is the innermost container's where that has one of its own:
-- the depths in its frames rise, so an older frame is never taken for it. Assumes nothing.
use Rattle.std.specs.Prelude.{◌≡◌, Option, ℕ, ◌+◌, ◌<◌, ◌≤◌, Bool, true, false, List, length, replicate, ◌==◌}
use Rattle.std.proofs.Math.Path.{refl}
use Rattle.std.proofs.Common.{sym, ap, ◌∙◌, arith, length-set, get_or-set_same, get_or-set_other, eqb-true}
use Rattle.std.proofs.lemmas.List.{length-map, length-replicate, map-set}
use Rattle.query.specs.Steps.{Step}
use Rattle.json_text.specs.Verdict.{max_depth}
use Rattle.select.specs.Ways.{frame_if}
use Rattle.automaton.specs.Tally.{Tally}
use Rattle.pile.specs.FrameDepth.{narrowed, widened, depth_in}
use Rattle.pile.proofs.Frames.{depth_at}
use Rattle.pile.proofs.FrameDepthLaws.{frame_depth}
use Rattle.pile.specs.declared.Frame.{Frame}
use Rattle.pile.specs.declared.Container.{Container}
use Rattle.pile.specs.declared.Pile.{Pile}
use Rattle.pile.specs.Pile.{no_frame, no_container, frame_at, container_at, levels, kept, counted, Sized, Open, Framed, shared, own, Level, ValuePassed, root, item}
use Rattle.pile.specs.Moves.{Pops, other, topmost}

-- the pile before the walk
abbrev pub clear : Pile
clear = record { frames = replicate max_depth no_frame; containers = replicate max_depth no_container }

pub clear_sized : Sized clear
clear_sized = record { frames = length-replicate {A = Frame} max_depth no_frame; containers = length-replicate {A = Container} max_depth no_container }

pub pops_few : {z : Pile} {f d m f' m' : ℕ} → Pops z f d m f' m' → f' ≤ f
pops_few (other n) = omega arith
pops_few (topmost k e x) = omega arith

framed_few : {z : Pile} {o : Open} {d f m : ℕ} → Framed z o f m → o.frames ≤ o.depth → d ≡ o.depth + 1 → f ≤ d
framed_few (shared e1 e2) h e = omega arith
framed_few (own e1 e2 e3) h e = omega arith

framed_top : {z : Pile} {o : Open} {d f m : ℕ} (k : ℕ) → f ≡ k + 1 → Framed z o f m
    → (o.frames ≡ k + 1 → depth_in (levels z) k < o.depth) → d ≡ o.depth + 1 → depth_in (levels z) k < d
framed_top k e (shared e1 e2) h g = omega (arith, h (omega arith))
framed_top {z} {o} k e (own e1 e2 e3) h g = let j : o.frames ≡ k = omega arith in omega (arith, ap (depth_in (levels z)) j)

framed_popped : {z : Pile} {o : Open} {f m f' m' : ℕ} → Framed z o f m → ((k : ℕ) → o.frames ≡ k + 1 → depth_in (levels z) k < o.depth)
    → Pops z f o.depth m f' m' → (f' ≡ o.frames) × (m' ≡ o.marks)
framed_popped (shared e1 e2) h (other n) = (e1, e2)
framed_popped (shared e1 e2) h (topmost k e g) = absurd (omega (arith, h k (omega arith)))
framed_popped (own e1 e2 e3) h (other n) = absurd (n _ e1 e2)
framed_popped {z} {o} (own e1 e2 e3) h (topmost k e g) =
    let j : k ≡ o.frames = omega arith in
    (j, ap (λ (y : ℕ). (frame_at z y).marks) j ∙ e3)

module _ {x : List Step} {s : List ℕ} {whole : Tally} {z : Pile} where
  pub passed_sized : {i : ℕ} {t : Tally} {d f m : ℕ} → ValuePassed x s whole z i t d f m → Sized z
  passed_sized (root h e1 e2 e3) = h
  passed_sized (item o l a p) = passed_sized p

  -- there are no more frames than open containers
  pub passed_few : {i : ℕ} {t : Tally} {d f m : ℕ} → ValuePassed x s whole z i t d f m → f ≤ d
  passed_few (root h e1 e2 e3) = omega arith
  passed_few (item o l a p) = framed_few l.frame (passed_few p) l.depth

  -- the depth in the topmost frame is that of an open container
  passed_top : {i : ℕ} {t : Tally} {d f m : ℕ} (k : ℕ) → f ≡ k + 1 → ValuePassed x s whole z i t d f m → depth_in (levels z) k < d
  passed_top k e (root h e1 e2 e3) = absurd (omega arith)
  passed_top k e (item o l a p) = framed_top k e l.frame (λ g. passed_top k g p) l.depth

  -- what the pile gives when the innermost container is left is what was around it
  pub popped : {o : Open} {i : ℕ} {t : Tally} {d f m f' m' : ℕ} → Level z o d f m → ValuePassed x s whole z i t o.depth o.frames o.marks
      → Pops z f o.depth m f' m' → (f' ≡ o.frames) × (m' ≡ o.marks)
  popped l p q = framed_popped l.frame (λ k e. passed_top k e p) q

-- two piles that agree in the first f frames and below depth d hold the same open containers there
record Agree (z z' : Pile) (f d : ℕ) : Type 0 where
  frames : (k : ℕ) → k < f → frame_at z' k ≡ frame_at z k
  containers : (k : ℕ) → k < d → container_at z' k ≡ container_at z k
  sized : Sized z → Sized z'

module _ {z z' : Pile} {f d : ℕ} (same : Agree z z' f d) where
  framed_as : {o : Open} {f' m' : ℕ} → f' ≤ f → Framed z o f' m' → Framed z' o f' m'
  framed_as h (shared e1 e2) = shared e1 e2
  framed_as {o} h (own e1 e2 e3) =
      let e = same.frames o.frames (omega arith) in
      own e1 (depth_at z' _ ∙ ap (λ (x : Frame). widened x.depth) e ∙ sym (depth_at z _) ∙ e2) (ap (λ (x : Frame). x.marks) e ∙ e3)

  level_as : {o : Open} {d' f' m' : ℕ} → f' ≤ f → d' ≤ d → Level z o d' f' m' → Level z' o d' f' m'
  level_as {o} h g l =
      let e = same.containers o.depth (omega (arith, l.depth)) in
      record {
        depth = l.depth;
        fits = l.fits;
        frames = l.frames;
        marks = l.marks;
        wait = ap (λ (x : Container). x.wait) e ∙ l.wait;
        bracket = ap (λ (x : Container). x.bracket) e ∙ l.bracket;
        count = ap (λ (x : Container). x.count) e ∙ l.count;
        frame = framed_as h l.frame;
      }

  framed_below : {o : Open} {f' m' : ℕ} → Framed z o f' m' → f' ≤ f → o.frames ≤ f
  framed_below (shared e1 e2) h = omega arith
  framed_below (own e1 e2 e3) h = omega arith

  passed_as : {x : List Step} {s : List ℕ} {whole : Tally} {i : ℕ} {t : Tally} {d' f' m' : ℕ} → f' ≤ f → d' ≤ d
      → ValuePassed x s whole z i t d' f' m' → ValuePassed x s whole z' i t d' f' m'
  passed_as h g (root y e1 e2 e3) = root (same.sized y) e1 e2 e3
  passed_as h g (item o l a p) = item o (level_as h g l) a (passed_as (framed_below l.frame h) (omega (arith, l.depth)) p)

-- a container that is kept above the pile leaves what is below
kept_agrees : (z : Pile) (f d m : ℕ) (w : Option ℕ) (b : ℕ) → Agree z (kept z f d m w b) f d
kept_agrees z f d m w b =
    let frame : Frame = record { depth = narrowed d; marks = m } in
    let container : Container = record { wait = w; count = 0; bracket = b } in
    record {
      frames = λ k h. get_or-set_other z.frames f k frame no_frame (λ e. omega arith);
      containers = λ k h. get_or-set_other z.containers d k container no_container (λ e. omega arith);
      sized = λ h.
          record {
            frames = length-set z.frames f frame ∙ h.frames;
            containers = length-set z.containers d container ∙ h.containers;
          };
    }

pub passed_kept : {z : Pile} (f d m : ℕ) (w : Option ℕ) (b : ℕ) {x : List Step} {s : List ℕ} {whole : Tally} {i : ℕ} {t : Tally} {d' f' m' : ℕ} → f' ≤ f → d' ≤ d
    → ValuePassed x s whole z i t d' f' m' → ValuePassed x s whole (kept z f d m w b) i t d' f' m'
passed_kept {z} f d m w b h g p = passed_as (kept_agrees z f d m w b) h g p

-- a position that is counted leaves the containers around, and the frames
counted_agrees : (z : Pile) (f d j : ℕ) → Agree z (counted z d j) f d
counted_agrees z f d j =
    let o = container_at z d in
    let container : Container = record { wait = o.wait; count = j; bracket = o.bracket } in
    record {
      frames = λ k h. refl;
      containers = λ k h. get_or-set_other z.containers d k container no_container (λ e. omega arith);
      sized = λ h. record { frames = h.frames; containers = length-set z.containers d container ∙ h.containers };
    }

pub passed_counted : {z : Pile} (d j : ℕ) {x : List Step} {s : List ℕ} {whole : Tally} {i : ℕ} {t : Tally} {f m : ℕ}
    → ValuePassed x s whole z i t d f m → ValuePassed x s whole (counted z d j) i t d f m
passed_counted {z} d j {f = f} p = passed_as (counted_agrees z f d j) (omega arith) (omega arith) p

-- the container o with the item at position j ahead
abbrev pub at_position : Open → ℕ → Open
at_position o j =
    record {
      bracket = o.bracket;
      count = j;
      state = o.state;
      wait = o.wait;
      rest = o.rest;
      room = o.room;
      inner = o.inner;
      end = o.end;
      depth = o.depth;
      frames = o.frames;
      marks = o.marks;
    }

framed_counted : {z : Pile} {o : Open} {f m : ℕ} (j : ℕ) → Framed z o f m → Framed (counted z o.depth j) (at_position o j) f m
framed_counted j (shared e1 e2) = shared e1 e2
framed_counted j (own e1 e2 e3) = own e1 e2 e3

pub level_counted : {z : Pile} {o : Open} {d f m : ℕ} (j : ℕ) → Sized z → Level z o d f m → Level (counted z o.depth j) (at_position o j) d f m
level_counted {z} {o} j y l =
    let old = container_at z o.depth in
    let container : Container = record { wait = old.wait; count = j; bracket = old.bracket } in
    let e : container_at (counted z o.depth j) o.depth ≡ container =
    get_or-set_same z.containers o.depth container no_container (omega (arith, y.containers, l.depth, l.fits)) in
    record {
      depth = l.depth;
      fits = l.fits;
      frames = l.frames;
      marks = l.marks;
      wait = ap (λ (x : Container). x.wait) e ∙ l.wait;
      bracket = ap (λ (x : Container). x.bracket) e ∙ l.bracket;
      count = ap (λ (x : Container). x.count) e;
      frame = framed_counted j l.frame;
    }

-- and it is on the pile then
module _ (z : Pile) (o : Open) where
  abbrev with_open : Pile
  with_open = kept z o.frames o.depth o.marks o.wait o.bracket

  framed_new : (m : ℕ) → o.frames < length z.frames → o.depth ≤ max_depth → Framed with_open o (frame_if (o.marks == m) o.frames) m
  unfolding frame_if
  framed_new m h y = go (o.marks == m) refl
    where
      frame : Frame
      frame = record { depth = narrowed o.depth; marks = o.marks }

      top : frame_at with_open o.frames ≡ frame
      top = get_or-set_same z.frames o.frames frame no_frame h

      go : (b : Bool) → (o.marks == m) ≡ b → Framed with_open o (frame_if b o.frames) m
      go true e = shared refl (sym (eqb-true o.marks m e))
      go false e =
          own refl
          (ap (λ (l : List ℕ). depth_in l o.frames) (map-set (λ (x : Frame). x.depth) z.frames o.frames frame)
          ∙ frame_depth (levels z) o.frames o.depth (rw (length-map z.frames (λ (x : Frame). x.depth)) h) y)
          (ap (λ (x : Frame). x.marks) top)

  pub level_new : (f m : ℕ) → Sized z → o.count ≡ 0 → o.frames ≤ o.depth → o.depth + 1 + o.room ≤ max_depth
      → f ≡ o.state.frames → m ≡ o.state.marks → f ≡ frame_if (o.marks == m) o.frames → Level with_open o (o.depth + 1) f m
  level_new f m y e0 h g e1 e2 e3 =
      let container : Container = record { wait = o.wait; count = 0; bracket = o.bracket } in
      let e : container_at with_open o.depth ≡ container =
      get_or-set_same z.containers o.depth container no_container (omega (arith, y.containers)) in
      record {
        depth = refl;
        fits = g;
        frames = e1;
        marks = e2;
        wait = ap (λ (x : Container). x.wait) e;
        bracket = ap (λ (x : Container). x.bracket) e;
        count = ap (λ (x : Container). x.count) e ∙ sym e0;
        frame = rw e3 (framed_new m (omega (arith, y.frames)) (omega arith));
      }
