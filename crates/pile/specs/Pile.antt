-- The pile of open containers (document 01, "Marks, frames, the pile"): what is kept for each, and what is still ahead in all of them.
use Rattle.std.specs.Prelude.{◌≡◌, ℕ, ◌+◌, ◌≤◌, Bool, List, map, length, ◌==◌, Option, None, slice_index, slice_index_or, slice_set}
use Rattle.json_text.specs.Grammar.{Kind}
use Rattle.json_text.specs.Verdict.{max_depth}
use Rattle.query.specs.Steps.{Step}
use Rattle.select.specs.Ways.{frame_if}
use Rattle.scan.specs.Scans.{kind_if}
use Rattle.automaton.specs.State.{State, next}
use Rattle.automaton.specs.Tally.{Tally, raised}
use Rattle.automaton.specs.Halves.{finish}
use Rattle.walk.specs.Ahead.{ItemAhead, MoreAhead, ItemsAhead, ValueAhead}
use Rattle.pairs.specs.Pairs.{plus_one}
use Rattle.pile.specs.FrameDepth.{narrowed, depth_in}
use Rattle.pile.specs.declared.Frame.{Frame}
use Rattle.pile.specs.declared.Container.{Container}
use Rattle.pile.specs.declared.Pile.{Pile}

-- nothing is kept
abbrev pub no_frame : Frame
no_frame = record { depth = 0; marks = 0 }

abbrev pub no_container : Container
no_container = record { wait = None; count = 0; bracket = 0 }

-- frame k, and the container at depth d
abbrev pub frame_at : Pile → (k : ℕ) → Frame
frame_at z k = slice_index_or z.frames k no_frame

abbrev pub container_at : Pile → (d : ℕ) → Container
container_at z d = slice_index_or z.containers d no_container

-- the depths in the frames, in 16 bits
abbrev pub levels : Pile → List ℕ
levels z = map (λ (x : Frame). x.depth) z.frames

-- a container kept on the pile: the depth d and the marks m around it in the slot after f frames; its pair, its bracket and the position of
-- its first item at its depth
abbrev pub kept : Pile → (f d m : ℕ) → (wait : Option ℕ) → (bracket : ℕ) → Pile
kept z f d m w b =
    record {
      frames = slice_set z.frames f (record { depth = narrowed d; marks = m });
      containers = slice_set z.containers d (record { wait = w; count = 0; bracket = b });
    }

-- the position j in the container at depth d
abbrev pub counted : Pile → (d j : ℕ) → Pile
counted z d j =
    let o = container_at z d in
    record { frames = z.frames; containers = slice_set z.containers d (record { wait = o.wait; count = j; bracket = o.bracket }) }

pub record Sized (z : Pile) : Type 0 where
  pub frames : length z.frames ≡ max_depth
  pub containers : length z.containers ≡ max_depth

-- an open container: its opening bracket, the position of its item that is ahead or in which the walk stands, its state, the pair that waits
-- for its end, what stands after it, how many levels may be opened in it, the tally once its items are passed and the place after it; and the
-- depth, the frames and the marks around it
pub record Open : Type 0 where
  pub bracket : ℕ
  pub count : ℕ
  pub state : State
  pub wait : Option ℕ
  pub rest : List ℕ
  pub room : ℕ
  pub inner : Tally
  pub end : ℕ
  pub depth : ℕ
  pub frames : ℕ
  pub marks : ℕ

abbrev pub kind_at : ℕ → Kind
kind_at b = kind_if (b == 0x7B)

-- a container whose marks are those around it has no frame; any other has the topmost
pub data Framed (z : Pile) (o : Open) (f m : ℕ) : Type 0 where
  shared : f ≡ o.frames → m ≡ o.marks → Framed z o f m
  own : f ≡ o.frames + 1 → depth_in (levels z) o.frames ≡ o.depth → (frame_at z o.frames).marks ≡ o.marks → Framed z o f m

-- the pile holds the container o, inside which the depth is d, the frames are f and the marks m
pub record Level (z : Pile) (o : Open) (d f m : ℕ) : Type 0 where
  pub depth : d ≡ o.depth + 1
  pub fits : d + o.room ≤ max_depth
  pub frames : f ≡ o.state.frames
  pub marks : m ≡ o.state.marks
  pub wait : (container_at z o.depth).wait ≡ o.wait
  pub bracket : (container_at z o.depth).bracket ≡ o.bracket
  pub count : (container_at z o.depth).count ≡ o.count
  pub frame : Framed z o f m

-- in a record s, with the steps x of a query; all that is ahead comes to the tally whole
module _ (x : List Step) (s : List ℕ) (whole : Tally) (z : Pile) where
  -- a value has been passed at place i with the tally t, at depth d: the root, and nothing is ahead; or an item of the innermost container,
  -- after which more of it is ahead, the end of its own pair, and then what is ahead where it has been passed itself
  pub data ValuePassed : (i : ℕ) → Tally → (d f m : ℕ) → Type 0 where
    root : {i : ℕ} {t : Tally} {d f m : ℕ} → Sized z → d ≡ 0 → f ≡ 0 → t ≡ whole → ValuePassed i t d f m
    item : {i : ℕ} {t : Tally} {d f m : ℕ} (o : Open) → Level z o d f m
        → MoreAhead (next x) s o.rest (kind_at o.bracket) o.state o.room o.inner o.end i (o.count + 1) t
        → ValuePassed o.end (finish (plus_one o.wait) o.end o.inner) o.depth o.frames o.marks → ValuePassed i t d f m

  -- what is ahead after the container o
  abbrev pub After : Open → Type 0
  After o = ValuePassed o.end (finish (plus_one o.wait) o.end o.inner) o.depth o.frames o.marks

  -- an item of the innermost container is ahead
  pub record ItemDue (i : ℕ) (t : Tally) (d f m : ℕ) : Type 0 where
    pub o : Open
    pub level : Level z o d f m
    pub ahead : ItemAhead (next x) s o.rest (kind_at o.bracket) o.state o.room o.inner o.end i o.count t
    pub after : After o

  -- a value is ahead, with the marks m', picked out or not
  pub record ValueDue (i : ℕ) (t : Tally) (m' : ℕ) (p : Bool) (d f m : ℕ) : Type 0 where
    pub state : State
    pub rest : List ℕ
    pub room : ℕ
    pub goal : Tally
    pub end : ℕ
    pub fits : d + room ≤ max_depth
    pub marks_are : state.marks ≡ m'
    pub picked_is : state.picked ≡ p
    pub frames_are : state.frames ≡ frame_if (m == m') f
    pub ahead : ValueAhead (next x) s rest state room goal end i t
    pub after : ValuePassed end goal d f m

  -- a container with the marks m' has its opening bracket at place i; its pair, which waits for its end, is begun
  pub record ContainerDue (i : ℕ) (t : Tally) (w : Option ℕ) (m' : ℕ) (d f m : ℕ) : Type 0 where
    pub state : State
    pub rest : List ℕ
    pub room : ℕ
    pub inner : Tally
    pub end : ℕ
    pub fits : d + 1 + room ≤ max_depth
    pub marks_are : state.marks ≡ m'
    pub frames_are : state.frames ≡ frame_if (m == m') f
    pub ahead : ItemsAhead (next x) s rest (kind_at (slice_index s i)) state room inner end (i + 1) (raised state.frames t)
    pub after : ValuePassed end (finish (plus_one w) end inner) d f m
