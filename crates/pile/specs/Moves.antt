-- What the functions on a standing and the pile promise.
use Rattle.std.specs.Prelude.{◌≡◌, ℕ, ◌+◌, ◌-◌, ◌%◌, ◌^◌, Bool, true, false, ◌⊎◌, List, ◌≢◌, Option, is_some}
use Rattle.automaton.specs.Halves.{end_pair}
use Rattle.pairs.specs.Pairs.{plus_one}
use Rattle.walk.specs.declared.Coming.{Coming}
use Rattle.pile.specs.FrameDepth.{depth_in}
use Rattle.pile.specs.Pile.{levels, frame_at, container_at, kept, counted}
use Rattle.pile.specs.declared.Pile.{Pile}
use Rattle.pile.specs.declared.Standing.{Standing}

-- the frames and the marks around a container at depth d that is left: those of the topmost frame where its depth is the container's
pub data Pops (z : Pile) (f d m : ℕ) : (f' m' : ℕ) → Type 0 where
  other : ((k : ℕ) → f ≡ k + 1 → depth_in (levels z) k ≢ d) → Pops z f d m f m
  topmost : (k : ℕ) → f ≡ k + 1 → depth_in (levels z) k ≡ d → Pops z f d m k (frame_at z k).marks

-- the innermost container is left
pub record Leaves (z : Pile) (a r : Standing) : Type 0 where
  pub pops : Pops z a.frames (a.depth - 1) a.marks r.frames r.marks
  pub is : r ≡ record { at = a.at; depth = a.depth - 1; frames = r.frames; counts = a.counts; marks = r.marks; item = a.item }

-- one item more is counted at depth d; a count that has no room for one more begins anew, which no record comes to
pub record CountsOn (z : Pile) (d : ℕ) (z' : Pile) : Type 0 where
  pub is : z' ≡ counted z d (((container_at z d).count + 1) % 2 ^ 32)

-- the walk ends at place i, where no tree explains the bytes
pub record Lost (i : ℕ) (a r : Standing) : Type 0 where
  pub is : r ≡ record { at = i + 1; depth = 0; frames = a.frames; counts = a.counts; marks = a.marks; item = false }

-- past a value that ends at place e, which goes into the pair that waits
pub record PassedTo (list list' : List ℕ) (w : Option ℕ) (e : ℕ) (a r : Standing) : Type 0 where
  pub list_is : list' ≡ end_pair (plus_one w) e list
  pub is : r ≡ record { at = e; depth = a.depth; frames = a.frames; counts = a.counts; marks = a.marks; item = false }

-- in the container v with the opening bracket b, at its first item at place e, with f frames; w is the pair that waits for its end
pub record EnteredAt (z z' : Pile) (b e : ℕ) (w : Option ℕ) (f : ℕ) (v : Coming) (a r : Standing) : Type 0 where
  pub pile_is : z' ≡ kept z a.frames a.depth a.marks w b
  pub is : r ≡ record { at = e; depth = a.depth + 1; frames = f; counts = a.counts; marks = v.marks; item = true }

-- nothing in a container counts any more: it has no marks and is dead (document 01, "Marks, frames, the pile"), or the list is full
abbrev pub Idle : (marks : ℕ) → (stop : Option ℕ) → Type 0
Idle m stop = (m ≡ 0) ⊎ (is_some stop ≡ true)

-- exactly such a container is passed without a look inside
pub record Skipped (m : ℕ) (stop : Option ℕ) (r : Bool) : Type 0 where
  pub only : r ≡ true → Idle m stop
  pub all : Idle m stop → r ≡ true
