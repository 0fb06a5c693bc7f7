-- The state that a walk carries down: the marks of a node as the bits of one number, whether the node is picked out, and the frames on the way to it.
use Rattle.std.specs.Prelude.{List, Bool, false, ◌&&◌, ◌||◌, ℕ, zero, suc, eqb, length}
use Rattle.std.proofs.Math.ListN.{get_elem?}
use Rattle.bits.specs.Bits.{bit, number}
use Rattle.query.specs.Steps.{Step, is_deep}
use Rattle.select.specs.Nodes.{Label}
use Rattle.select.specs.Visits.{Way}
use Rattle.select.specs.MarksStep.{step_hits}
use Rattle.select.specs.Ways.{mark, picks, frame_if, frames}

pub record State : Type 0 where
  pub marks : ℕ
  pub picked : Bool
  pub frames : ℕ

-- mark i + 1 of a child: its parent has mark i and step i + 1 takes it, or its parent has mark i + 1 and step i + 2 is deep
unfoldable pub next_mark : List Step → ℕ → Label → ℕ → Bool
unfolding bit step_hits
next_mark q m l zero = is_deep (get_elem? q 0) && bit 0 m
next_mark q m l (suc i) = (step_hits (get_elem? q i) l && bit i m) || (is_deep (get_elem? q (suc i)) && bit (suc i) m)

unfoldable pub next_marks : List Step → ℕ → Label → ℕ
unfolding number next_mark
next_marks q m l = number (length q) (next_mark q m l)

-- a child is picked out: its parent has the last of n marks, and step n takes it
unfoldable pub pick_at : List Step → ℕ → Label → (n : ℕ) → Bool
unfolding bit step_hits
pick_at q m l zero = false
pick_at q m l (suc i) = step_hits (get_elem? q i) l && bit i m

unfoldable pub next_picked : List Step → ℕ → Label → Bool
unfolding pick_at
next_picked q m l = pick_at q m l (length q)

-- from a node to its child with this label
unfoldable pub next : List Step → State → Label → State
unfolding next_marks next_picked frame_if
next q s l =
    record {
      marks = next_marks q s.marks l;
      picked = next_picked q s.marks l;
      frames = frame_if (eqb s.marks (next_marks q s.marks l)) s.frames;
    }

-- the state of the node at this way
unfoldable pub state_at : List Step → Way → State
unfolding number mark picks frames
state_at q w = record { marks = number (length q) (λ i. mark q i w); picked = picks q w; frames = frames q w }

-- at the root: mark 0 where there is a step, picked out where there is none
unfoldable pub start : List Step → State
unfolding number
start q = record { marks = number (length q) (λ i. eqb i 0); picked = eqb (length q) 0; frames = 0 }
