-- What a walk tallies as it visits nodes: the lent list, the pairs used in it, the most frames, and where it had no pair left.
use Rattle.std.specs.Prelude.{List, [], ◌∷◌, Bool, true, false, ℕ, zero, suc, ◌+◌, ◌*◌, max, ltb, set}
use Rattle.select.specs.Nodes.{Node, end_of}
use Rattle.select.specs.Visits.{Visit}
use Rattle.select.specs.Ways.{container_frames}
use Rattle.answers.specs.Lister.{pairs_of}
use Rattle.automaton.specs.State.{State}

pub record Tally : Type 0 where
  pub list : List ℕ
  pub used : ℕ
  pub peak : ℕ
  -- one more than the first byte of the first node left over, or 0
  pub stop : ℕ

-- first byte and end into pair number i
unfoldable pub set_pair : List ℕ → (i first end : ℕ) → List ℕ
set_pair l i a e = set (set l (i * 2) a) (i * 2 + 1) e

-- a node that is picked out takes the next pair; where none is left the tally stops, and nothing changes after a stop
unfoldable pub list_if_room : Bool → Tally → Node → Tally
unfolding set_pair end_of
list_if_room true t n = record { list = set_pair t.list t.used n.first (end_of n); used = t.used + 1; peak = t.peak; stop = t.stop }
list_if_room false t n = record { list = t.list; used = t.used; peak = t.peak; stop = n.first + 1 }

unfoldable pub list_if_picked : Bool → Tally → Node → Tally
unfolding list_if_room pairs_of
list_if_picked true t n = list_if_room (ltb t.used (pairs_of t.list)) t n
list_if_picked false t n = t

unfoldable pub list_from : ℕ → Bool → Tally → Node → Tally
unfolding list_if_picked
list_from zero p t n = list_if_picked p t n
list_from (suc s) p t n = t

unfoldable pub listed : Bool → Tally → Node → Tally
unfolding list_from
listed p t n = list_from t.stop p t n

-- k frames count for the peak, unless the tally has stopped
unfoldable pub raise_from : ℕ → ℕ → Tally → Tally
raise_from zero k t = record { list = t.list; used = t.used; peak = max t.peak k; stop = t.stop }
raise_from (suc s) k t = t

unfoldable pub raised : ℕ → Tally → Tally
unfolding raise_from
raised k t = raise_from t.stop k t

-- one visit: the node is listed if it is picked out, and a container's frames count
unfoldable pub put : Tally → Visit State → Tally
unfolding listed raised container_frames
put t v = raised (container_frames v.node.value v.state.frames) (listed v.state.picked t v.node)

-- the visits, one after the other
unfoldable pub tallied : Tally → List (Visit State) → Tally
unfolding put
tallied t [] = t
tallied t (v ∷ vs) = tallied (put t v) vs

-- before the first visit
unfoldable pub fresh : List ℕ → Tally
fresh l = record { list = l; used = 0; peak = 0; stop = 0 }
