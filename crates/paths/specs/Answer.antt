-- What the writer of a node's path answers, and what its buffer holds afterwards (change request S-4), as functions of its three arguments.
use Rattle.std.specs.Prelude.{◌≡◌, List, [], ◌∷◌, ◌++◌, map, reverse, Bool, true, false, ◌&&◌, ◌||◌, ℕ, zero, suc, eqb, leb, length, drop}
use Rattle.std.proofs.Math.Option.{Option, some, none}
use Rattle.encoding.specs.Verdict.{Verdict, taken, refused}
use Rattle.json_text.specs.Grammar.{Tree}
use Rattle.json_text.specs.TreeOf.{tree_of}
use Rattle.select.specs.Visits.{Visit}
use Rattle.answers.specs.Lister.{or_else}
use Rattle.answers.specs.Finder.{find_verdict}
use Rattle.paths.specs.Rendered.{path_text}
use Rattle.paths.specs.Trails.{Link, named, placed, link_label, Trail, trails_of}

-- the trail of the node that begins at the offset, if one does
unfoldable pub trail_among : List (Visit Trail) → ℕ → Option Trail
trail_among [] at = none
trail_among (v ∷ vs) at = elim (eqb v.node.first at) [ true ↦ some v.state | false ↦ trail_among vs at ]

unfoldable pub trail_at : Option Tree → ℕ → Option Trail
unfolding trail_among trails_of
trail_at none at = none
trail_at (some t) at = trail_among (trails_of t) at

unfoldable pub trail_in : («record» : List ℕ) → ℕ → Option Trail
unfolding trail_at tree_of
trail_in r at = trail_at (tree_of r) at

-- the path of the node with this trail
unfoldable pub path_of : Trail → List ℕ
unfolding path_text link_label
path_of u = path_text (map link_label (reverse u))

-- half of a surrogate pair
abbrev pub is_half_of : ℕ → Bool
is_half_of n = leb 0xD800 n && leb n 0xDFFF

-- some half is among these
unfoldable pub has_half : List ℕ → Bool
has_half [] = false
has_half (n ∷ ns) = is_half_of n || has_half ns

-- the opening quote of the outermost name with half of a pair, if there is one
unfoldable pub or_half : Option ℕ → Link → Option ℕ
unfolding has_half
or_half (some q) l = some q
or_half none (named k q) = elim (has_half k) [ true ↦ some q | false ↦ none ]
or_half none (placed j) = none

unfoldable pub first_half : Trail → Option ℕ
unfolding or_half
first_half [] = none
first_half (l ∷ u) = or_half (first_half u) l

-- ground 9
unfoldable pub half_verdict : Option ℕ → Verdict
half_verdict none = taken
half_verdict (some q) = refused 9 q

-- ground 10: the path is longer than the buffer
unfoldable pub room_verdict : (size room offset : ℕ) → Verdict
room_verdict n room at = elim (leb n room) [ true ↦ taken | false ↦ refused 10 at ]

unfoldable pub trail_verdict : Option Trail → (offset room : ℕ) → Verdict
unfolding or_else half_verdict first_half room_verdict path_of
trail_verdict none at room = taken
trail_verdict (some u) at room = or_else (half_verdict (first_half u)) (room_verdict (length (path_of u)) room at)

-- all grounds: those of the value finder, and then 9 and 10
unfoldable pub path_verdict : («record» : List ℕ) (offset room : ℕ) → Verdict
unfolding or_else find_verdict trail_verdict trail_in
path_verdict r at room = or_else (find_verdict r at) (trail_verdict (trail_in r at) at room)

-- what is written: the path, and nothing on refusal
unfoldable pub path_if : ℕ → Option Trail → List ℕ
unfolding path_of
path_if zero none = []
path_if zero (some u) = path_of u
path_if (suc g) x = []

unfoldable pub path_written : («record» : List ℕ) (offset room : ℕ) → List ℕ
unfolding path_if path_verdict trail_in
path_written r at room = path_if (path_verdict r at room).ground (trail_in r at)

-- the promise: ground, place and length, and the whole buffer afterwards
pub record WritesPath («record» : List ℕ) (offset : ℕ) (before after : List ℕ) (ground : ℕ) (place size : ℕ) : Type 0 where
  pub ground_is : ground ≡ (path_verdict «record» offset (length before)).ground
  pub place_is : place ≡ (path_verdict «record» offset (length before)).place
  pub size_is : size ≡ length (path_written «record» offset (length before))
  pub buffer_is : after ≡ path_written «record» offset (length before) ++ drop size before
