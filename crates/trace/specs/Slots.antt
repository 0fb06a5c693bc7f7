-- The slots in which the links on the way to a value are kept, as a list: the last link on the way is its first one.
use Rattle.std.specs.Prelude.{◌≡◌, List, [], ◌∷◌, ◌++◌, ℕ, ◌≤◌, ◌<◌, length}
use Rattle.json_text.specs.Verdict.{max_depth}
use Rattle.paths.specs.Trails.{Link, Trail}
use Rattle.seek.specs.declared.keeper.KeptLink.{KeptLink}
use Rattle.seek.specs.Keeps.{Slot}

-- a link is put behind the others, if there is a slot for it, and else they are as they were
abbrev pub Puts : (before : List KeptLink) → KeptLink → (after : List KeptLink) → Type 0
Puts before kept after = (length before < max_depth → after ≡ before ++ (kept ∷ [])) × (max_depth ≤ length before → after ≡ before)

-- what is kept are the links of a trail
pub data HoldsTrail (s : List ℕ) : List KeptLink → Trail → Type 0 where
  none : HoldsTrail s [] []
  more : {kept : KeptLink} {slots : List KeptLink} {l : Link} {u : Trail} → Slot s kept l → HoldsTrail s slots u → HoldsTrail s (kept ∷ slots) (l ∷ u)
