-- What the descent tells of the links on the way to the value that it found, from that value up.
use Rattle.std.specs.Prelude.{◌≡◌, List, [], ◌∷◌, ◌++◌, Bool, true, false, ℕ, ◌+◌, ◌-◌, ◌≤◌, length, drop, Option, Some, None, Result, Ok, Err}
use Rattle.std.proofs.Math.Option as maybe
use Rattle.std.proofs.Math.Seq.{slice}
use Rattle.json_text.specs.Grammar.{Char, put_chars, Value, Items, put_value, put_items, nesting, items_nesting, Tree, text}
use Rattle.json_text.specs.Points.{points_of}
use Rattle.json_text.specs.Verdict.{max_depth}
use Rattle.paths.specs.Answer.{trail_among}
use Rattle.paths.specs.Trails.{Link, named, placed, Trail, trails, items_trails, trails_of}
use Rattle.scan.specs.Shape.{stopped}
use Rattle.scan.specs.Scans.{kind_if}
use Rattle.seek.specs.declared.After.{After}
use Rattle.seek.specs.declared.keeper.KeptLink.{KeptLink}
use Rattle.seek.specs.declared.keeper.KeptLink.TheVariants.{Position, Name}

-- of an item with these bounds of a name and this position
abbrev pub link_if : (is_object : Bool) (from to position : ℕ) → KeptLink
link_if true x y j = Name x y
link_if false x y j = Position j

-- what is kept is a link: of a name of the record, whose opening quote stands just before its first byte, or of a position
pub data Slot (s : List ℕ) : KeptLink → Link → Type 0 where
  name : {x y : ℕ} (cs : List Char) → 1 ≤ x → x ≤ y → y ≤ length s → slice x y s ≡ put_chars cs [] → Slot s (Name x y) (named (points_of cs) (x - 1))
  position : {j : ℕ} → Slot s (Position j) (placed j)

module _ {K : Type 0} (keeps : K → KeptLink → K → Type 0) (s : List ℕ) where
  -- the links of a trail were kept one by one, the first of them first
  pub data KeepsAll : (before : K) → Trail → (after : K) → Type 0 where
    nothing : {k : K} → KeepsAll k [] k
    one_more : {before between after : K} {u : Trail} {kept : KeptLink} {l : Link} → KeepsAll before u between → Slot s kept l → keeps between kept after
        → KeepsAll before (u ++ (l ∷ [])) after

  -- the trail that was found has these links before u, at most n of them, and they were kept
  pub record Traces (found : maybe.Option Trail) (u : Trail) (n : ℕ) (before after : K) : Type 0 where
    pub links : Trail
    pub found_is : found ≡ maybe.some (links ++ u)
    pub few : length links ≤ n
    pub kept : KeepsAll before links after

  -- where the value that begins at the offset was found in the value at a, which nests at most n deep; and else nothing was kept
  abbrev pub KeepsValue : (offset a n : ℕ) (before after : K) → Result ℕ After → Type 0
  KeepsValue offset a n before after (Ok e) =
      (v : Value) (rest : List ℕ) (u : Trail) → drop a s ≡ put_value v rest → stopped rest ≡ true → nesting v ≤ n
      → Traces (trail_among (trails v u a) offset) u n before after
  KeepsValue offset a n before after (Err place) = after ≡ before

  -- the same of the items of a container whose opening bracket stands just before a
  abbrev pub KeepsInside : (offset a : ℕ) (is_object : Bool) (n : ℕ) (before after : K) → Result ℕ After → Type 0
  KeepsInside offset a is_object n before after (Ok e) =
      (is : Items (kind_if is_object)) (rest : List ℕ) (u : Trail) → drop a s ≡ put_items is rest → items_nesting is ≤ n
      → Traces (trail_among (items_trails is u a) offset) u (n + 1) before after
  KeepsInside offset a is_object n before after (Err place) = after ≡ before

  -- of a record that is taken: the trail of its value that begins at the offset, if one does
  abbrev pub KeepsFrom : (offset : ℕ) (before after : K) → Option ℕ → Type 0
  KeepsFrom offset before after (Some e) =
      (t : Tree) → text t ≡ s → nesting t.value ≤ max_depth → Traces (trail_among (trails_of t) offset) [] max_depth before after
  KeepsFrom offset before after None = after ≡ before
