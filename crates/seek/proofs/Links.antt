-- What is kept of an item, the bounds of its name or its position, is the link of the item. Assumes nothing.
use mathlib.Core.Path.{◌≡◌, subst}
use mathlib.Core.Bool.{Bool, true, false}
use mathlib.Core.List.{List}
use Prim.Native.Nat.{ℕ, ◌-◌, ◌≤◌}
use native.Mathlib.Omega.{arith}
use lib.ListN.{length}
use Rattle.json_text.specs.Grammar.{Key}
use Rattle.json_text.specs.Points.{points_of}
use Rattle.paths.specs.Trails.{named, link_of}
use Rattle.scan.specs.Scans.{kind_if, NameAt, QuoteAt}
use Rattle.seek.specs.Keeps.{link_if, Slot, name, position}

-- the item number j, whose name, in an object, stands from x to y behind the quote at q
pub item_slot : (s : List ℕ) (is_object : Bool) (key : Key (kind_if is_object)) (j q x y : ℕ) → x ≤ y → y ≤ length s
    → NameAt (kind_if is_object) key s x y → QuoteAt (kind_if is_object) q x
    → Slot s (link_if is_object x y j) (link_of (kind_if is_object) key j q)
unfolding link_of
item_slot s true key j q x y h l e p =
    let z : x - 1 ≡ q = omega arith in
    subst (λ (i : ℕ). Slot s (link_if true x y j) (named (points_of key.chars) i)) z (name key.chars (omega arith) h l e)
item_slot s false key j q x y h l e p = position
