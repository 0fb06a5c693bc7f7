-- The containers around a place as the record grammar's stack, and the room that is left (document 01, ground 6).
use Rattle.std.specs.Prelude.{◌≡◌, List, [], ◌∷◌, Bool, true, false, ℕ, ◌-◌, ◌≤◌, ◌<◌, length, map, reverse, take, Option, Some, None}
use Rattle.json_text.specs.Grammar as grammar
use Rattle.json_text.specs.Grammar.{array, object}
use Rattle.json_text.specs.Room.{Room, left}
use Rattle.json_text.specs.Machine.{Stack, pop}
use Rattle.json_text.specs.Verdict.{max_depth}
use Rattle.validate.specs.declared.nest.Kind.{Kind}
use Rattle.validate.specs.declared.nest.Kind.TheVariants.{Array, Object}

abbrev pub kind_of : Kind → grammar.Kind
kind_of Array = array
kind_of Object = object

-- the kinds of the first so many, the innermost first
abbrev pub stack_of : List Kind → ℕ → Stack
stack_of kinds depth = reverse (map kind_of (take depth kinds))

-- the room that is left in containers
abbrev pub room_in : Stack → Room
room_in k = left (max_depth - length k)

-- whether there is none
abbrev pub Full : Stack → Bool → Type 0
Full k true = max_depth ≤ length k
Full k false = length k < max_depth

-- the kind of the innermost container, or that there is none
abbrev pub Innermost : Stack → Option Kind → Type 0
Innermost k (Some x) = k ≡ kind_of x ∷ pop k
Innermost k None = k ≡ []
