-- The steps of a query by its bytes, names as they are written: each byte says something of the step that it stands in, and `reading` gathers
-- it from the last byte to the first.
use Rattle.std.specs.Prelude.{List, [], ◌∷◌, Bool, true, false, ◌||◌, ℕ, suc}
use Rattle.query.specs.Grammar.{plain, deep}
use Rattle.query.specs.Steps.{Selector, Step}
use Rattle.query.specs.Steps as S
use Rattle.query.specs.Machine.{Control, root, done, gap, dotted, opened, closing, in_position, inside, in_escape, tail_due, dead, at, step, final}

-- what a byte says of the step that it stands in
pub data Event : Type 0 where
  keep : Event  -- nothing
  begin : Event  -- the step begins here
  deepen : Event  -- it is deep
  every : Event  -- it takes `*`
  position : ℕ → Event  -- it takes this position
  letter : Event  -- this byte is one of its name

-- behind `.` or `..`, and behind an opening bracket
abbrev pub is_dotted : Control → Bool
is_dotted root = false
is_dotted done = false
is_dotted gap = false
is_dotted (dotted d) = true
is_dotted opened = false
is_dotted closing = false
is_dotted (in_position v) = false
is_dotted (inside h) = false
is_dotted (in_escape d q) = false
is_dotted (tail_due p n h) = false

abbrev pub is_opened : Control → Bool
is_opened root = false
is_opened done = false
is_opened gap = false
is_opened (dotted d) = false
is_opened opened = true
is_opened closing = false
is_opened (in_position v) = false
is_opened (inside h) = false
is_opened (in_escape d q) = false
is_opened (tail_due p n h) = false

-- what a byte says that leads behind what a step takes: `*` follows dots or an opening bracket, and a position is whole before the byte
abbrev pub taken_behind : Control → Event
taken_behind root = keep
taken_behind done = keep
taken_behind gap = keep
taken_behind (dotted d) = every
taken_behind opened = every
taken_behind closing = keep
taken_behind (in_position v) = position v
taken_behind (inside h) = keep
taken_behind (in_escape d q) = keep
taken_behind (tail_due p n h) = keep

-- what the byte says that leads from the first control state to the second
abbrev pub event : Control → Control → Event
event c root = keep
event c done = taken_behind c
event c gap = keep
event c (dotted plain) = begin
event c (dotted deep) = deepen
event c opened = elim (is_dotted c || is_opened c) [ true ↦ keep | false ↦ begin ]
event c closing = taken_behind c
event c (in_position v) = keep
event c (inside h) = elim (is_opened c) [ true ↦ keep | false ↦ letter ]
event c (in_escape d q) = letter
event c (tail_due p n h) = letter

-- a step, and the place in the query of the `.` or `[` that begins it
pub record Placed : Type 0 where
  pub place : ℕ
  pub step : Step

-- what bytes say of the step that they stand in, and the steps that begin in them
pub record Ahead : Type 0 where
  pub this : Step
  pub later : List Placed

-- a step with this selector so far, and a name of these bytes
abbrev pub taking : Selector → List Placed → Ahead
taking x l = record { this = record { deep = false; selector = x }; later = l }

abbrev pub named : List ℕ → List Placed → Ahead
named w l = taking (S.name w) l

-- the bytes of its name, if it has one
abbrev pub name_bytes : Selector → List ℕ
name_bytes (S.name w) = w
name_bytes S.every = []
name_bytes (S.position j) = []

-- what is known with one byte more, b at the place n
abbrev pub noted : Event → ℕ → ℕ → Ahead → Ahead
noted keep n b a = a
noted begin n b a = named [] (record { place = n; step = a.this } ∷ a.later)
noted deepen n b a = record { this = record { deep = true; selector = a.this.selector }; later = a.later }
noted every n b a = record { this = record { deep = a.this.deep; selector = S.every }; later = a.later }
noted (position j) n b a = record { this = record { deep = a.this.deep; selector = S.position j }; later = a.later }
noted letter n b a =
    record { this = record { deep = a.this.deep; selector = S.name (b ∷ name_bytes a.this.selector) }; later = a.later }

-- what the bytes say, or the place where they leave the grammar
pub data Reading : Type 0 where
  good : Ahead → Reading
  bad : ℕ → Reading

abbrev pub note : Event → ℕ → ℕ → Reading → Reading
note e n b (good a) = good (noted e n b a)
note e n b (bad p) = bad p

-- the bytes from the place n on, read from a control state
unfoldable pub reading : Control → ℕ → List ℕ → Reading
unfolding step
reading c n [] = elim (final c) [ true ↦ good (named [] []) | false ↦ bad n ]
reading c n (b ∷ s) = elim (step (at c) b) [ dead ↦ bad n | at k ↦ note (event c k) n b (reading k (suc n) s) ]

-- the steps of a reading
abbrev pub steps_read : Reading → List Placed
steps_read (good a) = a.later
steps_read (bad p) = []
