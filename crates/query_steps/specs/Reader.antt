-- What reading one step of a query answers: by the grammar, and against the reading of the whole query.
use Rattle.std.specs.Prelude.{◌≡◌, List, [], ◌∷◌, Bool, true, false, ℕ, suc, ◌+◌, ◌-◌, ◌≤◌, ◌<◌, Result, Ok, Err, length, drop}
use Rattle.std.proofs.Math.Seq.{slice}
use Rattle.query_steps.specs.declared.Found.{Found}
use Rattle.query_steps.specs.declared.Taking.{Taking}
use Rattle.query_steps.specs.declared.Taking.TheVariants.{Every, Name, Position}
use Rattle.encoding.specs.Bytes.{Blanks, put_blanks}
use Rattle.encoding.specs.Prefix.{DeadPlace}
use Rattle.encoding.specs.declared.Dead.{Dead}
use Rattle.query.specs.Grammar.{quote_byte, Depth, plain, deep, Segment, Spaced, QueryText, put_dots, put_deep, put_segment, put_spaced}
use Rattle.query.specs.Grammar.{max_position}
use Rattle.query.specs.Steps as S
use Rattle.query.specs.Steps.{Selector}
use Rattle.query.specs.Machine.{Control, root, done, gap, dotted, opened, closing, in_position, inside, in_escape, tail_due, short, quoted}
use Rattle.query.specs.Read.{Placed, taking, named, Reading, good, bad, reading}
use Rattle.query.specs.Written.{segment_written}

-- the depth that is deep or not
abbrev pub depth_of : Bool → Depth
depth_of true = deep
depth_of false = plain

-- `*`; the name that stands from one place of the query to another; or a position
abbrev pub selector_at : List ℕ → Taking → Selector
selector_at q Every = S.every
selector_at q (Name a b) = S.name (slice a b q)
selector_at q (Position j) = S.position j

-- the step that was found
abbrev pub placed_at : List ℕ → Found → Placed
placed_at q f = record { place = f.place; step = record { deep = f.deep; selector = selector_at q f.taking } }

-- of a step between two places of the query: its name stands there, and its position is at most the largest that a query can have
abbrev pub Bounded : ℕ → ℕ → Taking → Type 0
Bounded n m Every = Unit {0}
Bounded n m (Name a b) = (n ≤ a) × (a ≤ b) × (b ≤ m)
Bounded n m (Position j) = j ≤ max_position

-- the step that is being read takes this, and then the others
abbrev pub choose : Selector → Reading → Reading
choose x (good a) = good (taking x a.later)
choose x (bad p) = bad p

-- this step, and then the others
abbrev pub push : Placed → Reading → Reading
push x (good a) = good (named [] (x ∷ a.later))
push x (bad p) = bad p

-- from n up to m stand blanks and the closing bracket, behind which the step is done
pub record BracketClosed (q : List ℕ) (n m : ℕ) : Type 0 where
  pub on : n < m
  pub within : m ≤ length q
  pub stand : (w : Blanks) × (put_blanks w (0x5D ∷ drop m q) ≡ drop n q)
  pub reads : reading closing n (drop n q) ≡ reading done m (drop m q)

-- from n on the brackets are closed; or a byte is dead
abbrev pub Closed : List ℕ → ℕ → Result ℕ Dead → Type 0
Closed q n (Ok m) = BracketClosed q n m
Closed q n (Err d) = reading closing n (drop n q) ≡ bad d.at

-- from a place up to n stand the first bytes of a segment of this depth, those that lead to the control state
abbrev pub Begun : List ℕ → ℕ → Depth → Control → ℕ → Type 0
Begun q place d root n = ⊥
Begun q place d done n = ⊥
Begun q place d gap n = ⊥
Begun q place d (dotted e) n = (d ≡ e) × (put_dots d (drop n q) ≡ drop place q)
Begun q place d opened n = (w : Blanks) × (put_deep d (0x5B ∷ put_blanks w (drop n q)) ≡ drop place q)
Begun q place d closing n = ⊥
Begun q place d (in_position v) n = ⊥
Begun q place d (inside short) n = ⊥
Begun q place d (inside (quoted x)) n = (w : Blanks) × (put_deep d (0x5B ∷ put_blanks w (quote_byte x ∷ drop n q)) ≡ drop place q)
Begun q place d (in_escape e x) n = ⊥
Begun q place d (tail_due p k h) n = ⊥

-- a segment of the grammar stands from the place of the step that was found up to m, and is that step
pub record SegmentAt (q : List ℕ) (f : Found) (m : ℕ) : Type 0 where
  pub segment : Segment
  pub written : put_segment segment (drop m q) ≡ drop f.place q
  pub step : (placed_at q f).step ≡ segment_written segment

-- the rest of a step that takes this, read from n up to m, where its first bytes led to the control state c: from wherever these stand, the
-- whole step stands up to m
pub record PartTaken (q : List ℕ) (c : Control) (n : ℕ) (t : Taking) (m : ℕ) : Type 0 where
  pub bounded : Bounded n m t
  pub on : n < m
  pub within : m ≤ length q
  pub stands : (place : ℕ) (deep : Bool) → Begun q place (depth_of deep) c n → SegmentAt q (record { deep = deep; place = place; taking = t }) m
  pub reads : reading c n (drop n q) ≡ choose (selector_at q t) (reading done m (drop m q))

-- the rest of a step stands from n on; or a byte is dead
abbrev pub PartRead : List ℕ → Control → ℕ → Result (Taking × ℕ) Dead → Type 0
PartRead q c n (Ok (t, m)) = PartTaken q c n t m
PartRead q c n (Err d) = reading c n (drop n q) ≡ bad d.at

-- a step, read from n up to m: the blanks and the segment of the grammar that stand there, which are the step that was found, at the place
-- behind the blanks; and the query is that step and then what is read from m on
pub record StepTaken (q : List ℕ) (n : ℕ) (f : Found) (m : ℕ) : Type 0 where
  pub spaced : Spaced
  pub written : put_spaced spaced [] ≡ slice n m q
  pub place : f.place ≡ n + length spaced.before
  pub step : (placed_at q f).step ≡ segment_written spaced.segment
  pub bounded : Bounded n m f.taking
  pub on : n < m
  pub within : m ≤ length q
  pub reads : reading done n (drop n q) ≡ push (placed_at q f) (reading done m (drop m q))

-- no steps stand from n on: `$` and the bytes from there are no query, and its dead byte is the one at p
pub record StepRefused (q : List ℕ) (n p : ℕ) : Type 0 where
  pub from : n ≤ p
  pub wrong : QueryText (0x24 ∷ drop n q) → ⊥
  pub dead : DeadPlace QueryText (0x24 ∷ drop n q) (suc (p - n))
  pub reads : reading done n (drop n q) ≡ bad p

-- what stands from n on: a step; or a byte is dead
abbrev pub StepAt : List ℕ → ℕ → Result (Found × ℕ) Dead → Type 0
StepAt q n (Ok (f, m)) = StepTaken q n f m
StepAt q n (Err d) = StepRefused q n d.at
