-- What is said of paths as queries speaks of something: a record with two nodes of one path, and as a query the path picks out both.
-- By computing. Assumes nothing.
use Rattle.std.specs.Prelude.{refl, List, [], ◌∷◌, ℕ}
use mathlib.Core.List.Memᴰ
use Rattle.std.proofs.Common.{arith, leb-true}
use Rattle.encoding.specs.Ascii.{ascii}
use Rattle.encoding.specs.PointsLaws.{small_scalar}
use Rattle.json_text.specs.Grammar.{Key, Value, Tree, nesting}
use Rattle.json_text.specs.Grammar as J
use Rattle.json_text.specs.Verdict.{max_bytes, max_depth}
use Rattle.query.specs.Verdict.{max_query_bytes, max_steps, steps_in}
use Rattle.select.specs.Nodes.{Label, Node, children, IsChild, same, down, root}
use Rattle.select.specs.Picked.{Picked}
use Rattle.answers.specs.Within.{RecordIs}
use Rattle.paths.specs.Normalized.{labels_on, PathOf}
use Rattle.paths.proofs.NormalizedIs.{normalized_is}
use Rattle.paths.specs.Queries.{PicksEqual}
use Rattle.paths.proofs.QueriesHold.{queries_hold}
use Rattle.paths.specs.Rendered.{path_text}
use Rattle.paths.specs.Whole as W

-- {"a":7,"a":7}
abbrev a : Key J.object
a = record { chars = J.high (record { byte = 0x61; ok = tt }) ∷ []; before = []; after = [] }

abbrev seven : Value
seven = J.number J.unsigned (J.whole (record { byte = 0x37; ok = tt }) []) J.nofrac J.noexp

abbrev twice : Tree
twice = record { before = []; value = J.container J.object (J.items [] a seven (J.more [] [] a seven (J.end []))); after = [] }

is_record : RecordIs (ascii "{\"a\":7,\"a\":7}") twice
unfolding J.text nesting
is_record = record { written = refl; bytes = leb-true 13 max_bytes refl; levels = leb-true 1 max_depth refl }

-- the two sevens
abbrev earlier : Node
earlier = record { value = seven; first = 5 }

abbrev later : Node
later = record { value = seven; first = 11 }

abbrev label : Label
label = Label.member (0x61 ∷ [])

earlier_hangs : IsChild (root twice) label earlier
unfolding IsChild children root
earlier_hangs = Memᴰ.head refl

later_hangs : IsChild (root twice) label later
unfolding IsChild children root
later_hangs = Memᴰ.tail (Memᴰ.head refl)

abbrev path : List ℕ
path = ascii "$['a']"

has_path : {n : Node} → IsChild (root twice) label n → PathOf twice n path
unfolding labels_on path_text
has_path c =
    record {
      node = down label same c;
      path = (normalized_is (label ∷ []) path).1 (W.more (W.name (W.more (small_scalar 0x61 (omega arith)) W.none)) W.none, refl);
    }

-- it is taken as a query, and picks out the one and the other
pub picks_earlier : PicksEqual twice earlier path
unfolding labels_on has_path
picks_earlier = (queries_hold is_record).picks (has_path earlier_hangs) (leb-true 1 max_steps refl) (leb-true 6 max_query_bytes refl)

pub picks_later : Picked twice (steps_in path) later
picks_later = (picks_earlier.exactly later).1 (has_path later_hangs)
