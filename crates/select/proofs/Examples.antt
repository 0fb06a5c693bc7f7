-- Small records and queries, computed: each tells a definition from one that is nearly the same.
use Rattle.std.specs.Prelude.{◌≡◌, refl, List, [], ◌∷◌, true, false, ℕ}
use Rattle.encoding.specs.Hex.{digit}
use Rattle.json_text.specs.Grammar.{Char, high, unicode, unsigned, whole, nofrac, noexp, array, object}
use Rattle.json_text.specs.Grammar.{Key, Value, number, container, empty, items, end, more, Tree, text}
use Rattle.query.specs.Steps.{Step, name, every, position}
use Rattle.select.specs.Marks.{Peak}
use Rattle.select.specs.Ways.{Span, spans, peak}
use Rattle.select.specs.Nodelist.{nodelist}
use Rattle.select.proofs.PeakIs.{peak_is}

-- ---- records

-- the record that is this value alone
abbrev just : Value → Tree
just v = record { before = []; value = v; after = [] }

-- the value 1
abbrev unit : Value
unit = number unsigned (whole (record { byte = 0x31; ok = tt }) []) nofrac noexp

abbrev a : Char
a = high (record { byte = 0x61; ok = tt })

abbrev b : Char
b = high (record { byte = 0x62; ok = tt })

abbrev lot : List Char
lot = high (record { byte = 0x6C; ok = tt }) ∷ high (record { byte = 0x6F; ok = tt }) ∷ high (record { byte = 0x74; ok = tt }) ∷ []

abbrev lots : List Char
lots =
    high (record { byte = 0x6C; ok = tt })
    ∷ high (record { byte = 0x6F; ok = tt })
    ∷ high (record { byte = 0x74; ok = tt })
    ∷ high (record { byte = 0x73; ok = tt })
    ∷ []

abbrev key : List Char → Key object
key cs = record { chars = cs; before = []; after = [] }

-- an object with one member, and with two
abbrev one : List Char → Value → Value
one cs v = container object (items [] (key cs) v (end []))

abbrev two : List Char → Value → List Char → Value → Value
two cs v cs' v' = container object (items [] (key cs) v (more [] [] (key cs') v' (end [])))

abbrev hollow : Value
hollow = container object (empty [])

-- an array with one element
abbrev single : Value → Value
single v = container array (items [] tt v (end []))

-- an array with two elements
abbrev pair : Value → Value → Value
pair v w = container array (items [] tt v (more [] [] tt w (end [])))

-- ---- queries

abbrev plain : List ℕ → Step
plain k = record { deep = false; selector = name k }

abbrev deep : List ℕ → Step
deep k = record { deep = true; selector = name k }

abbrev all : Step
all = record { deep = false; selector = every }

abbrev at : ℕ → Step
at j = record { deep = false; selector = position j }

abbrev everywhere : ℕ → Step
everywhere j = record { deep = true; selector = position j }

abbrev span : ℕ → ℕ → Span
span x y = record { first = x; end = y }

-- ---- what is picked out

-- `$.a` on {"a":1,"a":1}: a name that stands twice gives two nodes
repeated : spans (just (two (a ∷ []) unit (a ∷ []) unit)) (plain (0x61 ∷ []) ∷ []) ≡ span 5 6 ∷ span 11 12 ∷ []
unfolding spans
repeated = refl

-- `$.lot` on {"lot":1,"lots":1}: a name that goes on is another
longer : spans (just (two lot unit lots unit)) (plain (0x6C ∷ 0x6F ∷ 0x74 ∷ []) ∷ []) ≡ span 7 8 ∷ []
unfolding spans
longer = refl

-- `$.lots` on {"lot":1}: and so is one that ends before
shorter : spans (just (one lot unit)) (plain (0x6C ∷ 0x6F ∷ 0x74 ∷ 0x73 ∷ []) ∷ []) ≡ []
unfolding spans
shorter = refl

-- `$.a` on {"\u0061":1}: an escape is decoded
unescaped :
    spans
    (just
    (one
    (unicode
    (digit (record { byte = 0x30; ok = tt }))
    (digit (record { byte = 0x30; ok = tt }))
    (digit (record { byte = 0x36; ok = tt }))
    (digit (record { byte = 0x31; ok = tt }))
    ∷ [])
    unit))
    (plain (0x61 ∷ []) ∷ [])
    ≡ span 10 11 ∷ []
unfolding spans
unescaped = refl

-- `$.*` on [1] and on {"a":1}: `*` takes elements and members
elements : spans (just (single unit)) (all ∷ []) ≡ span 1 2 ∷ []
unfolding spans
elements = refl

members : spans (just (one (a ∷ []) unit)) (all ∷ []) ≡ span 5 6 ∷ []
unfolding spans
members = refl

-- `$['0']` on [1]: a name takes no element, whatever its position
nameless : spans (just (single unit)) (plain (0x30 ∷ []) ∷ []) ≡ []
unfolding spans
nameless = refl

-- `$[0]`, `$[1]` and `$[2]` on [1,1]: positions are counted from 0
first : spans (just (pair unit unit)) (at 0 ∷ []) ≡ span 1 2 ∷ []
unfolding spans
first = refl

second : spans (just (pair unit unit)) (at 1 ∷ []) ≡ span 3 4 ∷ []
unfolding spans
second = refl

none_there : spans (just (pair unit unit)) (at 2 ∷ []) ≡ []
unfolding spans
none_there = refl

-- `$[0]` on {"a":1}: a position takes no member, whichever comes first
unnumbered : spans (just (one (a ∷ []) unit)) (at 0 ∷ []) ≡ []
unfolding spans
unnumbered = refl

-- `$..[1]` on [[1,1],[1,1]]: each array has its own positions, and the outer one's go on behind the inner one
own_positions : spans (just (pair (pair unit unit) (pair unit unit))) (everywhere 1 ∷ []) ≡ span 4 5 ∷ span 7 12 ∷ span 10 11 ∷ []
unfolding spans
own_positions = refl

-- `$..[0]..[0]` on [[1,1],1]: RFC 9535 gives the same
nodes_of_positions : nodelist (just (pair (pair unit unit) unit)) (everywhere 0 ∷ everywhere 0 ∷ []) ≡ record { value = unit; first = 2 } ∷ []
unfolding nodelist
nodes_of_positions = refl

-- `$` on [1], and `$..*` on [[1]]: the root alone, and every node but the root, each before those in it
whole_record : spans (just (single unit)) [] ≡ span 0 3 ∷ []
unfolding spans
whole_record = refl

below : spans (just (single (single unit))) (record { deep = true; selector = every } ∷ []) ≡ span 1 4 ∷ span 2 3 ∷ []
unfolding spans
below = refl

-- `$..a..b` on {"a":{"a":{"b":1}}}: the node is reached in two ways; it is listed once, and RFC 9535 lists it twice
abbrev twice : Tree
twice = just (one (a ∷ []) (one (a ∷ []) (one (b ∷ []) unit)))

abbrev deeply : List Step
deeply = deep (0x61 ∷ []) ∷ deep (0x62 ∷ []) ∷ []

-- the bytes of that record
written :
    text twice
    ≡ 0x7B ∷ 0x22 ∷ 0x61 ∷ 0x22 ∷ 0x3A
    ∷ 0x7B ∷ 0x22 ∷ 0x61 ∷ 0x22 ∷ 0x3A
    ∷ 0x7B ∷ 0x22 ∷ 0x62 ∷ 0x22 ∷ 0x3A
    ∷ 0x31 ∷ 0x7D ∷ 0x7D ∷ 0x7D ∷ []
unfolding text
written = refl

once : spans twice deeply ≡ span 15 16 ∷ []
unfolding spans
once = refl

again : nodelist twice deeply ≡ record { value = unit; first = 15 } ∷ record { value = unit; first = 15 } ∷ []
unfolding nodelist
again = refl

-- ---- peaks

-- `$.b` on {"a":{}}: the empty object has no mark and the root has one, so it costs a frame
empty_costs : peak (just (one (a ∷ []) hollow)) (plain (0x62 ∷ []) ∷ []) ≡ 1
unfolding peak
empty_costs = refl

empty_peak : Peak (just (one (a ∷ []) hollow)) (plain (0x62 ∷ []) ∷ []) 1
unfolding peak
empty_peak = peak_is (just (one (a ∷ []) hollow)) (plain (0x62 ∷ []) ∷ [])

-- `$.b` on {"a":1}: a scalar costs none
scalar_free : peak (just (one (a ∷ []) unit)) (plain (0x62 ∷ []) ∷ []) ≡ 0
unfolding peak
scalar_free = refl

-- `$` on {"a":{}}: without steps nothing has a mark
bare_free : peak (just (one (a ∷ []) hollow)) [] ≡ 0
unfolding peak
bare_free = refl

-- `$.a.b` on {"a":{"b":{}}}: plain steps reach as many frames as there are steps
plain_peak : peak (just (one (a ∷ []) (one (b ∷ []) hollow))) (plain (0x61 ∷ []) ∷ plain (0x62 ∷ []) ∷ []) ≡ 2
unfolding peak
plain_peak = refl

-- `$..a..b` on {"a":{"a":{"b":1}}}: deep steps one less; the inner object has the marks of the one around it
deep_peak : peak twice deeply ≡ 1
unfolding peak
deep_peak = refl

-- `$..[0]..[0]` on [[1,1],1]: deep positions too
deep_positions_peak : peak (just (pair (pair unit unit) unit)) (everywhere 0 ∷ everywhere 0 ∷ []) ≡ 1
unfolding peak
deep_positions_peak = refl

-- `$..b` on {"a":{}}: the mark of a deep step is kept, so no frame
kept_free : peak (just (one (a ∷ []) hollow)) (deep (0x62 ∷ []) ∷ []) ≡ 0
unfolding peak
kept_free = refl
