-- What the descent to a value promises, part by part. Each says more only where a text of the grammar stands there, and is safe on all bytes.
use Rattle.std.specs.Prelude.{◌≡◌, List, [], ◌∷◌, Bool, true, ℕ, ◌+◌, ◌≤◌, ◌<◌, length, drop, Option, Some, None, Result, Ok, Err, IfOk}
use Rattle.std.proofs.Math.Option as maybe
use Rattle.encoding.specs.Bytes.{Blanks, put_blanks}
use Rattle.json_text.specs.Grammar.{Kind, Value, Items, closing, put_value, put_items, nesting, items_nesting, Tree, text}
use Rattle.json_text.specs.Verdict.{max_depth}
use Rattle.select.specs.Nodes.{size}
use Rattle.select.specs.Visits.{Visit, Way, step, visits, items_visits, nodes}
use Rattle.answers.specs.Finder.{end_among, or_zero}
use Rattle.scan.specs.Shape.{solid, starts, stopped}
use Rattle.scan.specs.Scans.{kind_if}
use Rattle.seek.specs.declared.After.{After}

-- the place after the value at a
pub record EndsValue (s : List ℕ) (a r : ℕ) : Type 0 where
  pub onward : a ≤ r
  pub within : r ≤ length s
  pub exact : (v : Value) (rest : List ℕ) → drop a s ≡ put_value v rest → stopped rest ≡ true → r ≡ a + size v

-- nothing is there: the place after what was looked through
abbrev pub passed : ℕ → Result ℕ After
passed i = Err (record { at = i })

-- the place of an item or of an end, or that after what was looked through
abbrev pub place_of : Result ℕ After → ℕ
place_of (Ok i) = i
place_of (Err after) = after.at

-- behind an opening bracket: an item is ahead, behind the blanks, or the container is empty
pub record FirstItem (s : List ℕ) (a : ℕ) (r : Result ℕ After) : Type 0 where
  pub onward : a ≤ place_of r
  pub within : place_of r ≤ length s
  pub closed : (k : Kind) (w : Blanks) (rest : List ℕ) → drop a s ≡ put_blanks w (closing k ∷ rest) → r ≡ passed (a + length w + 1)
  pub ahead : (w : Blanks) (rest : List ℕ) → drop a s ≡ put_blanks w rest → solid rest ≡ true → starts rest ≡ true → r ≡ Ok (a + length w)

-- behind an item: the next one is ahead, behind the comma, or the container is closed
pub record NextItem (s : List ℕ) (a : ℕ) (r : Result ℕ After) : Type 0 where
  pub onward : a ≤ place_of r
  pub forth : IfOk r (λ i. a < i)
  pub within : place_of r ≤ length s
  pub closed : (k : Kind) (w : Blanks) (rest : List ℕ) → drop a s ≡ put_blanks w (closing k ∷ rest) → r ≡ passed (a + length w + 1)
  pub ahead : (w : Blanks) (rest : List ℕ) → drop a s ≡ put_blanks w (0x2C ∷ rest) → r ≡ Ok (a + length w + 1)

-- the end of the node that begins at the offset, or 0 where none does
abbrev pub end_or_zero : List (Visit Way) → ℕ → ℕ
end_or_zero vs offset = or_zero (end_among vs offset)

-- among these nodes: the end of the one that begins at the offset; or none does, and the place is that after them
abbrev pub Seeks : List (Visit Way) → (offset after : ℕ) → Result ℕ After → Type 0
Seeks vs offset after (Ok e) = end_among vs offset ≡ maybe.some e
Seeks vs offset after (Err place) = (end_among vs offset ≡ maybe.none) × (place.at ≡ after)

-- the same of the value at a, where it nests at most n deep
pub record SeeksValue (s : List ℕ) (offset a n : ℕ) (r : Result ℕ After) : Type 0 where
  pub onward : a ≤ place_of r
  pub within : place_of r ≤ length s
  pub exact : (v : Value) (rest : List ℕ) (way : Way) → drop a s ≡ put_value v rest → stopped rest ≡ true → nesting v ≤ n
      → Seeks (visits step v way a) offset (a + size v) r

-- the same of the items of a container whose opening bracket stands just before a
pub record SeeksInside (s : List ℕ) (offset a : ℕ) (is_object : Bool) (n : ℕ) (r : Result ℕ After) : Type 0 where
  pub onward : a ≤ place_of r
  pub within : place_of r ≤ length s
  pub exact : (is : Items (kind_if is_object)) (rest : List ℕ) (way : Way) → drop a s ≡ put_items is rest → items_nesting is ≤ n
      → Seeks (items_visits step is way a) offset (a + length (put_items is [])) r

-- an end as the definitions have it
abbrev pub end_of : Option ℕ → maybe.Option ℕ
end_of (Some e) = maybe.some e
end_of None = maybe.none

-- of a record that is taken: the end of its value that begins at the offset, if one does
pub record FindsFrom (s : List ℕ) (offset : ℕ) (end : Option ℕ) : Type 0 where
  pub exact : (t : Tree) → text t ≡ s → nesting t.value ≤ max_depth → end_of end ≡ end_among (nodes t) offset
