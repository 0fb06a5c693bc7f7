-- What entering an item of a container promises: where its value is, and the marks that its name or its position leads to.
use Rattle.std.specs.Prelude.{◌≡◌, List, Bool, true, ℕ, ◌≤◌, length, drop}
use Rattle.encoding.specs.Bytes.{Blanks, put_blanks}
use Rattle.json_text.specs.Grammar.{Key, put_key}
use Rattle.query_parser.specs.declared.compiled.Kinds.{Kinds}
use Rattle.select.specs.Nodes.{label_of}
use Rattle.scan.specs.Scans.{kind_if}
use Rattle.scan.specs.Shape.{solid}
use Rattle.marks.specs.Advances.{Advances}
use Rattle.walk.specs.Ahead.{value_at}
use Rattle.walk.specs.declared.Coming.{Coming}

-- of a query's names, kinds and operands, and a record s: the item at position j stands at place i, in a container with the marks m
pub record EntersChild (names : List ℕ) (kinds : Kinds) (operands s : List ℕ) (i : ℕ) (is_object : Bool) (j m : ℕ) (r : Coming) : Type 0 where
  pub onward : i ≤ r.at
  pub within : r.at ≤ length s
  pub exact : (w : Blanks) (key : Key (kind_if is_object)) (rest : List ℕ)
      → drop i s ≡ put_blanks w (put_key (kind_if is_object) key rest) → solid rest ≡ true
      → (r.at ≡ value_at (kind_if is_object) i w key) × Advances names kinds operands m (label_of (kind_if is_object) key j) r.marks r.picked
