-- What the value finder answers and the value reader returns, in the words of document 01, "Grounds for refusing".
use Rattle.std.specs.Prelude.{◌≡◌, List, [], ℕ, ◌<◌}
use Rattle.encoding.specs.Verdict.{Verdict}
use Rattle.json_text.specs.Grammar.{Tree, put_value}
use Rattle.json_text.specs.Verdict.{RecordSays}
use Rattle.select.specs.Nodes.{Node, IsNode, end_of}
use Rattle.answers.specs.Within.{RecordIs}

-- a node of the record begins at the offset
pub record Begins (t : Tree) (offset : ℕ) (n : Node) : Type 0 where
  pub node : IsNode t n
  pub first : n.first ≡ offset

pub data FinderSays («record» : List ℕ) (offset : ℕ) : (ground : ℕ) (place end : ℕ) → Type 0 where
  -- 4 to 6: what the verdict says of the record
  record_refused : (v : Verdict) → RecordSays «record» v → 0 < v.ground → FinderSays «record» offset v.ground v.place 0
  -- 8: the record is taken, and the offset is not the first byte of a value
  no_value : (t : Tree) → RecordIs «record» t → ((n : Node) → Begins t offset n → ⊥) → FinderSays «record» offset 8 offset 0
  -- 0: the record is taken, and n is the one value that begins at the offset; its end
  found : (t : Tree) → RecordIs «record» t → (n : Node) → Begins t offset n → ((m : Node) → Begins t offset m → m ≡ n) →
      FinderSays «record» offset 0 0 (end_of n)

-- where the part begins, counted from the record's first byte, and its bytes
pub data ReaderSays («record» : List ℕ) (offset : ℕ) : (start : ℕ) → List ℕ → Type 0 where
  -- the finder refuses: an empty part, at the record's first byte
  nothing : {ground : ℕ} {place end : ℕ} → FinderSays «record» offset ground place end → 0 < ground → ReaderSays «record» offset 0 []
  -- the value that begins at the offset, where it stands
  value : (t : Tree) → RecordIs «record» t → (n : Node) → Begins t offset n → ReaderSays «record» offset offset (put_value n.value [])
