-- What the writer of a node's path answers, ground by ground, in the words of change request S-4.
use Rattle.std.specs.Prelude.{List, ◌++◌, ℕ, ◌≤◌, ◌<◌, length, drop}
use Rattle.json_text.specs.Grammar.{Tree}
use Rattle.select.specs.Nodes.{Node}
use Rattle.answers.specs.Within.{RecordIs}
use Rattle.answers.specs.FinderSays.{Begins, FinderSays}
use Rattle.paths.specs.Halves.{FirstHalf}
use Rattle.paths.specs.Normalized.{PathOf}

pub data PathSays («record» : List ℕ) (offset : ℕ) (before : List ℕ) : (ground : ℕ) (place size : ℕ) (after : List ℕ) → Type 0 where
  -- 4 to 6 and 8, as in the value finder
  finder_refused : {ground : ℕ} {place end : ℕ} → FinderSays «record» offset ground place end → 0 < ground
      → PathSays «record» offset before ground place 0 before
  -- 9: a name on the path has half of a surrogate pair; the opening quote of the first such name
  half_name : (t : Tree) → RecordIs «record» t → (n : Node) → Begins t offset n → (q : ℕ) → FirstHalf t n q
      → PathSays «record» offset before 9 q 0 before
  -- 10: the path is longer than the buffer; the place of the node
  too_long : (t : Tree) → RecordIs «record» t → (n : Node) → Begins t offset n → (s : List ℕ) → PathOf t n s → length before < length s
      → PathSays «record» offset before 10 offset 0 before
  -- 0: the path stands at the buffer's start, and the bytes beyond it keep their values
  written : (t : Tree) → RecordIs «record» t → (n : Node) → Begins t offset n → (s : List ℕ) → PathOf t n s → length s ≤ length before
      → PathSays «record» offset before 0 0 (length s) (s ++ drop (length s) before)
