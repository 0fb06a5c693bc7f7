-- Grounds 4 to 6 (document 01, "Grounds for refusing"): the executable verdict on a record, and what each ground says of the grammar.
use Rattle.std.specs.Prelude.{◌≡◌, List, [], true, false, ℕ, suc, ◌≤◌, ◌<◌, leb, take, length, get_or}
use Rattle.encoding.specs.Prefix.{Alive, DeadPlace}
use Rattle.encoding.specs.Verdict as verdict
use Rattle.encoding.specs.Verdict.{Verdict, refused}
use Rattle.json_text.specs.Grammar.{JsonText, Nested, Kind, opening}
use Rattle.json_text.specs.Room.{left}
use Rattle.json_text.specs.Machine.{value_due}
use Rattle.json_text.specs.Check.{check_from}

-- the levels that a record may nest, and the bytes that it may have
abbrev pub max_depth : ℕ
max_depth = 512

abbrev pub max_bytes : ℕ
max_bytes = 16777216

-- grounds 5 and 6
unfoldable pub text_verdict : List ℕ → Verdict
unfolding check_from
text_verdict s = check_from value_due [] (left max_depth) 0 s

-- grounds 4 to 6
unfoldable pub record_verdict : List ℕ → Verdict
unfolding text_verdict
record_verdict s = elim (leb (length s) max_bytes) [ true ↦ text_verdict s | false ↦ refused 4 max_bytes ]

-- the byte at this place is a bracket that the grammar allows and that opens level n + 1 of nesting, the first one to do so:
-- a text that nests at most n deep can begin up to the bracket, and with the bracket only a deeper one
pub record OpensBeyond (n : ℕ) (s : List ℕ) (place : ℕ) : Type 0 where
  pub kind : Kind
  pub bracket : get_or s place 0 ≡ opening kind
  pub allowed : Alive JsonText (take (suc place) s)
  pub before : Alive (Nested n) (take place s)
  pub beyond : Alive (Nested n) (take (suc place) s) → ⊥

-- what the verdict on a record says, ground by ground
pub data RecordSays (s : List ℕ) : Verdict → Type 0 where
  -- a JSON text within both limits
  taken : length s ≤ max_bytes → Nested max_depth s → RecordSays s verdict.taken
  -- 4: the record has too many bytes
  long : max_bytes < length s → RecordSays s (refused 4 max_bytes)
  -- 5: the record is not a JSON text, p is the place of its dead byte, and ground 6 has no smaller one
  wrong : (p : ℕ) → length s ≤ max_bytes → (JsonText s → ⊥) → DeadPlace JsonText s p → ((r : ℕ) → r < p → OpensBeyond max_depth s r → ⊥) →
      RecordSays s (refused 5 p)
  -- 6: a bracket that the grammar allows opens a level too many; as some JSON text begins up to it and with it, no byte up to it is dead,
  -- and so ground 5 has no smaller place
  deep : (p : ℕ) → length s ≤ max_bytes → OpensBeyond max_depth s p → RecordSays s (refused 6 p)
