-- Grounds 1 to 3 of a query's bytes with their places, and its steps, by computing; and what each ground says (document 01, "Grounds for
-- refusing", and change request S-5 for a query on which grounds 1 and 2 both fit).
use Rattle.std.specs.Prelude.{◌≡◌, List, ◌∷◌, ◌++◌, map, true, false, ◌⊎◌, ℕ, ◌+◌, ◌≤◌, ◌<◌, leb, length, get_or}
use Rattle.encoding.specs.Prefix.{DeadPlace}
use Rattle.encoding.specs.Unescape.{spelt}
use Rattle.encoding.specs.Verdict
use Rattle.encoding.specs.Verdict.{Verdict, refused}
use Rattle.query.specs.Grammar.{Spaced, Query, QueryText, text}
use Rattle.query.specs.Steps.{Selector, Step}
use Rattle.query.specs.Steps as S
use Rattle.query.specs.Machine.{root, place, start}
use Rattle.query.specs.Read.{Placed, Reading, good, bad, reading, steps_read}

abbrev pub max_query_bytes : ℕ
max_query_bytes = 1024

abbrev pub max_steps : ℕ
max_steps = 16

-- a step as it is written, with the code points of its name

unfoldable pub decoded : Selector → Selector
unfolding spelt
decoded (S.name w) = S.name (spelt w)
decoded S.every = S.every
decoded (S.position j) = S.position j

unfoldable pub decoded_step : Step → Step
unfolding decoded
decoded_step x = record { deep = x.deep; selector = decoded x.selector }

-- the steps of a query; none where it is not in the grammar
unfoldable pub steps_in : List ℕ → List Step
unfolding reading decoded_step
steps_in s = map (λ x. decoded_step x.step) (steps_read (reading root 0 s))

-- the place of the step number k, counted from 0
abbrev pub place_of : ℕ → List Placed → ℕ
place_of k l = get_or (map (λ x. x.place) l) k 0

-- ground 3
unfoldable pub counted : List Placed → Verdict
counted l = elim (leb (length l) max_steps) [ true ↦ Verdict.taken | false ↦ refused 3 (place_of max_steps l) ]

-- ground 2, and then ground 3
unfoldable pub judged : Reading → Verdict
unfolding counted
judged (good a) = counted a.later
judged (bad p) = refused 2 p

-- of more than 1,024 bytes, by the place of the dead byte: "Ground 2 goes first when its place is below 1,024", and else it is ground 1
unfoldable pub overlong : ℕ → Verdict
overlong p = elim (leb max_query_bytes p) [ true ↦ refused 1 max_query_bytes | false ↦ refused 2 p ]

-- grounds 1 to 3
unfoldable pub query_verdict : List ℕ → Verdict
unfolding judged reading overlong place
query_verdict s = elim (leb (length s) max_query_bytes) [ true ↦ judged (reading root 0 s) | false ↦ overlong (place start s) ]

-- what a verdict says of a query
pub data QuerySays (s : List ℕ) : Verdict → Type 0 where
  -- none of the grounds 1 to 3 fits
  taken : length s ≤ max_query_bytes → (t : Query) → text t ≡ s → length t ≤ max_steps → QuerySays s Verdict.taken
  -- ground 1: more than 1,024 bytes, and its dead byte does not stand below 1,024
  long : max_query_bytes < length s → (p : ℕ) → DeadPlace QueryText s p → max_query_bytes ≤ p → QuerySays s (refused 1 max_query_bytes)
  -- ground 2: not in the grammar; the place of its dead byte, which stands below 1,024 where the query has more than 1,024 bytes
  wrong : (QueryText s → ⊥) → (p : ℕ) → DeadPlace QueryText s p → (length s ≤ max_query_bytes) ⊎ (p < max_query_bytes) → QuerySays s (refused 2 p)
  -- ground 3: x is the 17th step; the place of the `.` or `[` that begins it, after the blanks before it
  many : length s ≤ max_query_bytes → (t : Query) (x : Spaced) (u : Query) → text (t ++ x ∷ u) ≡ s → length t ≡ max_steps →
      QuerySays s (refused 3 (length (text t) + length x.before))
