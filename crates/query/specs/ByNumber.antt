-- A query on which grounds 1 and 2 both fit, and the verdict that it has where ground 1 is tried first (change request S-5).
use Rattle.std.specs.Prelude.{List, true, false, ℕ, ◌<◌, leb, length}
use Rattle.encoding.specs.Prefix.{DeadPlace}
use Rattle.encoding.specs.Verdict.{Verdict, refused}
use Rattle.query.specs.Grammar.{QueryText}
use Rattle.query.specs.Machine.{root}
use Rattle.query.specs.Read.{reading}
use Rattle.query.specs.Verdict.{max_query_bytes, judged}

-- "queries over 1,024 bytes with a dead byte before 1,024"
pub record EarlyFault (s : List ℕ) (place : ℕ) : Type 0 where
  pub long : max_query_bytes < length s
  pub dead : DeadPlace QueryText s place
  pub early : place < max_query_bytes

-- "Grounds are tried by number" (document 01): ground 1 goes before ground 2, wherever the dead byte stands
unfoldable pub by_number : List ℕ → Verdict
unfolding judged reading
by_number s = elim (leb (length s) max_query_bytes) [ true ↦ judged (reading root 0 s) | false ↦ refused 1 max_query_bytes ]
