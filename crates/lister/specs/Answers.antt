-- How a lister's answer comes about: what is refused before the walk, and document 01's numbers for what a walk has counted.
use Rattle.std.specs.Prelude.{◌≡◌, List, ℕ, ◌≤◌, Option, Some, None, Result, IfOk}
use Rattle.std.specs.Result.{IfErr}
use Rattle.encoding.specs.Refusals.{number_of, verdict_of}
use Rattle.encoding.specs.declared.refusals.Ground.{Ground}
use Rattle.encoding.specs.declared.refusals.Refusal.{Refusal}
use Rattle.json_text.specs.Verdict.{max_bytes, record_verdict}
use Rattle.query_parser.specs.Holds.{Holds}
use Rattle.query_parser.specs.declared.compiled.Compiled.{Compiled}
use Rattle.query.specs.Verdict.{query_verdict, steps_in}
use Rattle.answers.specs.Lister.{input_verdict, Lists}
use Rattle.pairs.specs.declared.Counts.{Counts}
use Rattle.lister.specs.declared.Answer.{Answer}

-- the first of grounds 1 to 6 that fits: it is a lister's answer, which leaves any list as it was; without a ground query and record are
-- taken, and the query's steps are held, with their names
pub record Admits (q r names : List ℕ) (x : Result Compiled Refusal) : Type 0 where
  pub verdict : verdict_of x ≡ input_verdict q r
  pub refuses : IfErr x (λ e. (l : List ℕ) → Lists q r l l (number_of e.ground) e.place 0 0)
  pub place_small : IfErr x (λ e. e.place ≤ max_bytes)
  pub query_taken : IfOk x (λ c. (query_verdict q).ground ≡ 0)
  pub record_taken : IfOk x (λ c. (record_verdict r).ground ≡ 0)
  pub steps_are : IfOk x (λ c. Holds names (steps_in q) c.kinds c.operands)

-- the answer of a refusal
abbrev pub refused_by : (ground : Ground) → (place : ℕ) → Answer
refused_by g p = record { ground = number_of g; place = p; pairs = 0; peak = 0 }

abbrev pub refusal : Refusal → Answer
refusal e = refused_by e.ground e.place

-- numbers that an answer has room for
pub record Countable (x : Counts) : Type 0 where
  pub used_small : x.used ≤ max_bytes
  pub peak_small : x.stop ≡ None → x.peak ≤ max_bytes
  pub stop_small : (first : ℕ) → x.stop ≡ Some first → first ≤ max_bytes

-- after a walk: ground 7 at the first node left over, and else all nodes and the peak
abbrev pub concluded : (used peak : ℕ) → (stop : Option ℕ) → Answer
concluded n k None = record { ground = 0; place = 0; pairs = n; peak = k }
concluded n k (Some p) = record { ground = 7; place = p; pairs = n; peak = 0 }
