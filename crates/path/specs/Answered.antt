-- What the writer of a path answers, as a size or a refusal.
use Rattle.std.specs.Prelude.{List, ℕ, Result, Ok, Err}
use Rattle.encoding.specs.Verdict.{Verdict}
use Rattle.encoding.specs.Refusals.{refused}
use Rattle.encoding.specs.declared.refusals.Refusal.{Refusal}
use Rattle.paths.specs.Answer.{WritesPath}

-- a refusal by its verdict
abbrev pub RefusedBy : (s : List ℕ) (o : ℕ) (before after : List ℕ) → Verdict → Type 0
RefusedBy s o before after v = WritesPath s o before after v.ground v.place 0

abbrev pub Answers : (s : List ℕ) (o : ℕ) (before after : List ℕ) → Result ℕ Refusal → Type 0
Answers s o before after (Ok n) = WritesPath s o before after 0 0 n
Answers s o before after (Err e) = RefusedBy s o before after (refused e)
