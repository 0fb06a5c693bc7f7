-- What the check of a record answers.
use Rattle.std.specs.Prelude.{◌≡◌, Result}
use Rattle.encoding.specs.Verdict.{Verdict}
use Rattle.encoding.specs.Refusals.{verdict_of}
use Rattle.encoding.specs.declared.refusals.Refusal.{Refusal}

-- ground and place are those of the verdict (document 01, "Grounds for refusing")
abbrev pub Answers : Verdict → Result (Unit {0}) Refusal → Type 0
Answers v r = verdict_of r ≡ v
