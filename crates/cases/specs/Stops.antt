-- A run that stops before its last line.
use Rattle.std.specs.Prelude.{Result, Ok, Err}
use Rattle.cases.specs.declared.lines.Stop.{Stop}
use Rattle.cases.specs.declared.lines.Stop.TheVariants.{Failed, BadLine}

-- A fact that holds where a write failed.
abbrev pub OnFailed : {A : Type 0} → Result A Stop → Type 0 → Type 0
OnFailed (Ok x) p = Unit {0}
OnFailed (Err (Failed e)) p = p
OnFailed (Err BadLine) p = Unit {0}
