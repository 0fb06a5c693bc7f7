-- What a lister promises, of the fields of its answer.
use Rattle.std.specs.Prelude.{List, ℕ}
use Rattle.answers.specs.Lister.{Lists}
use Rattle.lister.specs.declared.Answer.{Answer}

-- `Lists` says what each number is, and what the whole list holds afterwards
abbrev pub Listed : (query «record» list after : List ℕ) → Answer → Type 0
Listed q r l a x = Lists q r l a x.ground x.place x.pairs x.peak
