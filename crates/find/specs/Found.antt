-- What the value finder answers as a result, the end of the value or a refusal, is what its numbers say.
use Rattle.std.specs.Prelude.{List, ℕ, Result}
use Rattle.std.specs.Result.{result_unwrap_or}
use Rattle.answers.specs.Finder.{Finds}
use Rattle.encoding.specs.Refusals.{verdict_of}
use Rattle.encoding.specs.declared.refusals.Refusal.{Refusal}

abbrev pub FindsEnd : («record» : List ℕ) (offset : ℕ) → Result ℕ Refusal → Type 0
FindsEnd r offset answer = Finds r offset (verdict_of answer).ground (verdict_of answer).place (result_unwrap_or answer 0)
