-- The numbers of the grounds of refusal (document 01, "Grounds for refusing"), and the verdict that an answer with refusals gives.
use Rattle.std.specs.Prelude.{ℕ, Result, Ok, Err}
use Rattle.encoding.specs.declared.refusals.Ground.{Ground}
use Rattle.encoding.specs.declared.refusals.Ground.TheVariants.{QueryTooLong, QueryWrong, TooManySteps, RecordTooLong, RecordWrong, TooDeep, LeftOver, NoValue, HalfName, NoRoom}
use Rattle.encoding.specs.declared.refusals.Refusal.{Refusal}
use Rattle.encoding.specs.Verdict as verdict
use Rattle.encoding.specs.Verdict.{Verdict, taken}

abbrev pub number_of : (ground : Ground) → ℕ
number_of QueryTooLong = 1
number_of QueryWrong = 2
number_of TooManySteps = 3
number_of RecordTooLong = 4
number_of RecordWrong = 5
number_of TooDeep = 6
number_of LeftOver = 7
number_of NoValue = 8
number_of HalfName = 9
number_of NoRoom = 10

-- a refusal by its ground and its place
abbrev pub refusing : (ground : Ground) → (place : ℕ) → Refusal
refusing g p = record { ground = g; place = p }

-- the verdict of a refusal; and that of an answer: no ground where there is one
abbrev pub refused : Refusal → Verdict
refused r = verdict.refused (number_of r.ground) r.place

abbrev pub verdict_of : {A : Type 0} → Result A Refusal → Verdict
verdict_of (Ok x) = taken
verdict_of (Err r) = refused r
