-- A kind of bytes that comes in runs, beside those that are told eight at a time.
use Rattle.std.specs.Prelude.{Bool, ℕ, eqb}
use Rattle.encoding.specs.Class.{class_of}

-- a blank, by its class
unfoldable pub blank : ℕ → Bool
unfolding class_of
blank b = eqb (class_of b) 7
