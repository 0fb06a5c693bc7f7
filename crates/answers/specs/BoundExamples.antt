-- Worked examples of how large the pile gets, by computing: queries on both sides of each rule.
use Rattle.std.specs.Prelude.{◌≡◌, refl, List, [], ◌∷◌, map, Bool, true, false, ℕ}
use Rattle.encoding.specs.Ascii.{ascii}
use Rattle.query.specs.Verdict.{query_verdict}
use Rattle.answers.specs.Bound.{bounded, frames_bound}

record Answer : Type 0 where
  ground : ℕ
  place : ℕ
  bounded : Bool
  frames : ℕ

unfoldable answer : (query : List ℕ) → Answer
unfolding query_verdict bounded frames_bound
answer q = record { ground = (query_verdict q).ground; place = (query_verdict q).place; bounded = bounded q; frames = frames_bound q }

abbrev at_most : ℕ → Answer
at_most k = record { ground = 0; place = 0; bounded = true; frames = k }

abbrev no_bound : Answer
no_bound = record { ground = 0; place = 0; bounded = false; frames = 511 }

abbrev refused : (ground place : ℕ) → Answer
refused g p = record { ground = g; place = p; bounded = false; frames = 0 }

-- plain steps alone; no step; names, positions and `*`
plain_alone_lem : map answer (ascii "$" ∷ ascii "$.a" ∷ ascii "$[7]['b'].*" ∷ []) ≡ at_most 0 ∷ at_most 1 ∷ at_most 3 ∷ []
unfolding answer
plain_alone_lem = refl

-- deep steps behind them, and deep steps alone
deep_last_lem : map answer (ascii "$..a" ∷ ascii "$.a..b" ∷ ascii "$.a[0]..b..*" ∷ ascii "$..a..b..[1]" ∷ []) ≡
    at_most 0 ∷ at_most 1 ∷ at_most 3 ∷ at_most 2 ∷ []
unfolding answer
deep_last_lem = refl

-- a plain step behind a deep one, wherever the two stand
mixed : map answer (ascii "$..a.b" ∷ ascii "$.a..b[0]" ∷ ascii "$..a.b..c" ∷ ascii "$..a..b.*" ∷ []) ≡ no_bound ∷ no_bound ∷ no_bound ∷ no_bound ∷ []
unfolding answer
mixed = refl

-- 16 steps and 17, and a query that is not in the grammar
limits : map answer (
    ascii "$.a.a.a.a.a.a.a.a.a.a.a.a.a.a.a.a"
    ∷ ascii "$..a..a..a..a..a..a..a..a..a..a..a..a..a..a..a..a"
    ∷ ascii "$.a.a.a.a.a.a.a.a.a.a.a.a.a.a.a.a..a"
    ∷ ascii "$..a."
    ∷ []
    ) ≡ at_most 16 ∷ at_most 15 ∷ refused 3 33 ∷ refused 2 5 ∷ []
unfolding answer
limits = refl
