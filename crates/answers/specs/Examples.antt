-- Worked examples of the value finder and the value reader, by computing.
use Rattle.std.specs.Prelude.{◌≡◌, refl, List, [], ◌∷◌, map, ℕ}
use Rattle.encoding.specs.Ascii.{ascii}
use Rattle.answers.specs.Finder.{find_verdict, find_end, value_part}

-- what the finder answers, and the part that the reader returns
record Answer : Type 0 where
  ground : ℕ
  place : ℕ
  end : ℕ
  part : List ℕ

unfoldable answer : (text : List ℕ) (offset : ℕ) → Answer
unfolding find_verdict find_end value_part
answer r at = record { ground = (find_verdict r at).ground; place = (find_verdict r at).place; end = find_end r at; part = value_part r at }

abbrev found : (end : ℕ) → (part : List ℕ) → Answer
found e s = record { ground = 0; place = 0; end = e; part = s }

abbrev refused : (ground place : ℕ) → Answer
refused g p = record { ground = g; place = p; end = 0; part = [] }

abbrev sample : List ℕ
sample = ascii "{\"a\":[3,{\"b\":7}]} "

-- the record, its member's value, values inside that
values : map (answer sample) (0 ∷ 5 ∷ 6 ∷ 8 ∷ []) ≡
    found 17 (ascii "{\"a\":[3,{\"b\":7}]}") ∷ found 16 (ascii "[3,{\"b\":7}]") ∷ found 7 (ascii "3") ∷ found 15 (ascii "{\"b\":7}") ∷ []
unfolding answer
values = refl

-- a member's name is no value; nor is a byte inside a value, a blank after it, or an offset past the end, which is given back as it was
no_values : map (answer sample) (1 ∷ 2 ∷ 16 ∷ 17 ∷ 18 ∷ 4000000000 ∷ []) ≡
    refused 8 1 ∷ refused 8 2 ∷ refused 8 16 ∷ refused 8 17 ∷ refused 8 18 ∷ refused 8 4000000000 ∷ []
unfolding answer
no_values = refl

-- the record is refused first
record_first : map (answer (ascii "[1,]")) (0 ∷ 1 ∷ 2 ∷ 9 ∷ []) ≡ refused 5 3 ∷ refused 5 3 ∷ refused 5 3 ∷ refused 5 3 ∷ []
unfolding answer
record_first = refl
