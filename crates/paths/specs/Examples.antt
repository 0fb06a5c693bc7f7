-- Paths and refusals on both sides of each rule, by computing (change request S-4; RFC 9535 §2.7 and its table of examples).
use Rattle.std.specs.Prelude.{◌≡◌, refl, List, [], ◌∷◌, map, ℕ, length}
use Rattle.encoding.specs.Ascii.{ascii}
use Rattle.select.specs.Nodes.{member, element}
use Rattle.paths.specs.Answer.{path_verdict, path_written}
use Rattle.paths.specs.Rendered.{path_text}

record Answer : Type 0 where
  ground : ℕ
  place : ℕ
  path : List ℕ

unfoldable answer : (text : List ℕ) (room offset : ℕ) → Answer
unfolding path_verdict path_written
answer r room at =
    record { ground = (path_verdict r at room).ground; place = (path_verdict r at room).place; path = path_written r at room }

abbrev written : List ℕ → Answer
written s = record { ground = 0; place = 0; path = s }

abbrev refused : (ground place : ℕ) → Answer
refused g p = record { ground = g; place = p; path = [] }

-- a grower with two lots in one blend: two nodes, one path
abbrev blend : List ℕ
blend = ascii "{\"tank\":7, \"blend\" :[{\"lot\":1,\"lot\":[2]}]}"

lots : map (answer blend 64) (0 ∷ 8 ∷ 20 ∷ 21 ∷ 28 ∷ 36 ∷ 37 ∷ []) ≡
    written (ascii "$") ∷ written (ascii "$['tank']") ∷ written (ascii "$['blend']") ∷ written (ascii "$['blend'][0]") ∷
    written (ascii "$['blend'][0]['lot']") ∷ written (ascii "$['blend'][0]['lot']") ∷ written (ascii "$['blend'][0]['lot'][0]") ∷ []
unfolding answer
lots = refl

-- ground 10: the path has 20 bytes, and the buffer 20 or 19
room_of_20 : answer blend 20 28 ≡ written (ascii "$['blend'][0]['lot']")
unfolding answer
room_of_20 = refl

room_of_19 : answer blend 19 28 ≡ refused 10 28
unfolding answer
room_of_19 = refl

-- ground 8 where no value begins, a name's quote among them; ground 5 first
no_values : map (answer blend 64) (1 ∷ 2 ∷ 9 ∷ 99 ∷ []) ≡ refused 8 1 ∷ refused 8 2 ∷ refused 8 9 ∷ refused 8 99 ∷ []
unfolding answer
no_values = refl

wrong_record : answer (ascii "[1,]") 64 1 ≡ refused 5 3
unfolding answer
wrong_record = refl

-- ground 9: the outermost of two names with half of a pair, before ground 10; beside the way such a name is nothing to refuse; a pair is no half
abbrev halves : List ℕ
halves = ascii "{\"\\ud83d\" : {\"\\uDE00\":1},\"\\ud83d\\ude00\":[2]}"

halves_on_the_way : map (answer halves 0) (12 ∷ 22 ∷ []) ≡ refused 9 1 ∷ refused 9 1 ∷ []
unfolding answer
halves_on_the_way = refl

inner_half : answer (ascii "[{\"\\udc00\":0}]") 9 11 ≡ refused 9 2
unfolding answer
inner_half = refl

a_pair : answer halves 16 40 ≡ written (0x24 ∷ 0x5B ∷ 0x27 ∷ 0xF0 ∷ 0x9F ∷ 0x98 ∷ 0x80 ∷ 0x27 ∷ 0x5D ∷ [])
unfolding answer
a_pair = refl

-- the RFC's examples: `$["\u000B"]` is `$['\u000b']`, and `$["\u0061"]` is `$['a']`
vertical_tab : answer (ascii "{\"\\u000B\":1}") 16 10 ≡ written (ascii "$['\\u000b']")
unfolding answer
vertical_tab = refl

small_a : answer (ascii "{\"\\u0061\":1}") 16 10 ≡ written (ascii "$['a']")
unfolding answer
small_a = refl

-- the escapes by a letter, both quotes, a slash, the first and the last control that are written by digits, 7F and an accented letter
escapes :
    path_text (member (0x08 ∷ 0x09 ∷ 0x0A ∷ 0x0C ∷ 0x0D ∷ 0x27 ∷ 0x22 ∷ 0x2F ∷ 0x5C ∷ 0x00 ∷ 0x1F ∷ 0x7F ∷ 0xE9 ∷ []) ∷ element 10 ∷ []) ≡
    0x24 ∷ 0x5B ∷ 0x27 ∷ 0x5C ∷ 0x62 ∷ 0x5C ∷ 0x74 ∷ 0x5C ∷ 0x6E ∷ 0x5C ∷ 0x66 ∷ 0x5C ∷ 0x72 ∷ 0x5C ∷ 0x27 ∷ 0x22 ∷ 0x2F ∷ 0x5C ∷ 0x5C ∷
    0x5C ∷ 0x75 ∷ 0x30 ∷ 0x30 ∷ 0x30 ∷ 0x30 ∷ 0x5C ∷ 0x75 ∷ 0x30 ∷ 0x30 ∷ 0x31 ∷ 0x66 ∷ 0x7F ∷ 0xC3 ∷ 0xA9 ∷ 0x27 ∷ 0x5D ∷ 0x5B ∷ 0x31 ∷
    0x30 ∷ 0x5D ∷ []
unfolding path_text
escapes = refl
