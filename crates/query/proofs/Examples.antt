-- Queries on both sides of each rule, with their verdicts and steps, by computing (document 01, "The part of RFC 9535", "Grounds for refusing").
use Rattle.std.specs.Prelude.{◌≡◌, refl, List, [], ◌∷◌, map, true, false, ℕ, zero, suc, length}
use Rattle.std.proofs.Common.{leb-true}
use Rattle.encoding.specs.Verdict.{Verdict, taken, refused}
use Rattle.query.specs.Steps.{Selector, name, every, position, Step}
use Rattle.query.specs.Machine.{place}
use Rattle.query.proofs.Place.{dead_place}
use Rattle.query.specs.Verdict.{query_verdict, steps_in}
use Rattle.query.specs.ByNumber.{EarlyFault, by_number}

record Row : Type 0 where
  pub query : List ℕ
  pub verdict : Verdict
  pub steps : List Step

abbrev row : List ℕ → Verdict → List Step → Row
row q v x = record { query = q; verdict = v; steps = x }

abbrev child : Selector → Step
child x = record { deep = false; selector = x }

abbrev descendant : Selector → Step
descendant x = record { deep = true; selector = x }

abbrev table : List Row
table =
    row [] (refused 2 0) [] ∷  -- the empty query
    row (0x24 ∷ []) taken [] ∷  -- `$`
    row (0x61 ∷ []) (refused 2 0) [] ∷  -- no `$`
    row (0x20 ∷ 0x24 ∷ []) (refused 2 0) [] ∷  -- a blank before it
    row (0x24 ∷ 0x2E ∷ 0x61 ∷ []) taken (child (name (0x61 ∷ [])) ∷ []) ∷  -- `$.a`
    row (0x24 ∷ 0x2E ∷ 0x61 ∷ 0x20 ∷ []) (refused 2 4) [] ∷  -- `$.a` and a blank
    row (0x24 ∷ 0x2E ∷ 0x61 ∷ 0x20 ∷ 0x2E ∷ 0x62 ∷ []) taken (child (name (0x61 ∷ [])) ∷ child (name (0x62 ∷ [])) ∷ []) ∷  -- `$.a.b`
    row (0x24 ∷ 0x2E ∷ 0x61 ∷ 0x31 ∷ []) taken (child (name (0x61 ∷ 0x31 ∷ [])) ∷ []) ∷  -- `$.a1`
    row (0x24 ∷ 0x2E ∷ 0x31 ∷ 0x61 ∷ []) (refused 2 2) [] ∷  -- `$.1a`
    row (0x24 ∷ 0x2E ∷ 0x20 ∷ 0x61 ∷ []) (refused 2 2) [] ∷  -- `$. a`
    row (0x24 ∷ 0x2E ∷ 0x2A ∷ []) taken (child every ∷ []) ∷  -- `$.*`
    row (0x24 ∷ 0x2E ∷ 0x2E ∷ []) (refused 2 3) [] ∷  -- `$..`
    row (0x24 ∷ 0x2E ∷ 0x2E ∷ 0x2A ∷ []) taken (descendant every ∷ []) ∷  -- `$..*`
    row (0x24 ∷ 0x2E ∷ 0x2E ∷ 0x61 ∷ 0x2E ∷ 0x2E ∷ 0x62 ∷ []) taken (descendant (name (0x61 ∷ [])) ∷ descendant (name (0x62 ∷ [])) ∷ []) ∷  -- `$..a..b`
    row (0x24 ∷ 0x2E ∷ 0x2E ∷ 0x2E ∷ 0x61 ∷ []) (refused 2 3) [] ∷  -- `$...a`
    row (0x24 ∷ 0x2E ∷ 0x2E ∷ 0x20 ∷ 0x61 ∷ []) (refused 2 3) [] ∷  -- `$.. a`
    row (0x24 ∷ 0x5B ∷ 0x2A ∷ 0x5D ∷ []) taken (child every ∷ []) ∷  -- `$[*]`
    row (0x24 ∷ 0x2E ∷ 0x2E ∷ 0x5B ∷ 0x2A ∷ 0x5D ∷ []) taken (descendant every ∷ []) ∷  -- `$..[*]`
    row (0x24 ∷ 0x2E ∷ 0x5B ∷ 0x2A ∷ 0x5D ∷ []) (refused 2 2) [] ∷  -- `$.[*]`
    row (0x24 ∷ 0x2E ∷ 0x2E ∷ 0x20 ∷ 0x5B ∷ 0x2A ∷ 0x5D ∷ []) (refused 2 3) [] ∷  -- `$.. [*]`
    row (0x24 ∷ 0x5B ∷ 0x27 ∷ 0x61 ∷ 0x27 ∷ 0x5D ∷ []) taken (child (name (0x61 ∷ [])) ∷ []) ∷  -- `$['a']`
    row (0x24 ∷ 0x5B ∷ 0x20 ∷ 0x27 ∷ 0x61 ∷ 0x27 ∷ 0x20 ∷ 0x5D ∷ []) taken (child (name (0x61 ∷ [])) ∷ []) ∷  -- `$[ 'a' ]`
    row (0x24 ∷ 0x20 ∷ 0x5B ∷ 0x27 ∷ 0x61 ∷ 0x27 ∷ 0x20 ∷ 0x5D ∷ []) taken (child (name (0x61 ∷ [])) ∷ []) ∷  -- `$ ['a' ]`
    row (0x24 ∷ 0x09 ∷ 0x0A ∷ 0x0D ∷ 0x5B ∷ 0x27 ∷ 0x61 ∷ 0x27 ∷ 0x5D ∷ []) taken (child (name (0x61 ∷ [])) ∷ []) ∷  -- a tab, a line feed, a carriage return and `['a']`
    row (0x24 ∷ 0x5B ∷ 0x27 ∷ 0x61 ∷ 0x27 ∷ 0x5D ∷ 0x20 ∷ []) (refused 2 7) [] ∷  -- `$['a']` and a blank
    row (0x24 ∷ 0x5B ∷ 0x30 ∷ 0x5D ∷ []) taken (child (position 0) ∷ []) ∷  -- `$[0]`
    row (0x24 ∷ 0x5B ∷ 0x30 ∷ 0x30 ∷ 0x5D ∷ []) (refused 2 3) [] ∷  -- `$[00]`
    row (0x24 ∷ 0x5B ∷ 0x39 ∷ 0x30 ∷ 0x30 ∷ 0x37 ∷ 0x31 ∷ 0x39 ∷ 0x39 ∷ 0x32 ∷ 0x35 ∷ 0x34 ∷ 0x37 ∷ 0x34 ∷ 0x30 ∷ 0x39 ∷ 0x39 ∷ 0x31 ∷ 0x5D ∷ []) taken (child (position 9007199254740991) ∷ []) ∷  -- 2^53 - 1
    row (0x24 ∷ 0x5B ∷ 0x39 ∷ 0x30 ∷ 0x30 ∷ 0x37 ∷ 0x31 ∷ 0x39 ∷ 0x39 ∷ 0x32 ∷ 0x35 ∷ 0x34 ∷ 0x37 ∷ 0x34 ∷ 0x30 ∷ 0x39 ∷ 0x39 ∷ 0x32 ∷ 0x5D ∷ []) (refused 2 17) [] ∷  -- 2^53: the digit that carries it past the maximum
    row (0x24 ∷ 0x5B ∷ 0x31 ∷ 0x30 ∷ 0x30 ∷ 0x30 ∷ 0x30 ∷ 0x30 ∷ 0x30 ∷ 0x30 ∷ 0x30 ∷ 0x30 ∷ 0x30 ∷ 0x30 ∷ 0x30 ∷ 0x30 ∷ 0x30 ∷ 0x30 ∷ 0x30 ∷ 0x5D ∷ []) (refused 2 18) [] ∷  -- 10^16
    row (0x24 ∷ 0x5B ∷ 0x2D ∷ 0x31 ∷ 0x5D ∷ []) (refused 2 2) [] ∷  -- `$[-1]`
    row (0x24 ∷ 0x5B ∷ 0x31 ∷ 0x2E ∷ 0x30 ∷ 0x5D ∷ []) (refused 2 3) [] ∷  -- `$[1.0]`
    row (0x24 ∷ 0x5B ∷ 0x31 ∷ 0x20 ∷ 0x32 ∷ 0x5D ∷ []) (refused 2 4) [] ∷  -- `$[1 2]`
    row (0x24 ∷ 0x5B ∷ 0x31 ∷ []) (refused 2 3) [] ∷  -- `$[1`
    row (0x24 ∷ 0x2E ∷ 0x30 ∷ []) (refused 2 2) [] ∷  -- `$.0`
    row (0x24 ∷ 0x2E ∷ 0x2E ∷ 0x5B ∷ 0x37 ∷ 0x5D ∷ []) taken (descendant (position 7) ∷ []) ∷  -- `$..[7]`
    row (0x24 ∷ 0x5B ∷ 0x20 ∷ 0x37 ∷ 0x20 ∷ 0x5D ∷ []) taken (child (position 7) ∷ []) ∷  -- `$[ 7 ]`
    row (0x24 ∷ 0x5B ∷ 0x30 ∷ 0x5D ∷ 0x5B ∷ 0x30 ∷ 0x5D ∷ []) taken (child (position 0) ∷ child (position 0) ∷ []) ∷  -- `$[0][0]`
    row (0x24 ∷ 0x5B ∷ 0x31 ∷ 0x30 ∷ 0x5D ∷ []) taken (child (position 10) ∷ []) ∷  -- `$[10]`
    row (0x24 ∷ 0x5B ∷ 0x31 ∷ 0x2C ∷ 0x32 ∷ 0x5D ∷ []) (refused 2 3) [] ∷  -- `$[1,2]`
    row (0x24 ∷ 0x5B ∷ 0x31 ∷ 0x3A ∷ 0x32 ∷ 0x5D ∷ []) (refused 2 3) [] ∷  -- `$[1:2]`
    row (0x24 ∷ 0x5B ∷ 0x27 ∷ 0x61 ∷ 0x27 ∷ 0x2C ∷ 0x27 ∷ 0x62 ∷ 0x27 ∷ 0x5D ∷ []) (refused 2 5) [] ∷  -- `$['a','b']`
    row (0x24 ∷ 0x5B ∷ 0x27 ∷ 0x61 ∷ 0x22 ∷ 0x62 ∷ 0x27 ∷ 0x5D ∷ []) taken (child (name (0x61 ∷ 0x22 ∷ 0x62 ∷ [])) ∷ []) ∷  -- `$['a"b']`
    row (0x24 ∷ 0x5B ∷ 0x27 ∷ 0x61 ∷ 0x27 ∷ 0x62 ∷ 0x27 ∷ 0x5D ∷ []) (refused 2 5) [] ∷  -- `$['a'b']`
    row (0x24 ∷ 0x5B ∷ 0x22 ∷ 0x61 ∷ 0x27 ∷ 0x62 ∷ 0x22 ∷ 0x5D ∷ []) taken (child (name (0x61 ∷ 0x27 ∷ 0x62 ∷ [])) ∷ []) ∷  -- `$["a'b"]`
    row (0x24 ∷ 0x5B ∷ 0x22 ∷ 0x22 ∷ 0x5D ∷ []) taken (child (name []) ∷ []) ∷  -- `$[""]`
    row (0x24 ∷ 0x2E ∷ 0x61 ∷ 0x1F ∷ []) (refused 2 3) [] ∷  -- a control in a shorthand name
    row (0x24 ∷ 0x5B ∷ 0x27 ∷ 0x61 ∷ 0x1F ∷ 0x27 ∷ 0x5D ∷ []) (refused 2 4) [] ∷  -- and in a quoted name
    row (0x24 ∷ 0x5B ∷ 0x27 ∷ 0x61 ∷ 0x7F ∷ 0x27 ∷ 0x5D ∷ []) taken (child (name (0x61 ∷ 0x7F ∷ [])) ∷ []) ∷  -- 7F is none of those below 20
    row (0x24 ∷ 0x2E ∷ 0x61 ∷ 0x5C ∷ []) (refused 2 3) [] ∷  -- a backslash in a shorthand name
    row (0x24 ∷ 0x5B ∷ 0x27 ∷ 0x61 ∷ 0x5C ∷ 0x27 ∷ 0x5D ∷ []) (refused 2 7) [] ∷  -- `$['a\']`: a quote that is escaped ends no name
    row (0x24 ∷ 0x2E ∷ 0x6C ∷ 0x6F ∷ 0x74 ∷ []) taken (child (name (0x6C ∷ 0x6F ∷ 0x74 ∷ [])) ∷ []) ∷  -- `$.lot`
    row (0x24 ∷ 0x5B ∷ 0x27 ∷ 0x5C ∷ 0x75 ∷ 0x30 ∷ 0x30 ∷ 0x36 ∷ 0x63 ∷ 0x6F ∷ 0x74 ∷ 0x27 ∷ 0x5D ∷ []) taken (child (name (0x6C ∷ 0x6F ∷ 0x74 ∷ [])) ∷ []) ∷  -- `$['\u006cot']`: the same name
    row (0x24 ∷ 0x2E ∷ 0x61 ∷ 0x5C ∷ 0x75 ∷ 0x30 ∷ 0x30 ∷ 0x36 ∷ 0x32 ∷ []) (refused 2 3) [] ∷  -- `$.a\u0062`: a shorthand name has no escapes
    row (0x24 ∷ 0x5B ∷ 0x27 ∷ 0x5C ∷ 0x27 ∷ 0x27 ∷ 0x5D ∷ []) taken (child (name (0x27 ∷ [])) ∷ []) ∷  -- `$['\'']`: its own quote
    row (0x24 ∷ 0x5B ∷ 0x22 ∷ 0x5C ∷ 0x22 ∷ 0x22 ∷ 0x5D ∷ []) taken (child (name (0x22 ∷ [])) ∷ []) ∷  -- `$["\""]`
    row (0x24 ∷ 0x5B ∷ 0x22 ∷ 0x5C ∷ 0x27 ∷ 0x22 ∷ 0x5D ∷ []) (refused 2 4) [] ∷  -- `$["\'"]`: the other quote
    row (0x24 ∷ 0x5B ∷ 0x27 ∷ 0x5C ∷ 0x2F ∷ 0x5C ∷ 0x5C ∷ 0x5C ∷ 0x62 ∷ 0x5C ∷ 0x66 ∷ 0x5C ∷ 0x6E ∷ 0x5C ∷ 0x72 ∷ 0x5C ∷ 0x74 ∷ 0x27 ∷ 0x5D ∷ []) taken (child (name (0x2F ∷ 0x5C ∷ 0x08 ∷ 0x0C ∷ 0x0A ∷ 0x0D ∷ 0x09 ∷ [])) ∷ []) ∷  -- `$['\/\\\b\f\n\r\t']`
    row (0x24 ∷ 0x5B ∷ 0x27 ∷ 0x5C ∷ 0x78 ∷ 0x27 ∷ 0x5D ∷ []) (refused 2 4) [] ∷  -- `$['\x']`: no escape
    row (0x24 ∷ 0x5B ∷ 0x27 ∷ 0x5C ∷ 0x55 ∷ 0x30 ∷ 0x30 ∷ 0x34 ∷ 0x31 ∷ 0x27 ∷ 0x5D ∷ []) (refused 2 4) [] ∷  -- `$['\U0041']`: nor this
    row (0x24 ∷ 0x5B ∷ 0x27 ∷ 0x5C ∷ 0x75 ∷ 0x30 ∷ 0x30 ∷ 0x67 ∷ 0x30 ∷ 0x27 ∷ 0x5D ∷ []) (refused 2 7) [] ∷  -- `$['\u00g0']`: no digit
    row (0x24 ∷ 0x5B ∷ 0x27 ∷ 0x5C ∷ 0x75 ∷ 0x64 ∷ 0x37 ∷ 0x66 ∷ 0x66 ∷ 0x27 ∷ 0x5D ∷ []) taken (child (name (0xD7FF ∷ [])) ∷ []) ∷  -- `$['\ud7ff']`: right below the halves of pairs
    row (0x24 ∷ 0x5B ∷ 0x27 ∷ 0x5C ∷ 0x75 ∷ 0x64 ∷ 0x38 ∷ 0x33 ∷ 0x64 ∷ 0x5C ∷ 0x75 ∷ 0x64 ∷ 0x65 ∷ 0x30 ∷ 0x30 ∷ 0x27 ∷ 0x5D ∷ []) taken (child (name (0x1F600 ∷ [])) ∷ []) ∷  -- `$['\ud83d\ude00']`: a pair
    row (0x24 ∷ 0x5B ∷ 0x27 ∷ 0x5C ∷ 0x75 ∷ 0x44 ∷ 0x38 ∷ 0x33 ∷ 0x44 ∷ 0x5C ∷ 0x75 ∷ 0x44 ∷ 0x45 ∷ 0x30 ∷ 0x30 ∷ 0x27 ∷ 0x5D ∷ []) taken (child (name (0x1F600 ∷ [])) ∷ []) ∷  -- `$['\uD83D\uDE00']`
    row (0x24 ∷ 0x5B ∷ 0x27 ∷ 0xF0 ∷ 0x9F ∷ 0x98 ∷ 0x80 ∷ 0x27 ∷ 0x5D ∷ []) taken (child (name (0x1F600 ∷ [])) ∷ []) ∷  -- the same as itself
    row (0x24 ∷ 0x5B ∷ 0x27 ∷ 0x5C ∷ 0x75 ∷ 0x44 ∷ 0x43 ∷ 0x30 ∷ 0x30 ∷ 0x27 ∷ 0x5D ∷ []) (refused 2 6) [] ∷  -- `$['\uDC00']`: a low half alone
    row (0x24 ∷ 0x5B ∷ 0x27 ∷ 0x5C ∷ 0x75 ∷ 0x44 ∷ 0x38 ∷ 0x30 ∷ 0x30 ∷ 0x27 ∷ 0x5D ∷ []) (refused 2 9) [] ∷  -- `$['\uD800']`: a high half alone
    row (0x24 ∷ 0x5B ∷ 0x27 ∷ 0x5C ∷ 0x75 ∷ 0x44 ∷ 0x38 ∷ 0x30 ∷ 0x30 ∷ 0x5C ∷ 0x6E ∷ 0x27 ∷ 0x5D ∷ []) (refused 2 10) [] ∷  -- `$['\uD800\n']`: a high half, and another escape
    row (0x24 ∷ 0x5B ∷ 0x27 ∷ 0x5C ∷ 0x75 ∷ 0x44 ∷ 0x38 ∷ 0x30 ∷ 0x30 ∷ 0x5C ∷ 0x75 ∷ 0x30 ∷ 0x30 ∷ 0x34 ∷ 0x31 ∷ 0x27 ∷ 0x5D ∷ []) (refused 2 11) [] ∷  -- `$['\uD800\u0041']`: no half
    row (0x24 ∷ 0x5B ∷ 0x27 ∷ 0x5C ∷ 0x75 ∷ 0x44 ∷ 0x38 ∷ 0x30 ∷ 0x30 ∷ 0x5C ∷ 0x75 ∷ 0x44 ∷ 0x38 ∷ 0x30 ∷ 0x30 ∷ 0x27 ∷ 0x5D ∷ []) (refused 2 12) [] ∷  -- `$['\uD800\uD800']`: two high halves
    row (0x24 ∷ 0x2E ∷ 0xC3 ∷ 0xA9 ∷ []) taken (child (name (0xE9 ∷ [])) ∷ []) ∷  -- U+00E9
    row (0x24 ∷ 0x5B ∷ 0x27 ∷ 0xF4 ∷ 0x8F ∷ 0xBF ∷ 0xBF ∷ 0x27 ∷ 0x5D ∷ []) taken (child (name (0x10FFFF ∷ [])) ∷ []) ∷  -- U+10FFFF
    row (0x24 ∷ 0x2E ∷ 0xC0 ∷ 0x80 ∷ []) (refused 2 2) [] ∷  -- no code point begins with C0
    row (0x24 ∷ 0x5B ∷ 0x27 ∷ 0xC0 ∷ 0x80 ∷ 0x27 ∷ 0x5D ∷ []) (refused 2 3) [] ∷  -- nor in a quoted name
    row (0x24 ∷ 0x2E ∷ 0xED ∷ 0xA0 ∷ []) (refused 2 3) [] ∷  -- nor with ED A0
    row (0x24 ∷ 0x5B ∷ 0x27 ∷ 0xED ∷ 0xA0 ∷ 0x80 ∷ 0x27 ∷ 0x5D ∷ []) (refused 2 4) [] ∷  -- nor in a quoted name
    row (0x24 ∷ 0x2E ∷ 0xC3 ∷ []) (refused 2 3) [] ∷  -- a code point cut short
    []

verdicts_right : map (λ (r : Row). query_verdict r.query) table ≡ map (λ (r : Row). r.verdict) table
unfolding query_verdict
verdicts_right = refl

steps_right : map (λ (r : Row). steps_in r.query) table ≡ map (λ (r : Row). r.steps) table
unfolding steps_in
steps_right = refl

-- the limits: n steps `.*` and then s; n letters and then s

stars : ℕ → List ℕ → List ℕ
stars zero s = s
stars (suc n) s = 0x2E ∷ 0x2A ∷ stars n s

letters : ℕ → List ℕ → List ℕ
letters zero s = s
letters (suc n) s = 0x61 ∷ letters n s

sixteen_steps : query_verdict (0x24 ∷ stars 16 []) ≡ taken
unfolding query_verdict stars
sixteen_steps = refl

seventeen_steps : query_verdict (0x24 ∷ stars 17 []) ≡ refused 3 33
unfolding query_verdict stars
seventeen_steps = refl

-- two blanks and `..[*]`: the place is the first `.`
seventeen_deep : query_verdict (0x24 ∷ stars 16 (0x20 ∷ 0x20 ∷ 0x2E ∷ 0x2E ∷ 0x5B ∷ 0x2A ∷ 0x5D ∷ [])) ≡ refused 3 35
unfolding query_verdict stars
seventeen_deep = refl

-- ground 2 is tried before ground 3
seventeen_wrong : query_verdict (0x24 ∷ stars 17 (0x20 ∷ [])) ≡ refused 2 36
unfolding query_verdict stars
seventeen_wrong = refl

longest : query_verdict (0x24 ∷ 0x2E ∷ letters 1022 []) ≡ taken
unfolding query_verdict letters
longest = refl

too_long : query_verdict (0x24 ∷ 0x2E ∷ letters 1023 []) ≡ refused 1 1024
unfolding query_verdict letters
too_long = refl

-- a query of 1,025 bytes, change request S-5: its first byte is dead, or the one at 1,023; the one at 1,024; or none is, and a name is cut short

dead_first : query_verdict (letters 1025 []) ≡ refused 2 0
unfolding query_verdict letters
dead_first = refl

dead_at_1023 : query_verdict (0x24 ∷ 0x2E ∷ letters 1021 (0x21 ∷ 0x61 ∷ [])) ≡ refused 2 1023
unfolding query_verdict letters
dead_at_1023 = refl

dead_at_1024 : query_verdict (0x24 ∷ 0x2E ∷ letters 1022 (0x21 ∷ [])) ≡ refused 1 1024
unfolding query_verdict letters
dead_at_1024 = refl

cut_short : query_verdict (0x24 ∷ 0x5B ∷ 0x27 ∷ letters 1022 []) ≡ refused 1 1024
unfolding query_verdict letters
cut_short = refl

-- of 1,024 bytes, the same faults at 1,023 and at the end
short_dead : query_verdict (0x24 ∷ 0x2E ∷ letters 1021 (0x21 ∷ [])) ≡ refused 2 1023
unfolding query_verdict letters
short_dead = refl

short_cut : query_verdict (0x24 ∷ 0x5B ∷ 0x27 ∷ letters 1021 []) ≡ refused 2 1024
unfolding query_verdict letters
short_cut = refl

-- ground 1 is tried before ground 3, and ground 2 before both: 17 steps in 1,025 bytes, and with a dead byte behind them
seventeen_long : query_verdict (0x24 ∷ stars 16 (0x2E ∷ letters 991 [])) ≡ refused 1 1024
unfolding query_verdict stars letters
seventeen_long = refl

seventeen_long_wrong : query_verdict (0x24 ∷ stars 17 (0x21 ∷ letters 989 [])) ≡ refused 2 35
unfolding query_verdict stars letters
seventeen_long_wrong = refl

-- where ground 1 is tried first, an early fault is not told
fault_met : EarlyFault (letters 1025 []) 0
unfolding letters place
fault_met = record { long = leb-true 1025 (length (letters 1025 [])) refl; dead = dead_place (letters 1025 []); early = leb-true 1 1024 refl }

fault_not_told : by_number (letters 1025 []) ≡ refused 1 1024
unfolding by_number letters
fault_not_told = refl
