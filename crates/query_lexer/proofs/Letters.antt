-- Letters of a name at a place of a query: characters of the grammar that stand there are that part of the query, and it is spelt.
-- Assumes nothing.
use mathlib.Core.Path.{◌≡◌, ap, ap₂, sym, ◌∙◌}
use mathlib.Core.List.{List, [], ◌++◌}
use mathlib.Core.Bool.{true}
use Prim.Native.Nat.{ℕ, ◌+◌, ◌≤◌}
use native.Mathlib.Omega.{arith}
use lib.ListN.{length, drop}
use lib.Seq.{slice, length-slice}
use Rattle.query.specs.Machine.{Control}
use Rattle.query.specs.Read.{bad, reading}
use Rattle.query.proofs.Spell.{spell, spell_bad, Spells}
use Rattle.query.proofs.At.{written_slice}
use Rattle.query_lexer.specs.Scans.{spelt}

-- letters, and a dead byte behind them
pub spelt_bad : (q : List ℕ) (c k : Control) (i j r : ℕ) → reading c i (drop i q) ≡ spelt q k i true j → reading k j (drop j q) ≡ bad r →
    reading c i (drop i q) ≡ bad r
spelt_bad q c k i j r e f = e ∙ ap (spell (slice i j q)) f ∙ spell_bad (slice i j q) r

-- a character that stands there, whose bytes are letters, is spelt
pub spelt_put : (q : List ℕ) (c k : Control) (i r : ℕ) → i ≤ r → r ≤ length q → (put : List ℕ → List ℕ) →
    ((s u : List ℕ) → put (s ++ u) ≡ put s ++ u) → Spells c (put []) k → put (drop r q) ≡ drop i q → reading c i (drop i q) ≡ spelt q k i true r
spelt_put q c k i r l h put f g e =
    let w : put [] ≡ slice i r q = written_slice q (put []) i r l h (sym (f [] (drop r q)) ∙ e) in
    let far : i + length (put []) ≡ r = omega (arith, ap length w, length-slice i r q h) in
    ap (reading c i) (sym e ∙ f [] (drop r q)) ∙ g i (drop r q) ∙
    ap₂ (λ (x : List ℕ) (n : ℕ). spell x (reading k n (drop r q))) w far
