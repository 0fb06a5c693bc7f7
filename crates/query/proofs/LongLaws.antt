-- A query of more than 1,024 bytes is judged by its first 1,024 alone: the machine's place in them is its place in the query, or their
-- end. Assumes nothing.
use Rattle.std.specs.Prelude.{◌≡◌, List, [], ◌∷◌, ◌⊎◌, ℕ, zero, suc, ◌≤◌, ◌<◌, min, length, take}
use Rattle.std.proofs.Common.{ap, sym, ◌∙◌, inl, inr, arith}
use Rattle.std.proofs.Math.Nat.{zero-min, min-zero, suc-min-suc, min-eq_left, min-eq_right}
use Rattle.bits.specs.Laws.{lt_or_ge}
use Rattle.query.specs.Machine.{Control, root, State, dead, at, step, place, start}
use Rattle.query.specs.Verdict.{max_query_bytes, overlong, query_verdict}
use Rattle.query.proofs.Says.{too_long, late}

-- the place in the first n bytes
place-take : (c : Control) (n : ℕ) (s : List ℕ) → place (at c) (take n s) ≡ min n (place (at c) s)
unfolding place
place-take c zero s = sym (zero-min (place (at c) s))
place-take c (suc n) [] = sym (min-zero (suc n))
place-take c (suc n) (b ∷ s) = go (step (at c) b) (λ k. place-take k n s)
  where
    go : (m : State) → ((k : Control) → place (at k) (take n s) ≡ min n (place (at k) s)) →
        elim m [ dead ↦ 0 | at k ↦ suc (place (at k) (take n s)) ] ≡ min (suc n) (elim m [ dead ↦ 0 | at k ↦ suc (place (at k) s) ])
    go dead again = sym (min-zero (suc n))
    go (at k) again = ap suc (again k) ∙ sym (suc-min-suc n (place (at k) s))

-- the verdict by the first 1,024 bytes
overlong-min : (p : ℕ) → overlong (min max_query_bytes p) ≡ overlong p
overlong-min p = go (lt_or_ge p max_query_bytes)
  where
    go : (p < max_query_bytes) ⊎ (max_query_bytes ≤ p) → overlong (min max_query_bytes p) ≡ overlong p
    go (inl h) = ap overlong (min-eq_right (omega arith))
    go (inr h) = ap overlong (min-eq_left h) ∙ late max_query_bytes (omega arith) ∙ sym (late p h)

pub overlong-take : (s : List ℕ) → overlong (place start (take max_query_bytes s)) ≡ overlong (place start s)
overlong-take s = ap overlong (place-take root max_query_bytes s) ∙ overlong-min (place start s)

-- so two queries of more than 1,024 bytes that begin with the same 1,024 have one verdict
pub first_bytes_decide : (s u : List ℕ) → max_query_bytes < length s → max_query_bytes < length u → take max_query_bytes s ≡ take max_query_bytes u →
    query_verdict s ≡ query_verdict u
first_bytes_decide s u h l e =
    too_long s h ∙ sym (overlong-take s) ∙ ap (λ (w : List ℕ). overlong (place start w)) e ∙ overlong-take u ∙ sym (too_long u l)
