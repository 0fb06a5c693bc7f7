-- The verdict of a query is another than by the numbers of the grounds exactly if it has an early fault (change request S-5).
-- Assumes nothing.
use Rattle.std.specs.Prelude.{◌≡◌, List, ◌⊎◌, ℕ, ◌≤◌, ◌<◌, length}
use Rattle.std.proofs.Common.{ap, sym, ◌∙◌, inl, inr, le-leb}
use Rattle.std.proofs.lemmas.Bool.{lt-leb}
use Rattle.bits.specs.Laws.{lt_or_ge}
use Rattle.encoding.specs.PrefixLaws.{dead_place_unique}
use Rattle.encoding.specs.Verdict.{refused}
use Rattle.query.specs.Grammar.{QueryText}
use Rattle.query.specs.Machine.{place, start}
use Rattle.query.proofs.Place.{dead_place}
use Rattle.query.specs.Verdict.{max_query_bytes, overlong, query_verdict}
use Rattle.query.proofs.Says.{short_enough, too_long, early, late}
use Rattle.query.specs.ByNumber.{EarlyFault, by_number}

by_number_long : (s : List ℕ) → max_query_bytes < length s → by_number s ≡ refused 1 max_query_bytes
unfolding by_number
by_number_long s h = rw (lt-leb (length s) max_query_bytes h, by_number)

by_number_short : (s : List ℕ) → length s ≤ max_query_bytes → by_number s ≡ query_verdict s
unfolding by_number
by_number_short s h = rw (le-leb (length s) max_query_bytes h, by_number) (sym (short_enough s h))

-- an early fault was ground 1, and is ground 2 with its place
pub early_fault : {s : List ℕ} {p : ℕ} → EarlyFault s p → (by_number s ≡ refused 1 max_query_bytes) × (query_verdict s ≡ refused 2 p)
early_fault {s} {p} x = (
  by_number_long s x.long,
  too_long s x.long ∙ ap overlong (dead_place_unique QueryText s (dead_place s) x.dead) ∙ early p x.early,
)

-- and no other verdict is another
pub only_early_faults : (s : List ℕ) → (query_verdict s ≡ by_number s) ⊎ ((p : ℕ) × EarlyFault s p)
only_early_faults s = go (lt_or_ge max_query_bytes (length s)) (lt_or_ge (place start s) max_query_bytes)
  where
    go : (max_query_bytes < length s) ⊎ (length s ≤ max_query_bytes) → (place start s < max_query_bytes) ⊎ (max_query_bytes ≤ place start s) →
        (query_verdict s ≡ by_number s) ⊎ ((p : ℕ) × EarlyFault s p)
    go (inl h) (inl l) = inr (place start s, record { long = h; dead = dead_place s; early = l })
    go (inl h) (inr l) = inl (too_long s h ∙ late (place start s) l ∙ sym (by_number_long s h))
    go (inr h) l = inl (sym (by_number_short s h))
