-- Laws of what can begin a text and of dead bytes, for any set of texts: what can begin one can be cut short, so the bytes before the dead
-- one, and they alone, can go on. Assumes nothing.
use Rattle.std.specs.Prelude.{◌≡◌, ℕ, suc, ◌+◌, ◌-◌, ◌≤◌, ◌<◌, drop, length}
use Rattle.std.proofs.Math.Path.{ap}
use Rattle.std.proofs.Common.{sym, ◌∙◌, le_antisymm}
use mathlib.Core.List.{List, ◌++◌, append_assoc}
use native.Mathlib.Omega.{arith, by_contra}
use Rattle.std.proofs.Math.ListN.{take, take-append-drop}
use Rattle.std.proofs.Math.Seq.{take-add}
use Rattle.encoding.specs.Prefix.{Alive, DeadPlace}

module _ (L : List ℕ → Type 0) (s : List ℕ) where
  -- what can begin a text can be cut short
  pub alive-take : (n : ℕ) → Alive L s → Alive L (take n s)
  unfolding Alive
  alive-take n (u, t) = (drop n s ++ u, rw (← append_assoc, take-append-drop) t)

  pub alive_less : (m n : ℕ) → m ≤ n → Alive L (take n s) → Alive L (take m s)
  unfolding Alive
  alive_less m n h (u, t) =
      let e : m + (n - m) ≡ n = omega arith in
      let q : take n s ≡ take m s ++ take (n - m) (drop m s) = ap (λ (x : ℕ). take x s) (sym e) ∙ take-add m (n - m) s in
      (take (n - m) (drop m s) ++ u, rw (q, append_assoc) at t)

  -- a text's own beginnings
  pub alive_text : (n : ℕ) → L s → Alive L (take n s)
  unfolding Alive
  alive_text n t = (drop n s, rw take-append-drop t)

  -- the dead byte, where the bytes before it can go on
  pub dead_place_at : (n : ℕ) → n ≤ length s → Alive L (take n s) → (n < length s → Alive L (take (suc n) s) → ⊥) → DeadPlace L s n
  dead_place_at n h a d = record { within = h; before = λ i l. alive_less (suc i) n l a; dead = d }

  -- a text has one dead byte
  pub dead_place_unique : {p q : ℕ} → DeadPlace L s p → DeadPlace L s q → p ≡ q
  dead_place_unique {p} {q} x y = le_antisymm (no_later q p y x) (no_later p q x y)
    where
      no_later : (i j : ℕ) → DeadPlace L s i → DeadPlace L s j → j ≤ i
      no_later i j d d' = by_contra j i (λ h. d.dead (omega (arith, d'.within)) (d'.before i h))
