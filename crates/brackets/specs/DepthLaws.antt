-- Laws of open brackets: from a place on with what is open there; where none is open, or no bracket stands; and at a bracket. Assumes nothing.
use Rattle.std.specs.Prelude.{◌≡◌, Bool, true}
use Rattle.std.proofs.Math.Path.{refl, ap, ap₂}
use Rattle.std.proofs.Common.{sym, ◌∙◌, add-zero, add-suc, arith}
use Rattle.std.proofs.Math.Bool.{false}
use Prim.Native.Nat.{ℕ, zero, suc, ◌+◌, ◌-◌, ◌<◌, ◌≤◌}
use Rattle.brackets.specs.Depth.{after_place, depth_at}

-- a place adds at most one
pub after_le : (o c : Bool) (n : ℕ) → after_place o c n ≤ n + 1
unfolding after_place
after_le o c zero = omega arith
after_le true c (suc n) = omega arith
after_le false true (suc n) = omega arith
after_le false false (suc n) = omega arith

module _ (f g : ℕ → Bool) (n : ℕ) where
  -- on from place p
  pub depth_on : (p i : ℕ) → depth_at (λ j. f (p + j)) (λ j. g (p + j)) (depth_at f g n p) i ≡ depth_at f g n (p + i)
  unfolding depth_at
  depth_on p zero = ap (depth_at f g n) (sym (add-zero p))
  depth_on p (suc i) = ap (after_place (f (p + i)) (g (p + i))) (depth_on p i) ∙ ap (depth_at f g n) (sym (add-suc p i))

  -- once none is open, that stays so
  pub depth_none : (p i : ℕ) → depth_at f g n p ≡ 0 → depth_at f g n (p + i) ≡ 0
  unfolding depth_at after_place
  depth_none p zero e = ap (depth_at f g n) (add-zero p) ∙ e
  depth_none p (suc i) e = ap (depth_at f g n) (add-suc p i) ∙ ap (after_place (f (p + i)) (g (p + i))) (depth_none p i e)

  pub depth_none_at : (p q : ℕ) → p ≤ q → depth_at f g n p ≡ 0 → depth_at f g n q ≡ 0
  depth_none_at p q h e = let z : q ≡ p + (q - p) = omega arith in ap (depth_at f g n) z ∙ depth_none p (q - p) e

  -- a place without a bracket, and places without
  pub depth_calm : (i : ℕ) → f i ≡ false → g i ≡ false → depth_at f g n (suc i) ≡ depth_at f g n i
  unfolding depth_at after_place
  depth_calm i p q = ap₂ (λ (x y : Bool). after_place x y (depth_at f g n i)) p q ∙ same (depth_at f g n i)
    where
      same : (m : ℕ) → after_place false false m ≡ m
      same zero = refl
      same (suc m) = refl

  -- so it falls from 1 to 0 only at a bracket
  pub depth_falls : (i : ℕ) → depth_at f g n i ≡ 1 → depth_at f g n (suc i) ≡ 0 → f i ≡ false → g i ≡ false → ⊥
  depth_falls i before behind p q = omega (arith, before, behind, depth_calm i p q)

  pub depth_quiet : (p i : ℕ) → ((j : ℕ) → p ≤ j → j < p + i → (f j ≡ false) × (g j ≡ false)) → depth_at f g n (p + i) ≡ depth_at f g n p
  depth_quiet p zero h = ap (depth_at f g n) (add-zero p)
  depth_quiet p (suc i) h =
      let z = h (p + i) (omega arith) (omega arith) in
      ap (depth_at f g n) (add-suc p i) ∙ depth_calm (p + i) z.0 z.1 ∙ depth_quiet p i (λ j l r. h j l (omega arith))

  pub depth_quiet_to : (p q : ℕ) → p ≤ q → ((j : ℕ) → p ≤ j → j < q → (f j ≡ false) × (g j ≡ false)) → depth_at f g n q ≡ depth_at f g n p
  depth_quiet_to p q l h =
      let z : q ≡ p + (q - p) = omega arith in
      ap (depth_at f g n) z ∙ depth_quiet p (q - p) (λ j a b. h j a (omega arith))

  -- a bracket
  pub depth_more : (i m : ℕ) → f i ≡ true → depth_at f g n i ≡ suc m → depth_at f g n (suc i) ≡ suc (suc m)
  unfolding depth_at after_place
  depth_more i m p e = ap₂ (λ (x : Bool) (y : ℕ). after_place x (g i) y) p e

  pub depth_less : (i m : ℕ) → f i ≡ false → g i ≡ true → depth_at f g n i ≡ suc m → depth_at f g n (suc i) ≡ m
  unfolding depth_at after_place
  depth_less i m p q e = rw (p, q, e) refl

-- two rows of brackets that agree before place i
pub depth_same : (f g u v : ℕ → Bool) (n i : ℕ) → ((j : ℕ) → j < i → f j ≡ u j) → ((j : ℕ) → j < i → g j ≡ v j) → depth_at f g n i ≡ depth_at u v n i
unfolding depth_at
depth_same f g u v n zero p q = refl
depth_same f g u v n (suc i) p q =
    ap₂ (λ (x y : Bool). after_place x y (depth_at f g n i)) (p i (omega arith)) (q i (omega arith))
    ∙ ap (after_place (u i) (v i)) (depth_same f g u v n i (λ j l. p j (omega arith)) (λ j l. q j (omega arith)))
