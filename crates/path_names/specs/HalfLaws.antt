-- Whether half of a surrogate pair is among the escapes of a name: a byte that is no backslash has none, and an escape has one if it stands
-- for one. Assumes nothing.
use Rattle.std.specs.Prelude.{◌≡◌, refl, List, [], ◌∷◌, Bool, true, false, ◌||◌, ℕ, zero, suc, ◌≤◌, eqb, length, drop}
use Rattle.std.proofs.Common.{ap, arith, length-drop, ne_eqb}
use Rattle.encoding.specs.Unescape.{point_at, size_at}
use Rattle.encoding.specs.UnescapeLaws.{size_two}
use Rattle.paths.specs.Answer.{is_half_of}
use Rattle.path_names.specs.Escaped.{half_in, half_escaped}

turn : (n b : ℕ) (s : List ℕ) (x : Bool) → Bool
turn n b s x =
    elim x [
      | true ↦ is_half_of (point_at (b ∷ s)) || half_in n (drop (size_at (b ∷ s)) (b ∷ s))
      | false ↦ half_in n s
    ]

shorter : (n b : ℕ) (s : List ℕ) → suc (length s) ≤ suc n → length (drop (size_at (b ∷ s)) (b ∷ s)) ≤ n
shorter n b s h = omega (arith, length-drop (size_at (b ∷ s)) (b ∷ s), size_two (b ∷ s))

-- turns enough are as good as more
enough : (n m : ℕ) (s : List ℕ) → length s ≤ n → length s ≤ m → half_in n s ≡ half_in m s
unfolding half_in turn
enough zero zero s h k = refl
enough zero (suc m) [] h k = refl
enough zero (suc m) (b ∷ s) h k = absurd (omega arith)
enough (suc n) zero [] h k = refl
enough (suc n) zero (b ∷ s) h k = absurd (omega arith)
enough (suc n) (suc m) [] h k = refl
enough (suc n) (suc m) (b ∷ s) h k =
    go (eqb b 0x5C) (enough n m s (omega arith) (omega arith)) (enough n m (drop (size_at (b ∷ s)) (b ∷ s)) (shorter n b s h) (shorter m b s k))
  where
    go :
        (x : Bool) → half_in n s ≡ half_in m s →
        half_in n (drop (size_at (b ∷ s)) (b ∷ s)) ≡ half_in m (drop (size_at (b ∷ s)) (b ∷ s)) → turn n b s x ≡ turn m b s x
    go true e f = ap (λ (x : Bool). is_half_of (point_at (b ∷ s)) || x) f
    go false e f = e

pub half_nil : half_escaped [] ≡ false
unfolding half_escaped half_in
half_nil = refl

pub half_plain : (b : ℕ) (s : List ℕ) → (b ≡ 0x5C → ⊥) → half_escaped (b ∷ s) ≡ half_escaped s
unfolding half_escaped half_in turn
half_plain b s f = ap (turn (length s) b s) (ne_eqb b 0x5C f)

pub half_escape :
    (s : List ℕ) → half_escaped (0x5C ∷ s) ≡ (is_half_of (point_at (0x5C ∷ s)) || half_escaped (drop (size_at (0x5C ∷ s)) (0x5C ∷ s)))
unfolding half_escaped half_in
half_escape s =
    let t = drop (size_at (0x5C ∷ s)) (0x5C ∷ s) in
    ap (λ (x : Bool). is_half_of (point_at (0x5C ∷ s)) || x) (enough (length s) (length t) t (shorter (length s) 0x5C s (omega arith)) (omega arith))
