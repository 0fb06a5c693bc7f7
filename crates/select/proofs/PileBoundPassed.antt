-- The bound by the steps of a query, where they are passed from the first on: up to the first deep step each of them counts, and from
-- there on all have to be deep. Assumes nothing.
use Rattle.std.specs.Prelude.{◌≡◌, Bool, ◌&&◌, ℕ, zero, suc, ◌+◌, ◌-◌, ◌<◌, length, drop}
use Rattle.std.proofs.Math.Path.{refl, ap}
use Rattle.std.proofs.Common.{sym, ◌∙◌, add-one, arith}
use mathlib.Core.List.{List, [], ◌∷◌}
use Rattle.std.proofs.Math.Bool.{true, false}
use Rattle.std.proofs.lemmas.Bool.{false≢true}
use Rattle.std.proofs.Math.Option.{Option, some, none}
use Rattle.std.proofs.Math.ListN.{get_elem?, length-drop}
use Rattle.std.proofs.Math.Seq.{drop-length}
use Rattle.query.specs.Steps.{Step, is_deep}
use Rattle.select.specs.PileBoundOf.{all_deep, some_if, one_more, bound_from, pile_bound}

-- so many steps more that count
unfoldable more : ℕ → Option ℕ → Option ℕ
unfolding one_more
more zero b = b
more (suc n) b = more n (one_more b)

-- what is known of the bound behind n steps, by whether a deep one was among them
unfoldable pub Passed : List Step → ℕ → (found : Bool) → Type 0
unfolding more pile_bound some_if all_deep
Passed q n false = pile_bound q ≡ more n (pile_bound (drop n q))
Passed q n true = pile_bound q ≡ some_if (all_deep (drop n q)) (length q - 1)

-- the step behind n others, and those behind it
behind : (q : List Step) (n : ℕ) → n < length q → (s : Step) × (drop n q ≡ s ∷ drop (suc n) q) × (is_deep (get_elem? q n) ≡ s.deep)
behind [] n h = absurd (omega arith)
behind (s ∷ q) zero h = (s, refl, refl)
behind (s ∷ q) (suc n) h = behind q n (omega arith)

more_some : (n k : ℕ) → more n (some k) ≡ some (n + k)
unfolding more one_more
more_some zero k = ap some (omega arith)
more_some (suc n) k = more_some n (suc k) ∙ ap some (omega arith)

more_none : (n : ℕ) → more n none ≡ none
unfolding more one_more
more_none zero = refl
more_none (suc n) = more_none n

more_if : (n k : ℕ) (b : Bool) → more n (some_if b k) ≡ some_if b (n + k)
unfolding some_if
more_if n k true = more_some n k
more_if n k false = more_none n

module _ (q : List Step) where
  pub passed_none : Passed q 0 false
  unfolding Passed more
  passed_none = refl

  module _ (n : ℕ) (h : n < length q) where
    next : (s : Step) × (drop n q ≡ s ∷ drop (n + 1) q) × (is_deep (get_elem? q n) ≡ s.deep)
    next = rw add-one (behind q n h)

    passed_plain : Passed q n false → is_deep (get_elem? q n) ≡ false → Passed q (n + 1) false
    unfolding Passed more pile_bound bound_from
    passed_plain p e =
        let (s, parts, is) = next in
        p
        ∙ ap (λ (x : List Step). more n (pile_bound x)) parts
        ∙ ap (λ (d : Bool). more n (bound_from d (drop (n + 1) q) (pile_bound (drop (n + 1) q)))) (sym is ∙ e)
        ∙ ap (λ (m : ℕ). more m (pile_bound (drop (n + 1) q))) (sym (add-one n))

    passed_first : Passed q n false → is_deep (get_elem? q n) ≡ true → Passed q (n + 1) true
    unfolding Passed pile_bound bound_from
    passed_first p e =
        let (s, parts, is) = next in
        p
        ∙ ap (λ (x : List Step). more n (pile_bound x)) parts
        ∙ ap (λ (d : Bool). more n (bound_from d (drop (n + 1) q) (pile_bound (drop (n + 1) q)))) (sym is ∙ e)
        ∙ more_if n (length (drop (n + 1) q)) (all_deep (drop (n + 1) q))
        ∙ ap (some_if (all_deep (drop (n + 1) q))) (omega (arith, length-drop (n + 1) q))

    -- behind a deep step all of them have to be deep
    then : {d : Bool} → Passed q n true → is_deep (get_elem? q n) ≡ d → pile_bound q ≡ some_if (d && all_deep (drop (n + 1) q)) (length q - 1)
    unfolding Passed all_deep
    then p e =
        let (s, parts, is) = next in
        p
        ∙ ap (λ (x : List Step). some_if (all_deep x) (length q - 1)) parts
        ∙ ap (λ (d : Bool). some_if (d && all_deep (drop (n + 1) q)) (length q - 1)) (sym is ∙ e)

    -- one step more, which is not a plain one behind a deep one
    pub passed_step : (found deep : Bool) → Passed q n found → is_deep (get_elem? q n) ≡ deep → (found ≡ true → deep ≡ true) → Passed q (n + 1) deep
    unfolding Passed
    passed_step true true p e f = then p e
    passed_step false true p e f = passed_first p e
    passed_step false false p e f = passed_plain p e
    passed_step true false p e f = absurd (false≢true (f refl))

    -- a plain one behind a deep one
    pub passed_mixed : Passed q n true → is_deep (get_elem? q n) ≡ false → pile_bound q ≡ none
    unfolding some_if
    passed_mixed p e = then p e

  -- all steps are passed

  pub passed_all_plain : Passed q (length q) false → pile_bound q ≡ some (length q)
  unfolding Passed pile_bound
  passed_all_plain p =
      p ∙ ap (λ (x : List Step). more (length q) (pile_bound x)) (drop-length q) ∙ more_some (length q) 0 ∙ ap some (omega arith)

  pub passed_all_deep : Passed q (length q) true → pile_bound q ≡ some (length q - 1)
  unfolding Passed all_deep some_if
  passed_all_deep p = p ∙ ap (λ (x : List Step). some_if (all_deep x) (length q - 1)) (drop-length q)
