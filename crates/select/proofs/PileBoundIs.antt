-- The bound on the peak by computing is the one that is said of the steps, and no other.
-- By the first step: behind a deep one all have to be deep; a plain one counts for itself. Assumes nothing.
use Rattle.std.specs.Prelude.{◌≡◌, refl, ◌⊎◌, Bool, true, false, ◌&&◌, ℕ, suc, ◌+◌, ◌-◌, ◌<◌, length}
use Rattle.std.proofs.Common.{sym, ap, ◌∙◌, inl, inr, add-one, arith, length-append}
use mathlib.Core.List.Memᴰ
use mathlib.Core.List.{List, [], ◌∷◌, ◌++◌, Memᴰ}
use Rattle.std.proofs.Math.Bool.{and-eq-true_iff, and-false}
use Rattle.std.proofs.Math.Option.{Option, some, none}
use Rattle.query.specs.Steps.{Step}
use Rattle.select.specs.Marks.{AllSteps}
use Rattle.select.specs.PileBound.{PileBound, deep, plain, mixed}
use Rattle.select.specs.PileBoundOf.{all_deep, some_if, one_more, bound_from, pile_bound}

no_steps : {d : Bool} → AllSteps d []
no_steps s m = absurd (Memᴰ.not-nil m)

one_more_step : {d : Bool} {s : Step} {q : List Step} → s.deep ≡ d → AllSteps d q → AllSteps d (s ∷ q)
one_more_step {d} {s} {q} e h x m = go (Memᴰ.cases_cons m)
  where
    go : (x ≡ s) ⊎ Memᴰ x q → x.deep ≡ d
    go (inl same) = ap (λ (y : Step). y.deep) same ∙ e
    go (inr m) = h x m

other_steps : {d : Bool} {s : Step} {q : List Step} → AllSteps d (s ∷ q) → AllSteps d q
other_steps h x m = h x (Memᴰ.tail m)

first_step : {d : Bool} {s : Step} {q : List Step} → AllSteps d (s ∷ q) → s.deep ≡ d
first_step {s = s} h = h s (Memᴰ.head refl)

-- the test of deep steps

all_deep_is : (q : List Step) → all_deep q ≡ true → AllSteps true q
unfolding all_deep
all_deep_is [] e = no_steps
all_deep_is (s ∷ q) e = let (d, rest) = (and-eq-true_iff s.deep (all_deep q)).0 e in one_more_step d (all_deep_is q rest)

is_all_deep : (q : List Step) → AllSteps true q → all_deep q ≡ true
unfolding all_deep
is_all_deep [] h = refl
is_all_deep (s ∷ q) h = (and-eq-true_iff s.deep (all_deep q)).1 (first_step h, is_all_deep q (other_steps h))

-- a plain step among these
record Plain (q : List Step) : Type 0 where
  before : List Step
  step : Step
  after : List Step
  parts : q ≡ before ++ step ∷ after
  is_plain : step.deep ≡ false

some_plain : (q : List Step) → all_deep q ≡ false → Plain q
unfolding all_deep
some_plain [] e = let z : ◌≡◌ {A = ℕ} 0 1 = cc in absurd (omega arith)
some_plain (s ∷ q) e = go s.deep refl e (some_plain q)
  where
    go : (d : Bool) → s.deep ≡ d → (d && all_deep q) ≡ false → (all_deep q ≡ false → Plain q) → Plain (s ∷ q)
    go true f e rest =
        let x = rest e in
        record {
          before = s ∷ x.before;
          step = x.step;
          after = x.after;
          parts = ap (λ (z : List Step). s ∷ z) x.parts;
          is_plain = x.is_plain;
        }
    go false f e rest = record { before = []; step = s; after = q; parts = refl; is_plain = f }

not_all_deep : (q : List Step) (x : Step) → Memᴰ x q → x.deep ≡ false → all_deep q ≡ false
unfolding all_deep
not_all_deep [] x m e = absurd (Memᴰ.not-nil m)
not_all_deep (s ∷ q) x m e = go (Memᴰ.cases_cons m) (λ m'. not_all_deep q x m' e)
  where
    go : (x ≡ s) ⊎ Memᴰ x q → (Memᴰ x q → all_deep q ≡ false) → (s.deep && all_deep q) ≡ false
    go (inl same) rest = ap (λ (b : Bool). b && all_deep q) (ap (λ (y : Step). y.deep) (sym same) ∙ e)
    go (inr m) rest = ap (λ (b : Bool). s.deep && b) (rest m) ∙ and-false s.deep

-- what is computed is said

plain_first : {s : Step} {q : List Step} {o : Option ℕ} → s.deep ≡ false → PileBound q o → PileBound (s ∷ q) (one_more o)
unfolding one_more
plain_first {s} f (deep {k} h e) =
    deep {k = suc k}
    (record {
      plain = s ∷ h.plain;
      deep = h.deep;
      parts = ap (λ (z : List Step). s ∷ z) h.parts;
      all_plain = one_more_step f h.all_plain;
      all_deep = h.all_deep;
      some_deep = h.some_deep;
    })
    (omega arith)
plain_first f (plain h) = plain (one_more_step f h)
plain_first {s} f (mixed h) = mixed (record {
  before = s ∷ h.before;
  earlier = h.earlier;
  between = h.between;
  later = h.later;
  after = h.after;
  parts = ap (λ (z : List Step). s ∷ z) h.parts;
  earlier_deep = h.earlier_deep;
  later_plain = h.later_plain;
})

deep_first : {s : Step} {q : List Step} → s.deep ≡ true → PileBound (s ∷ q) (some_if (all_deep q) (length q))
unfolding some_if
deep_first {s} {q} f = go (all_deep q) refl
  where
    go : (b : Bool) → all_deep q ≡ b → PileBound (s ∷ q) (some_if b (length q))
    go true e =
        deep
        (record {
          plain = [];
          deep = s ∷ q;
          parts = refl;
          all_plain = no_steps;
          all_deep = one_more_step f (all_deep_is q e);
          some_deep = omega arith;
        })
        (add-one (length q))
    go false e =
        let x = some_plain q e in
        mixed (record {
          before = [];
          earlier = s;
          between = x.before;
          later = x.step;
          after = x.after;
          parts = ap (λ (z : List Step). s ∷ z) x.parts;
          earlier_deep = f;
          later_plain = x.is_plain;
        })

pub pile_bound_is : (q : List Step) → PileBound q (pile_bound q)
unfolding pile_bound bound_from
pile_bound_is [] = plain no_steps
pile_bound_is (s ∷ q) = go s.deep refl (pile_bound_is q)
  where
    go : (d : Bool) → s.deep ≡ d → PileBound q (pile_bound q) → PileBound (s ∷ q) (bound_from d q (pile_bound q))
    go true f x = deep_first f
    go false f x = plain_first f x

-- what is said is computed

only_plain : (q : List Step) → AllSteps false q → pile_bound q ≡ some (length q)
unfolding pile_bound bound_from one_more
only_plain [] h = refl
only_plain (s ∷ q) h = ap (λ (d : Bool). bound_from d q (pile_bound q)) (first_step h) ∙ ap one_more (only_plain q (other_steps h))

then_deep : (p d : List Step) → AllSteps false p → AllSteps true d → 0 < length d → {k : ℕ} → k + 1 ≡ length (p ++ d) → pile_bound (p ++ d) ≡ some k
unfolding pile_bound bound_from one_more some_if
then_deep [] [] f g h e = absurd (omega arith)
then_deep [] (s ∷ d) f g h {k} e =
    ap (λ (b : Bool). bound_from b d (pile_bound d)) (first_step g)
    ∙ ap (λ (b : Bool). some_if b (length d)) (is_all_deep d (other_steps g))
    ∙ ap some (omega arith)
then_deep (s ∷ p) d f g h {k} e =
    ap (λ (b : Bool). bound_from b (p ++ d) (pile_bound (p ++ d))) (first_step f)
    ∙ ap one_more (then_deep p d (other_steps f) g h {k = k - 1} (omega (arith, length-append p d)))
    ∙ ap some (omega (arith, length-append p d))

stands : (before : List Step) (y : Step) (after : List Step) → Memᴰ y (before ++ y ∷ after)
stands before y after = Memᴰ.append_right before (Memᴰ.head refl)

plain_behind : (before : List Step) (x : Step) (between : List Step) (y : Step) (after : List Step) → x.deep ≡ true → y.deep ≡ false
    → pile_bound (before ++ x ∷ between ++ y ∷ after) ≡ none
unfolding pile_bound bound_from one_more some_if
plain_behind [] x between y after e f =
    let rest = between ++ y ∷ after in
    ap (λ (b : Bool). bound_from b rest (pile_bound rest)) e
    ∙ ap (λ (b : Bool). some_if b (length rest)) (not_all_deep rest y (stands between y after) f)
plain_behind (s ∷ before) x between y after e f = go s.deep (plain_behind before x between y after e f)
  where
    rest : List Step
    rest = before ++ x ∷ between ++ y ∷ after

    there : Memᴰ y rest
    there = stands (before ++ x ∷ between) y after

    go : (b : Bool) → pile_bound rest ≡ none → bound_from b rest (pile_bound rest) ≡ none
    go true z = ap (λ (b : Bool). some_if b (length rest)) (not_all_deep rest y there f)
    go false z = ap one_more z

pub pile_bound_only : {q : List Step} {o : Option ℕ} → PileBound q o → o ≡ pile_bound q
pile_bound_only {q} (deep h e) =
    sym
    (ap pile_bound h.parts
    ∙ then_deep h.plain h.deep h.all_plain h.all_deep h.some_deep (e ∙ ap length h.parts))
pile_bound_only {q} (plain h) = sym (only_plain q h)
pile_bound_only {q} (mixed h) =
    sym
    (ap pile_bound h.parts
    ∙ plain_behind h.before h.earlier h.between h.later h.after h.earlier_deep h.later_plain)
