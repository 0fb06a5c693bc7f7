-- Laws of the stack that a row of kinds stands for: how long it is, how it grows, and what is innermost in it. Assumes nothing.
use Rattle.std.specs.Prelude.{◌≡◌, refl, List, [], ◌∷◌, ◌++◌, Bool, true, false, ℕ, eqb, leb, ◌+◌, ◌-◌, ◌≤◌, ◌<◌, length, map, reverse, take, get_or, set}
use Rattle.std.proofs.Common.{ap, sym, ◌∙◌, arith, leb-true, leb-false, ne_eqb}
use Rattle.std.proofs.lemmas.List.{map-append, reverse-append, length-map, length-reverse, length-take-le, take_more, take_more_set}
use Rattle.json_text.specs.Grammar.{object}
use Rattle.json_text.specs.Machine.{Stack, is_empty, pop}
use Rattle.json_text.specs.Verdict.{max_depth}
use Rattle.validate.specs.declared.nest.Kind.{Kind}
use Rattle.validate.specs.declared.nest.Kind.TheVariants.{Array, Object}
use Rattle.validate.specs.Nesting.{kind_of, stack_of, Full}

-- a kind is an array or an object
pub object_kind : (x : Kind) → (x ≡ Array → ⊥) → kind_of x ≡ object
object_kind Array f = absurd (f refl)
object_kind Object f = refl

stack_of_more : (kinds : List Kind) (x : Kind) → reverse (map kind_of (kinds ++ x ∷ [])) ≡ kind_of x ∷ reverse (map kind_of kinds)
stack_of_more kinds x = rw (map-append kind_of kinds (x ∷ []), reverse-append (map kind_of kinds) (kind_of x ∷ []))

module _ (kinds : List Kind) (d : ℕ) where
  pub stack_long : d ≤ length kinds → length (stack_of kinds d) ≡ d
  stack_long h = length-reverse (map kind_of (take d kinds)) ∙ length-map (take d kinds) kind_of ∙ length-take-le d kinds h

  pub stack_push : (x : Kind) → d < length kinds → stack_of (set kinds d x) (d + 1) ≡ kind_of x ∷ stack_of kinds d
  stack_push x h = ap (λ (ks : List Kind). reverse (map kind_of ks)) (take_more_set kinds d x h) ∙ stack_of_more (take d kinds) x

  pub stack_last : d ≤ length kinds → (d ≡ 0 → ⊥) → stack_of kinds d ≡ kind_of (get_or kinds (d - 1) Array) ∷ stack_of kinds (d - 1)
  stack_last h some =
      let e : d ≡ d - 1 + 1 = omega (arith, some) in
      let inside : d - 1 < length kinds = omega (arith, some) in
      ap (stack_of kinds) e ∙ ap (λ (ks : List Kind). reverse (map kind_of ks)) (take_more kinds (d - 1) Array inside)
      ∙ stack_of_more (take (d - 1) kinds) (get_or kinds (d - 1) Array)

  pub stack_under : d < length kinds → pop (stack_of kinds (d + 1)) ≡ stack_of kinds d
  stack_under h =
      ap (λ (ks : List Kind). pop (reverse (map kind_of ks))) (take_more kinds d Array h) ∙ ap pop (stack_of_more (take d kinds) (get_or kinds d Array))

  pub stack_depth : {k : Stack} → d ≤ length kinds → stack_of kinds d ≡ k → length k ≡ d
  stack_depth h e = sym (ap length e) ∙ stack_long h

-- by its length
pub empty_by : (k : Stack) (d : ℕ) → length k ≡ d → eqb d 0 ≡ is_empty k
empty_by [] d e = rw (← e)
empty_by (x ∷ k) d e = ne_eqb d 0 (omega arith)

pub full_by : (k : Stack) (d : ℕ) → length k ≡ d → Full k (leb max_depth d)
full_by k d e = by (leb max_depth d) refl
  where
    by : (x : Bool) → leb max_depth d ≡ x → Full k x
    by true t = omega (arith, leb-true max_depth d t)
    by false t = omega (arith, leb-false max_depth d t)
