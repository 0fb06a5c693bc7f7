-- Facts decided by computing every case: tests of all numbers below a bound, equations between Booleans, and laws of Booleans. Assumes nothing.
use Rattle.std.specs.Prelude.{◌≡◌, refl, Bool, true, false, not, ◌&&◌, ◌||◌, ◌↔◌, ◌⊎◌, ℕ, zero, suc, ◌<◌, T, eqb}
use Rattle.std.proofs.Common.{sym, inl, inr, arith, eqb-true}
use Rattle.std.proofs.Math.Bool.{xor}
use Rattle.std.specs.Bool.{beq}
use Rattle.std.proofs.lemmas.Bool.{false≢true, eqb-false}

pub and_left : (a b : Bool) → T (a && b) → T a
and_left true b t = tt
and_left false b t = t

pub and_right : (a b : Bool) → T (a && b) → T b
and_right true b t = t
and_right false b t = absurd t

pub of_T : (b : Bool) → T b → b ≡ true
of_T true t = refl
of_T false t = absurd t

pub to_T : {b : Bool} → b ≡ true → T b
to_T e = rw e tt

-- what is not true is false
pub refuted : (b : Bool) → (b ≡ true → ⊥) → b ≡ false
refuted true f = absurd (f refl)
refuted false f = refl

pub beq→eq : (a b : Bool) → T (beq a b) → a ≡ b
beq→eq true true t = refl
beq→eq true false t = absurd t
beq→eq false true t = absurd t
beq→eq false false t = refl

-- the test p passes at every number below n
unfoldable pub all_below : ℕ → (ℕ → Bool) → Bool
all_below zero p = true
all_below (suc n) p = p n && all_below n p

pub all_at : (n : ℕ) (p : ℕ → Bool) → T (all_below n p) → (i : ℕ) → i < n → T (p i)
unfolding all_below
all_at zero p t i h = absurd (omega arith)
all_at (suc n) p t i h = go (all_at n p (and_right (p n) (all_below n p) t) i) (eqb i n) refl
  where
    go : (i < n → T (p i)) → (b : Bool) → eqb i n ≡ b → T (p i)
    go f true q = rw (eqb-true i n q) (and_left (p n) (all_below n p) t)
    go f false q = let ne : i ≡ n → ⊥ = eqb-false i n q in f (omega arith)

-- two functions of n Booleans, equal at every choice
abbrev pub Op : ℕ → Type 0
Op zero = Bool
Op (suc n) = Bool → Op n

abbrev pub Same : (n : ℕ) → Op n → Op n → Type 0
Same zero a b = a ≡ b
Same (suc n) f g = (x : Bool) → Same n (f x) (g x)

abbrev pub same_everywhere : (n : ℕ) → Op n → Op n → Bool
same_everywhere zero a b = beq a b
same_everywhere (suc n) f g = same_everywhere n (f true) (g true) && same_everywhere n (f false) (g false)

either : (P : Bool → Type 0) → P true → P false → (x : Bool) → P x
either P a b true = a
either P a b false = b

pub truth : (n : ℕ) (f g : Op n) → T (same_everywhere n f g) → Same n f g
truth zero a b t = beq→eq a b t
truth (suc n) f g t = either (λ x. Same n (f x) (g x))
    (truth n (f true) (g true) (and_left (same_everywhere n (f true) (g true)) (same_everywhere n (f false) (g false)) t))
    (truth n (f false) (g false) (and_right (same_everywhere n (f true) (g true)) (same_everywhere n (f false) (g false)) t))

-- ---- laws of Booleans

pub xor_false : (x : Bool) → xor x false ≡ x
unfolding xor
xor_false = truth 1 (λ x. xor x false) (λ x. x) tt

pub false_xor : (x : Bool) → xor false x ≡ x
unfolding xor
false_xor = truth 1 (xor false) (λ x. x) tt

pub xor_true : (x : Bool) → xor x true ≡ not x
unfolding xor
xor_true = truth 1 (λ x. xor x true) not tt

pub true_xor : (x : Bool) → xor true x ≡ not x
unfolding xor
true_xor = truth 1 (xor true) not tt

-- what follows from either of two tests follows where one of them holds
pub or_elim : {A : Type 0} (x y : Bool) → T (x || y) → (T x → A) → (T y → A) → A
or_elim true y t f g = f t
or_elim false y t f g = g t

-- an alternative that holds has one that holds, and one that fails has none
pub or_is : (x y : Bool) → ((x || y) ≡ true) ↔ ((x ≡ true) ⊎ (y ≡ true))
or_is true y = (λ e. inl refl, λ h. refl)
or_is false y = (inr, go)
  where
    go : (false ≡ true) ⊎ (y ≡ true) → y ≡ true
    go (inl e) = absurd (false≢true e)
    go (inr e) = e

pub neither : (x y : Bool) → (x || y) ≡ false → (x ≡ false) × (y ≡ false)
neither true y e = absurd (false≢true (sym e))
neither false y e = (refl, e)

-- where the first fails it is the second
pub or_second : (x y : Bool) → (x || y) ≡ true → x ≡ false → y ≡ true
or_second true y h e = absurd (false≢true (sym e))
or_second false y h e = h

pub beq_is : (x y : Bool) → (beq x y ≡ true) ↔ (x ≡ y)
beq_is x y = (λ e. beq→eq x y (rw e tt), λ e. rw e (same y))
  where
    same : (z : Bool) → beq z z ≡ true
    same true = refl
    same false = refl

-- two tests that hold together are equal
pub same_truth : (x y : Bool) → (x ≡ true) ↔ (y ≡ true) → x ≡ y
same_truth true true h = refl
same_truth true false h = sym (h.0 refl)
same_truth false true h = h.1 refl
same_truth false false h = refl
