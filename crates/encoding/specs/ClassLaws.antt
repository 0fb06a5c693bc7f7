-- Which bytes have which class (document 01, "The class of every byte"), both ways.
use Rattle.std.specs.Prelude.{◌≡◌, List, [], ◌∷◌, Bool, true, false, ◌⊎◌, ◌↔◌, ℕ, suc, eqb}
use Rattle.std.proofs.Math.Path.{refl}
use Rattle.std.proofs.lemmas.Bool.{false≢true}
use Rattle.std.proofs.Math.Logic.{inl, inr, ⊎_elim}
use Rattle.std.proofs.Common.{arith, eqb-true, eq-eqb}
use Rattle.encoding.specs.Bytes.{Blank, space, tab, feed, return, blank_byte}
use Rattle.encoding.specs.Class.{Entry, entries, class_in, class_of}

abbrev OrElse : Bool → Type 0 → Type 0 → Type 0
OrElse true A B = A ⊎ B
OrElse false A B = B

-- b is one of the bytes to which the entries give class c
abbrev OneOf : List Entry → ℕ → ℕ → Type 0
OneOf [] c b = ⊥
OneOf (x ∷ xs) c b = OrElse (eqb x.class c) (b ≡ x.byte) (OneOf xs c b)

this : (A B : Type 0) (k : Bool) → k ≡ true → A → OrElse k A B
this A B true e a = inl a
this A B false e a = absurd (false≢true e)

other : (A B : Type 0) (k : Bool) → B → OrElse k A B
other A B true b = inr b
other A B false b = b

one_of : (xs : List Entry) (c b : ℕ) → class_in xs b ≡ suc c → OneOf xs (suc c) b
unfolding class_in
one_of [] c b e = absurd (omega arith)
one_of (x ∷ xs) c b e = go (eqb x.byte b) refl e (one_of xs c b)
  where
    go :
        (h : Bool) → eqb x.byte b ≡ h → elim h [ true ↦ x.class | false ↦ class_in xs b ] ≡ suc c →
        (class_in xs b ≡ suc c → OneOf xs (suc c) b) → OneOf (x ∷ xs) (suc c) b
    go true h e later = this (b ≡ x.byte) (OneOf xs (suc c) b) (eqb x.class (suc c)) (eq-eqb x.class (suc c) e) (cc (eqb-true x.byte b h))
    go false h e later = other (b ≡ x.byte) (OneOf xs (suc c) b) (eqb x.class (suc c)) (later e)

has : (c b : ℕ) → class_of b ≡ suc c → OneOf entries (suc c) b
unfolding class_of
has c b e = one_of entries c b e

only : {A : Type 0} → A ⊎ ⊥ → A
only (inl a) = a
only (inr n) = absurd n

module _ (b : ℕ) where
  -- a byte that is one of two, or one alone
  two : {c x y : ℕ} → class_of x ≡ c → class_of y ≡ c → (b ≡ x) ⊎ (b ≡ y) → class_of b ≡ c
  two p q (inl e) = rw e p
  two p q (inr e) = rw e q

  one : {c x : ℕ} → class_of x ≡ c → b ≡ x → class_of b ≡ c
  one p e = rw e p

  pub opening_class : (class_of b ≡ 1) ↔ ((b ≡ 0x5B) ⊎ (b ≡ 0x7B))
  unfolding class_of
  opening_class = (λ e. ⊎_elim inl (λ r. inr (only r)) (has 0 b e), two refl refl)

  pub closing_class : (class_of b ≡ 2) ↔ ((b ≡ 0x5D) ⊎ (b ≡ 0x7D))
  unfolding class_of
  closing_class = (λ e. ⊎_elim inl (λ r. inr (only r)) (has 1 b e), two refl refl)

  pub comma_class : (class_of b ≡ 4) ↔ (b ≡ 0x2C)
  unfolding class_of
  comma_class = (λ e. only (has 3 b e), one refl)

  blank_of_lem : OneOf entries 7 b → (w : Blank) × (b ≡ blank_byte w)
  blank_of_lem (inl e) = (space, e)
  blank_of_lem (inr (inl e)) = (tab, e)
  blank_of_lem (inr (inr (inl e))) = (feed, e)
  blank_of_lem (inr (inr (inr (inl e)))) = (return, e)
  blank_of_lem (inr (inr (inr (inr e)))) = elim e [ ]

  blank_has : (w : Blank) → b ≡ blank_byte w → class_of b ≡ 7
  unfolding class_of
  blank_has space e = one refl e
  blank_has tab e = one refl e
  blank_has feed e = one refl e
  blank_has return e = one refl e

  pub blank_class : (class_of b ≡ 7) ↔ ((w : Blank) × (b ≡ blank_byte w))
  blank_class = (λ e. blank_of_lem (has 6 b e), λ w. blank_has w.0 w.1)
