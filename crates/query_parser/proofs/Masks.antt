-- The compiled form as the query is read: what it holds stays while names are written behind its own, and one step more is new at its
-- number, with its bits and what it takes, and those of the others stay. Assumes nothing.
use mathlib.Core.Path.{◌≡◌, refl, ap, sym, subst, ◌∙◌}
use mathlib.Core.List.{List, [], ◌∷◌, ◌++◌}
use mathlib.Core.Bool.{Bool, true, false, ◌&&◌, ◌||◌}
use mathlib.Core.Option.{Option, some, none}
use Prim.Native.Nat.{ℕ, zero, suc, ◌+◌, ◌≤◌, ◌<◌}
use native.Mathlib.Omega.{arith}
use borrow.Author.Tests.{eqb-true, eqb-false}
use lib.Dec.{T, eqb}
use lib.ListN.{length, get_or, set, get_elem?, length-append, length-set}
use lib.Seq.{get_or-set_same, get_or-set_other, slice}
use Rattle.bits.specs.Bits.{bit}
use Rattle.encoding.specs.Points.{Utf8Of}
use Rattle.query_parser.specs.declared.compiled.Compiled.{Compiled}
use Rattle.query_parser.specs.declared.compiled.Kinds.{Kinds}
use Rattle.query_steps.specs.declared.Found.{Found}
use Rattle.query_steps.specs.declared.Taking.{Taking}
use Rattle.query.specs.Steps.{Step, is_deep}
use Rattle.query.specs.StepsLaws.{no_step_lem}
use Rattle.query.specs.Verdict.{max_steps, max_query_bytes}
use Rattle.query_parser.specs.Holds.{every_at, named_at, positioned_at, name_at, position_at, name_start_of, name_end_of}
use Rattle.query_parser.specs.Compiles.{takes_every, takes_name, takes_position, Compiles, HeldTo}

-- names that end at n or before are not written over
pub held_on : {before after : List ℕ} {n m : ℕ} {x : List Step} {c : Compiled} → n ≤ m
    → ((i j : ℕ) → j ≤ n → slice i j after ≡ slice i j before) → HeldTo before n x c → HeldTo after m x c
held_on {before} {after} {n} {m} {x} {c} l stays w = record {
  holds = record {
    fits = w.holds.fits;
    count = w.holds.count;
    deep = w.holds.deep;
    every = w.holds.every;
    named = w.holds.named;
    positioned = w.holds.positioned;
    name = λ i on.
        subst (λ (s : List ℕ). Utf8Of s (name_at (get_elem? x i)))
        (sym (stays (name_start_of (get_or c.operands i 0)) (name_end_of (get_or c.operands i 0)) (w.ends i on))) (w.holds.name i on);
    position = w.holds.position;
  };
  ends = λ i on. omega (arith, w.ends i on);
}

-- the elements of a list with one more
module _ (s : Step) where
  elem_last : (x : List Step) (i : ℕ) → i ≡ length x → get_elem? (x ++ s ∷ []) i ≡ some s
  elem_last [] zero e = refl
  elem_last [] (suc i) e = absurd (omega arith)
  elem_last (y ∷ x) zero e = absurd (omega arith)
  elem_last (y ∷ x) (suc i) e = elem_last x i (omega arith)

  elem_other : (x : List Step) (i : ℕ) → (i ≡ length x → ⊥) → get_elem? (x ++ s ∷ []) i ≡ get_elem? x i
  elem_other [] zero f = absurd (f refl)
  elem_other [] (suc i) f = refl
  elem_other (y ∷ x) zero f = refl
  elem_other (y ∷ x) (suc i) f = elem_other x i (λ e. f (ap suc e))

or_and : (a b : Bool) → a ≡ false → (a || (b && true)) ≡ b
or_and true b e = absurd (subst T e tt)
or_and false true e = refl
or_and false false e = refl

or_not : (a b : Bool) → (a || (b && false)) ≡ a
or_not true b = refl
or_not false true = refl
or_not false false = refl

or_false : (a : Bool) → (a || false) ≡ a
or_false true = refl
or_false false = refl

-- a mask of the steps x that says g of each, and the step s behind them
module _ (x : List Step) (s : Step) (n : ℕ) (e : n ≡ length x) (g : Option Step → Bool) (z : g none ≡ false) (m r : ℕ) (v : Bool) (w : v ≡ g (some s))
    (new : (i : ℕ) → bit i r ≡ (bit i m || (v && eqb i n))) (old : (i : ℕ) → bit i m ≡ g (get_elem? x i)) where
  bit_more : (i : ℕ) → bit i r ≡ g (get_elem? (x ++ s ∷ []) i)
  bit_more i = go (eqb i n) refl
    where
      go : (b : Bool) → eqb i n ≡ b → bit i r ≡ g (get_elem? (x ++ s ∷ []) i)
      go true f =
          let k : i ≡ n = eqb-true i n f in
          new i ∙ ap (λ (b : Bool). bit i m || (v && b)) f ∙ or_and (bit i m) v (old i ∙ ap g (no_step_lem x i (omega arith)) ∙ z) ∙ w ∙
          sym (ap g (elem_last s x i (k ∙ e)))
      go false f =
          new i ∙ ap (λ (b : Bool). bit i m || (v && b)) f ∙ or_not (bit i m) v ∙ old i ∙
          sym (ap g (elem_other s x i (λ k. eqb-false i n f (k ∙ sym e))))

  -- a fact of what the steps of the mask take
  operand_more : (P : ℕ → Option Step → Type 0) (l : List ℕ) (a : ℕ) → n < length l → (v ≡ true → P a (some s)) →
      ((i : ℕ) → bit i m ≡ true → P (get_or l i 0) (get_elem? x i)) →
      (i : ℕ) → bit i r ≡ true → P (get_or (set l n a) i 0) (get_elem? (x ++ s ∷ []) i)
  operand_more P l a h here before i on = go (eqb i n) refl
    where
      go : (b : Bool) → eqb i n ≡ b → P (get_or (set l n a) i 0) (get_elem? (x ++ s ∷ []) i)
      go true f =
          let k : i ≡ n = eqb-true i n f in
          let last = elem_last s x i (k ∙ e) in
          rw (last, k, get_or-set_same l n a 0 h) (here (w ∙ sym (ap g last) ∙ sym (bit_more i) ∙ on))
      go false f =
          let k : i ≡ n → ⊥ = eqb-false i n f in
          let other = elem_other s x i (λ y. k (y ∙ sym e)) in
          rw (other, get_or-set_other l n i a 0 k) (before i (old i ∙ sym (ap g other) ∙ sym (bit_more i) ∙ on))

-- a mask of the steps that take as g says: a step that is found to do so adds its bit, and any other leaves the mask as it is
pub added : (g : Taking → Bool) {t u : Taking} → t ≡ u → g u ≡ true → (m r n : ℕ) → ((i : ℕ) → bit i r ≡ (bit i m || (true && eqb i n))) →
    (i : ℕ) → bit i r ≡ (bit i m || (g t && eqb i n))
added g e f m r n new i = rw (e, f) (new i)

pub kept : (g : Taking → Bool) {t u : Taking} → t ≡ u → g u ≡ false → (m n i : ℕ) → bit i m ≡ (bit i m || (g t && eqb i n))
kept g e f m n i = rw (e, f) (sym (or_false (bit i m)))

module _ (names : List ℕ) (m : ℕ) (x : List Step) (c : Kinds) (operands : List ℕ) (s : Step) (f : Found) (a d e n p : ℕ)
    (deep : (i : ℕ) → bit i d ≡ (bit i c.deep || (f.deep && eqb i c.count)))
    (every : (i : ℕ) → bit i e ≡ (bit i c.every || (takes_every f.taking && eqb i c.count)))
    (named : (i : ℕ) → bit i n ≡ (bit i c.named || (takes_name f.taking && eqb i c.count)))
    (positioned : (i : ℕ) → bit i p ≡ (bit i c.positioned || (takes_position f.taking && eqb i c.count)))
    (h : c.count < max_steps) (l : m ≤ max_query_bytes) (w : HeldTo names m x (record { kinds = c; operands = operands }))
    (b : Compiles names m s f a) where
  abbrev more : Compiled
  more = record {
    kinds = record { count = c.count + 1; deep = d; every = e; named = n; positioned = p };
    operands = set operands c.count a;
  }

  pub held_more : HeldTo names m (x ++ s ∷ []) more
  held_more = record {
    holds = record {
      fits = record {
        few = omega arith;
        operands_length = simp length-set w.holds.fits.operands_length;
        order = of_names (λ a o. name_start_of a ≤ name_end_of a) b.order w.holds.fits.order;
        within = of_names (λ a o. name_end_of a ≤ max_query_bytes) (λ y. omega (arith, b.within y)) w.holds.fits.within;
      };
      count = omega (arith, w.holds.count, length-append x (s ∷ []));
      deep = bit_more x s c.count w.holds.count is_deep refl c.deep d f.deep b.deep deep w.holds.deep;
      every = bit_more x s c.count w.holds.count every_at refl c.every e (takes_every f.taking) b.every every w.holds.every;
      named = bit_more x s c.count w.holds.count named_at refl c.named n (takes_name f.taking) b.named named w.holds.named;
      positioned =
          bit_more x s c.count w.holds.count positioned_at refl c.positioned p (takes_position f.taking) b.positioned positioned
          w.holds.positioned;
      name = of_names (λ a o. Utf8Of (slice (name_start_of a) (name_end_of a) names) (name_at o)) b.name w.holds.name;
      position =
          operand_more x s c.count w.holds.count positioned_at refl c.positioned p (takes_position f.taking) b.positioned positioned
          w.holds.positioned (λ a o. a ≡ position_at o) operands a room b.position w.holds.position;
    };
    ends = of_names (λ a o. name_end_of a ≤ m) b.within w.ends;
  }
    where
      room : c.count < length operands
      room = omega (arith, w.holds.fits.operands_length)

      of_names : (P : ℕ → Option Step → Type 0) → (takes_name f.taking ≡ true → P a (some s)) →
          ((i : ℕ) → bit i c.named ≡ true → P (get_or operands i 0) (get_elem? x i)) →
          (i : ℕ) → bit i n ≡ true → P (get_or (set operands c.count a) i 0) (get_elem? (x ++ s ∷ []) i)
      of_names P =
          operand_more x s c.count w.holds.count named_at refl c.named n (takes_name f.taking) b.named named w.holds.named P operands
          a room
