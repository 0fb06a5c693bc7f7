-- The marks whose next step takes a child, and the child's marks: bit by bit, from what the compiled query holds. Assumes nothing.
use mathlib.Core.Path.{◌≡◌, refl, sym, ap, ap₂, ◌∙◌}
use mathlib.Core.Bool.{Bool, true, false, ◌&&◌, ◌||◌, and-false, and_assoc, and_comm, and-eq-true_iff, or-false}
use mathlib.Core.List.{List}
use mathlib.Core.Logic.{⊎_elim}
use mathlib.Core.Option.{Option, some, none}
use Prim.Native.Nat.{ℕ, zero, suc, ◌*◌, ◌-◌, ◌/◌, ◌%◌, ◌^◌, ◌<◌, ◌≤◌}
use native.Mathlib.Nat.{one-mul}
use native.Mathlib.Omega.{arith}
use borrow.Author.Tests.{lt-ltb, le-ltb}
use lib.Bits.{bit_and, bit_or, and_mask}
use lib.Dec.{ltb, eqb}
use lib.ListN.{length, get_elem?}
use lib.Pow.{shl_exact, pow_pos, pow_mono}
use Rattle.bits.specs.Bits.{bit, number}
use Rattle.bits.specs.Laws.{lt_or_ge, bit_and_lem, bit_or_lem, bit-zero, bit_shl, bit_test, number_of, shifted}
use Rattle.bits.specs.Truth.{truth}
use Rattle.encoding.specs.Bytes.{same_numbers}
use Rattle.encoding.specs.PointsLaws.{same_utf8}
use Rattle.encoding.specs.Points.{Utf8Of}
use Rattle.encoding.specs.Unescape.{unescaped}
use Rattle.query_parser.specs.Holds.{Holds, Fits, every_at, named_at, positioned_at, name_at, position_at}
use Rattle.query.specs.Steps as S
use Rattle.query.specs.Steps.{Step, Selector, is_deep}
use Rattle.query.specs.StepsLaws.{no_step_lem}
use Rattle.query.specs.Verdict.{max_query_bytes}
use Rattle.query_parser.specs.declared.compiled.Kinds.{Kinds}
use Rattle.select.specs.Nodes.{Label, member, element}
use Rattle.select.specs.MarksStep.{step_hits}
use Rattle.select.specs.Ways.{hits}
use Rattle.automaton.specs.State.{next_mark, next_marks, pick_at, next_picked}
use Rattle.marks.specs.Advances.{Named, AtHand, is_name, name_is, position_is, IsChild, child_is, asked_of, Chosen, Taken, Advances}
use Rattle.marks.specs.declared.Child.{Child}
use Rattle.marks.specs.declared.Child.TheVariants.{Member, Escaped, Element}

-- what takes an element, and what takes a member

hits_element : (j : ℕ) (o : Option Step) → (every_at o || (positioned_at o && eqb (position_at o) j)) ≡ step_hits o (element j)
unfolding step_hits hits
hits_element j none = refl
hits_element j (some s) = go s.selector
  where
    by : Selector → Option Step
    by sel = some (record { deep = s.deep; selector = sel })

    go : (sel : Selector) → (every_at (by sel) || (positioned_at (by sel) && eqb (position_at (by sel)) j)) ≡ hits sel (element j)
    go (S.name w) = refl
    go S.every = refl
    go (S.position i) = refl

hits_member : (w : List ℕ) (o : Option Step) → (every_at o || (named_at o && same_numbers (name_at o) w)) ≡ step_hits o (member w)
unfolding step_hits hits
hits_member w none = refl
hits_member w (some s) = go s.selector
  where
    by : Selector → Option Step
    by sel = some (record { deep = s.deep; selector = sel })

    go : (sel : Selector) → (every_at (by sel) || (named_at (by sel) && same_numbers (name_at (by sel)) w)) ≡ hits sel (member w)
    go (S.name v) = refl
    go S.every = refl
    go (S.position i) = refl

-- a label that is taken by `*`, and by those steps of one kind that pass a test
module _ {names : List ℕ} {x : List Step} {k : Kinds} {operands : List ℕ} (h : Holds names x k operands) (m mask : ℕ) (l : Label)
    (kind test : Option Step → Bool) (no_kind : kind none ≡ false) (masked : (i : ℕ) → bit i mask ≡ kind (get_elem? x i))
    (hit : (o : Option Step) → (every_at o || (kind o && test o)) ≡ step_hits o l) where
  by_either : (i : ℕ) (b : Bool) → b ≡ (bit i m && (kind (get_elem? x i) && test (get_elem? x i)))
      → (bit i (bit_and m k.every) || b) ≡ (bit i m && step_hits (get_elem? x i) l)
  by_either i b e =
      let o = get_elem? x i in
      ap₂ (λ (a b : Bool). a || b) (bit_and_lem i m k.every ∙ ap (λ (b : Bool). bit i m && b) (h.every i)) e
      ∙ truth 4 (λ a b d e. (a && b) || (a && (d && e))) (λ a b d e. a && (b || (d && e))) tt (bit i m) (every_at o) (kind o) (test o)
      ∙ ap (λ (b : Bool). bit i m && b) (hit o)

  -- no mark of a step of that kind is on
  by_every : bit_and m mask ≡ 0 → (i : ℕ) → bit i (bit_and m k.every) ≡ (bit i m && step_hits (get_elem? x i) l)
  by_every z i =
      let o = get_elem? x i in
      let off : (bit i m && kind o) ≡ false =
      ap (λ (b : Bool). bit i m && b) (sym (masked i)) ∙ sym (bit_and_lem i m mask) ∙ ap (bit i) z ∙ bit-zero i in
      sym (or-false (bit i (bit_and m k.every)))
      ∙ by_either i false (sym (sym (and_assoc (bit i m) (kind o) (test o)) ∙ ap (λ (b : Bool). b && test o) off))

  -- the steps of that kind are tested
  by_test : (f : ℕ → Bool) (r : ℕ) → ((i : ℕ) → bit i mask ≡ true → f i ≡ test (get_elem? x i)) → Chosen k.count (bit_and m mask) f r
      → (i : ℕ) → bit i (bit_or (bit_and m k.every) r) ≡ (bit i m && step_hits (get_elem? x i) l)
  by_test f r tests chosen i =
      bit_or_lem i (bit_and m k.every) r ∙ by_either i (bit i r) (chosen i ∙ ⊎_elim inside outside (lt_or_ge i k.count))
    where
      tested : (b : Bool) → bit i mask ≡ b → (b && f i) ≡ (b && test (get_elem? x i))
      tested true e = tests i e
      tested false e = refl

      inside : i < k.count
          → (ltb i k.count && (bit i (bit_and m mask) && f i)) ≡ (bit i m && (kind (get_elem? x i) && test (get_elem? x i)))
      inside n =
          ap (λ (b : Bool). b && (bit i (bit_and m mask) && f i)) (lt-ltb i k.count n)
          ∙ ap (λ (b : Bool). b && f i) (bit_and_lem i m mask)
          ∙ and_assoc (bit i m) (bit i mask) (f i)
          ∙ ap (λ (b : Bool). bit i m && b) (tested (bit i mask) refl ∙ ap (λ (b : Bool). b && test (get_elem? x i)) (masked i))

      outside : k.count ≤ i
          → (ltb i k.count && (bit i (bit_and m mask) && f i)) ≡ (bit i m && (kind (get_elem? x i) && test (get_elem? x i)))
      outside n =
          let none_there : kind (get_elem? x i) ≡ false = ap kind (no_step_lem x i (omega (arith, h.count))) ∙ no_kind in
          ap (λ (b : Bool). b && (bit i (bit_and m mask) && f i)) (le-ltb i k.count n)
          ∙ sym (ap (λ (b : Bool). bit i m && (b && test (get_elem? x i))) none_there ∙ and-false (bit i m))

module _ (names : List ℕ) (k : Kinds) (operands : List ℕ) (m : ℕ) where
  module _ (points : List ℕ) where
    abbrev same : Option Step → Bool
    same o = same_numbers (name_at o) points

    pub member_every : bit_and m k.named ≡ 0 → Taken names k operands m (member points) (bit_and m k.every)
    member_every z =
        record { taken = λ x h. by_every h m k.named (member points) named_at same refl h.named (hits_member points) z }

    pub member_named : (bytes : List ℕ) (r : ℕ) → Utf8Of bytes points → Chosen k.count (bit_and m k.named) (name_is names operands bytes) r
        → Taken names k operands m (member points) (bit_or (bit_and m k.every) r)
    unfolding name_is is_name
    member_named bytes r is chosen =
        record {
          taken = λ x h.
              by_test h m k.named (member points) named_at same refl h.named (hits_member points) (name_is names operands bytes) r
              (λ i on. same_utf8 (h.name i on) is) chosen;
        }

  module _ (j : ℕ) where
    abbrev there : Option Step → Bool
    there o = eqb (position_at o) j

    pub element_every : bit_and m k.positioned ≡ 0 → Taken names k operands m (element j) (bit_and m k.every)
    element_every z =
        record { taken = λ x h. by_every h m k.positioned (element j) positioned_at there refl h.positioned (hits_element j) z }

    pub element_positioned : (r : ℕ) → Chosen k.count (bit_and m k.positioned) (position_is operands j) r
        → Taken names k operands m (element j) (bit_or (bit_and m k.every) r)
    unfolding position_is
    element_positioned r chosen =
        record {
          taken = λ x h.
              by_test h m k.positioned (element j) positioned_at there refl h.positioned (hits_element j) (position_is operands j) r
              (λ i on. ap (λ (w : ℕ). eqb w j) (h.position i on)) chosen;
        }

  -- a child, by what it is asked for
  pub child_every : (child : Child) → bit_and m (asked_of k child) ≡ 0 → (l : Label) → IsChild child l → Taken names k operands m l (bit_and m k.every)
  child_every (Member name) z l (points, is, e) = rw e (member_every points z)
  child_every (Escaped name) z l (points, spells, e) = rw e (member_every points z)
  child_every (Element j) z l e = rw e (element_every j z)

  pub child_chosen : (child : Child) (r : ℕ) → Chosen k.count (bit_and m (asked_of k child)) (child_is names operands child) r
      → (l : Label) → IsChild child l → Taken names k operands m l (bit_or (bit_and m k.every) r)
  child_chosen (Member name) r chosen l (points, is, e) = rw e (member_named points name.now r is chosen)
  child_chosen (Escaped name) r chosen l (points, spells, e) = rw e (member_named points (unescaped name.now) r spells.decoded chosen)
  child_chosen (Element j) r chosen l e = rw e (element_positioned j r chosen)

-- marks of steps of one kind are among the marks of that kind
pub live_kind : (m mask i : ℕ) → bit i (bit_and m mask) ≡ true → bit i mask ≡ true
live_kind m mask i e = ((and-eq-true_iff (bit i m) (bit i mask)).0 (sym (bit_and_lem i m mask) ∙ e)).1

-- the steps with a name have its bounds as their operands, and so have those of them that have a mark
pub fits_named : (k : Kinds) (operands : List ℕ) → Fits k operands → Named k.named operands
fits_named k operands fits i on = (fits.order i on, fits.within i on)

pub named_live : (m mask : ℕ) (operands : List ℕ) → Named mask operands → Named (bit_and m mask) operands
named_live m mask operands named i on = named i (live_kind m mask i on)

-- what a child is compared with is at hand where the steps fit
module _ (names : List ℕ) (k : Kinds) (operands : List ℕ) (fits : Fits k operands) (enough : max_query_bytes ≤ length names) (m asked : ℕ) where
  pub child_at_hand : (child : Child) → asked ≡ asked_of k child → AtHand names operands child (bit_and m asked)
  child_at_hand (Member name) e = (enough, named_live m asked operands (rw e (fits_named k operands fits)))
  child_at_hand (Escaped name) e = (enough, named_live m asked operands (rw e (fits_named k operands fits)))
  child_at_hand (Element j) e = tt

-- no steps: no child is taken, there are no marks, and no child is picked out

pub none_taken : (names : List ℕ) (k : Kinds) (operands : List ℕ) (m : ℕ) (l : Label) → k.count ≡ 0 → Taken names k operands m l 0
unfolding step_hits
none_taken names k operands m l e =
    record {
      taken = λ x h i.
          bit-zero i
          ∙ sym (ap (λ (o : Option Step). bit i m && step_hits o l) (no_step_lem x i (omega (arith, h.count))) ∙ and-false (bit i m));
    }

pub advances_none : (names : List ℕ) (k : Kinds) (operands : List ℕ) (m : ℕ) (l : Label) → k.count ≡ 0 → Advances names k operands m l 0 false
unfolding next_marks number next_picked pick_at
advances_none names k operands m l e =
    record {
      marks_are = λ x h. sym (ap (λ (n : ℕ). number n (next_mark x m l)) (sym h.count ∙ e));
      picked_is = λ x h. sym (ap (pick_at x m l) (sym h.count ∙ e));
    }

-- the mask of n bits
mask_is : (n : ℕ) → n ≤ 16 → 1 * 2 ^ n % 2 ^ 32 ≡ 2 ^ n
mask_is n h = shl_exact {a = 1} 1 n 32 (omega arith) (omega arith) ∙ one-mul (2 ^ n)

pub mask_positive : (n : ℕ) → n ≤ 16 → 1 ≤ 1 * 2 ^ n % 2 ^ 32
mask_positive n h = rw (mask_is n h) (pow_pos n)

pub mask_fits : (n : ℕ) → n ≤ 16 → 1 * 2 ^ n % 2 ^ 32 - 1 < 2 ^ 16
mask_fits n h = rw (mask_is n h) (omega (arith, pow_pos n, pow_mono {i = n} {j = 16} h))

module _ (k : Kinds) (m t : ℕ) (few : k.count ≤ 16) (some_steps : k.count ≡ 0 → ⊥) where
  -- the marks that go one step on and those that stay, before the mask
  abbrev unmasked : ℕ
  unmasked = bit_or (t * 2 ^ 1 % 2 ^ 16) (bit_and m k.deep)

  module _ (names operands : List ℕ) (l : Label) (got : Taken names k operands m l t) (x : List Step) (h : Holds names x k operands) where
    kept : (i : ℕ) → bit i (bit_and m k.deep) ≡ (is_deep (get_elem? x i) && bit i m)
    kept i =
        bit_and_lem i m k.deep
        ∙ ap (λ (b : Bool). bit i m && b) (h.deep i)
        ∙ and_comm (bit i m) (is_deep (get_elem? x i))

    moved : (i : ℕ) → i < 16 → bit i unmasked ≡ (shifted 1 (λ j. bit j t) i || (is_deep (get_elem? x i) && bit i m))
    moved i n = bit_or_lem i (t * 2 ^ 1 % 2 ^ 16) (bit_and m k.deep) ∙ ap₂ (λ (a b : Bool). a || b) (bit_shl 16 1 i t n) (kept i)

    next_bit : (i : ℕ) → i < length x → bit i unmasked ≡ next_mark x m l i
    unfolding next_mark shifted
    next_bit zero n = moved 0 (omega arith)
    next_bit (suc i) n =
        moved (suc i) (omega (arith, h.count))
        ∙ ap (λ (b : Bool). b || (is_deep (get_elem? x (suc i)) && bit (suc i) m))
        (got.taken x h i ∙ and_comm (bit i m) (step_hits (get_elem? x i) l))

    marks_next : bit_and unmasked (1 * 2 ^ k.count % 2 ^ 32 - 1) ≡ next_marks x m l
    unfolding next_marks
    marks_next =
        ap (λ (n : ℕ). bit_and unmasked (n - 1)) (mask_is k.count few)
        ∙ and_mask unmasked k.count
        ∙ ap (λ (n : ℕ). unmasked % 2 ^ n) h.count
        ∙ number_of (length x) unmasked (next_mark x m l) next_bit

    picked_next : eqb (bit_and (t / 2 ^ (k.count - 1)) 1) 1 ≡ next_picked x m l
    unfolding next_picked pick_at
    picked_next = bit_test t (k.count - 1) ∙ got.taken x h (k.count - 1) ∙ go (length x) h.count
      where
        go : (n : ℕ) → k.count ≡ n → (bit (k.count - 1) m && step_hits (get_elem? x (k.count - 1)) l) ≡ pick_at x m l n
        go zero e = absurd (some_steps e)
        go (suc n) e =
            let last : k.count - 1 ≡ n = omega arith in
            ap (λ (i : ℕ). bit i m && step_hits (get_elem? x i) l) last ∙ and_comm (bit n m) (step_hits (get_elem? x n) l)

  pub advances : (names operands : List ℕ) (l : Label) → Taken names k operands m l t
      → Advances names k operands m l (bit_and unmasked (1 * 2 ^ k.count % 2 ^ 32 - 1)) (eqb (bit_and (t / 2 ^ (k.count - 1)) 1) 1)
  advances names operands l got =
      record { marks_are = λ x h. marks_next names operands l got x h; picked_is = λ x h. picked_next names operands l got x h }
