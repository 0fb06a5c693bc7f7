-- A value that is ahead is a scalar, which is passed at once, or a container, which is entered: a node's first half before, its second half
-- after. Assumes nothing.
use Rattle.std.specs.Prelude.{◌≡◌, refl, List, [], ◌∷◌, eqb, get_or}
use Rattle.std.proofs.Math.Path.{sym, ap, ap₂}
use Rattle.std.proofs.Common.{◌∙◌, ⊎_elim, add-one, arith}
use Prim.Native.Nat.{ℕ, zero, suc, ◌+◌, ◌-◌, ◌≤◌, ◌<◌}
use Rattle.std.proofs.Math.Nat.{max-zero}
use Rattle.std.proofs.Math.ListN.{drop}
use Rattle.encoding.specs.Bytes.{In, put_in}
use Rattle.encoding.specs.BytesLaws.{to_high}
use Rattle.encoding.specs.Class.{class_of}
use Rattle.encoding.specs.ClassLaws as C
use Rattle.json_text.specs.Grammar as G
use Rattle.json_text.specs.Grammar.{Literal, Minus, Int, Char, Kind, Value, Items, opening, nesting, items_nesting}
use Rattle.json_text.specs.Grammar.{put_literal, put_minus, put_int, put_frac, put_exp, put_string, put_value, put_items}
use Rattle.select.specs.Nodes.{Label, size, end_of}
use Rattle.select.specs.Visits.{visit, visits, items_visits}
use Rattle.select.specs.Ways.{container_frames}
use Rattle.scan.specs.Places.{head_of}
use Rattle.scan.specs.Scans.{IsScalar, EndsScalar, kind_if}
use Rattle.automaton.specs.State.{State}
use Rattle.automaton.specs.Tally.{Tally, raise_from, raised, tallied}
use Rattle.automaton.specs.Halves.{begin, waiting, finish, visit_halves}
use Rattle.walk.specs.Ahead.{ItemsAhead, ValueAhead}

raised_none : (t : Tally) → raised 0 t ≡ t
unfolding raised raise_from
raised_none t = go t.stop
  where
    go : (s : ℕ) → raise_from s 0 t ≡ t
    go zero = ap (λ (x : ℕ). record { list = t.list; used = t.used; peak = x; stop = t.stop }) (max-zero t.peak)
    go (suc s) = refl

digit_class : (x : In 0x31 0x39) → class_of x.byte ≡ 1 → ⊥
digit_class x f =
    ⊎_elim (λ (e : x.byte ≡ 0x5B). omega (arith, to_high x)) (λ (e : x.byte ≡ 0x7B). omega (arith, to_high x))
    ((C.opening_class x.byte).0 f)

-- the opening bracket, by the flag of an object
pub opening_is : (k : Kind) → kind_if (eqb (opening k) 0x7B) ≡ k
opening_is G.array = refl
opening_is G.object = refl

pub opening_class : (k : Kind) → class_of (opening k) ≡ 1
unfolding class_of
opening_class G.array = refl
opening_class G.object = refl

-- no opening bracket begins a scalar
int_class : (s : List ℕ) (i : ℕ) (n : Int) (u : List ℕ) → drop i s ≡ put_int n u → class_of (get_or s i 0) ≡ 1 → ⊥
unfolding put_int class_of
int_class s i G.nought u d f = let z : ◌≡◌ {A = ℕ} 0 1 = sym (ap class_of (head_of s i 0x30 u d).byte_is) ∙ f in omega arith
int_class s i (G.whole x ds) u d f = digit_class x (ap class_of (sym (head_of s i x.byte (put_in ds u) d).byte_is) ∙ f)

module _ (s rest : List ℕ) (i : ℕ) (f : class_of (get_or s i 0) ≡ 1) where
  not_byte : (b : ℕ) (u : List ℕ) → (class_of b ≡ 1 → ⊥) → drop i s ≡ b ∷ u → ⊥
  not_byte b u h d = h (ap class_of (sym (head_of s i b u d).byte_is) ∙ f)

  pub not_literal : (l : Literal) → drop i s ≡ put_literal l rest → ⊥
  unfolding put_literal class_of
  not_literal G.false_name d = not_byte 0x66 _ (λ (z : class_of 0x66 ≡ 1). omega arith) d
  not_literal G.null_name d = not_byte 0x6E _ (λ (z : class_of 0x6E ≡ 1). omega arith) d
  not_literal G.true_name d = not_byte 0x74 _ (λ (z : class_of 0x74 ≡ 1). omega arith) d

  pub not_number : (g : Minus) (n : Int) (u : List ℕ) → drop i s ≡ put_minus g (put_int n u) → ⊥
  unfolding put_minus class_of
  not_number G.unsigned n u d = int_class s i n u d f
  not_number G.minus n u d = not_byte 0x2D (put_int n u) (λ (z : class_of 0x2D ≡ 1). omega arith) d

  pub not_string : (cs : List Char) → drop i s ≡ put_string cs rest → ⊥
  unfolding put_string class_of
  not_string cs d = not_byte 0x22 _ (λ (z : class_of 0x22 ≡ 1). omega arith) d

module _ (next : State → Label → State) (s rest : List ℕ) (st : State) (n : ℕ) (goal : Tally) (end i : ℕ) (t : Tally)
    (x : ValueAhead next s rest st n goal end i t) where
  abbrev begun : Tally
  begun = begin st.picked t i

  -- a scalar: both halves at once
  pub scalar_passed : (e : ℕ) → (class_of (get_or s i 0) ≡ 1 → ⊥) → EndsScalar s i e → (finish (waiting st.picked t) e begun ≡ goal) × (e ≡ end)
  unfolding visits tallied container_frames end_of put_value
  scalar_passed e f h = go x.v x.here x.runs x.ends
    where
      one : (v : Value) → IsScalar v → drop i s ≡ put_value v rest → container_frames v st.frames ≡ 0
          → tallied t (visit st v i ∷ []) ≡ goal → end ≡ i + size v
          → (finish (waiting st.picked t) e begun ≡ goal) × (e ≡ end)
      one v c d z r q =
          let g : e ≡ i + size v = h.exact v rest c d x.stops in (
            ap₂ (λ (a : ℕ) (y : Tally). finish (waiting st.picked t) a y) g (sym (raised_none begun) ∙ ap (λ (k : ℕ). raised k begun) (sym z))
                ∙ sym (visit_halves t (visit st v i) [])
                ∙ r,
            g ∙ sym q,
          )

      go : (v : Value) → drop i s ≡ put_value v rest → tallied t (visits next v st i) ≡ goal → end ≡ i + size v
          → (finish (waiting st.picked t) e begun ≡ goal) × (e ≡ end)
      go (G.literal l) d r q = one (G.literal l) tt d refl r q
      go (G.number g m y z) d r q = one (G.number g m y z) tt d refl r q
      go (G.string cs) d r q = one (G.string cs) tt d refl r q
      go (G.container k is) d r q = absurd (f (ap class_of (head_of s i (opening k) (put_items is rest) d).byte_is ∙ opening_class k))

  -- a container with its opening bracket passed: what its items come to, and the end of its own pair
  pub record Entered : Type 0 where
    pub inner : Tally
    pub levels : 0 < n
    pub ahead : ItemsAhead next s rest (kind_if (eqb (get_or s i 0) 0x7B)) st (n - 1) inner end (i + 1) (raised st.frames begun)
    pub closes : finish (waiting st.picked t) end inner ≡ goal

  pub container_entered : class_of (get_or s i 0) ≡ 1 → Entered
  unfolding visits container_frames end_of put_value nesting size
  container_entered f = go x.v x.here x.shallow x.runs x.ends
    where
      enter : (k : Kind) (is : Items k) → drop i s ≡ opening k ∷ put_items is rest → suc (items_nesting is) ≤ n
          → tallied t (visit st (G.container k is) i ∷ items_visits next is st (i + 1)) ≡ goal → end ≡ i + size (G.container k is) → Entered
      enter k is d l r q =
          let y = head_of s i (opening k) (put_items is rest) d in
          let z : kind_if (eqb (get_or s i 0) 0x7B) ≡ k = ap (λ (b : ℕ). kind_if (eqb b 0x7B)) y.byte_is ∙ opening_is k in
          let inner : Tally = tallied (raised st.frames begun) (items_visits next is st (i + 1)) in
          record {
            inner = inner;
            levels = omega arith;
            ahead =
                rw z
                (record {
                  is = is;
                  here = ap (λ (a : ℕ). drop a s) (add-one i) ∙ y.rest_is;
                  shallow = omega arith;
                  runs = refl;
                  ends = omega arith;
                });
            closes =
                ap (λ (a : ℕ). finish (waiting st.picked t) a inner) q
                ∙ sym (visit_halves t (visit st (G.container k is) i) (items_visits next is st (i + 1)))
                ∙ r;
          }

      go : (v : Value) → drop i s ≡ put_value v rest → nesting v ≤ n → tallied t (visits next v st i) ≡ goal → end ≡ i + size v → Entered
      go (G.literal l) d h r q = absurd (not_literal s rest i f l d)
      go (G.number g m y z) d h r q = absurd (not_number s rest i f g m (put_frac y (put_exp z rest)) d)
      go (G.string cs) d h r q = absurd (not_string s rest i f cs d)
      go (G.container k is) d h r q = enter k is d h r q
