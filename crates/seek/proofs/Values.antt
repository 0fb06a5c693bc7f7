-- The place after a value: the first byte tells a container from a scalar, and each has its own scanner. Assumes nothing.
use mathlib.Core.Path.{◌≡◌, ap, subst, ◌∙◌}
use mathlib.Core.List.{List}
use Prim.Native.Nat.{ℕ, ◌+◌, ◌≤◌, ◌<◌}
use native.Mathlib.Numerals.{add-one}
use native.Mathlib.Omega.{arith}
use lib.Dec.{eqb}
use lib.ListN.{length, drop, get_or, length-drop}
use Rattle.encoding.specs.Class.{class_of}
use Rattle.json_text.specs.Append.{length_value, value_positive}
use Rattle.json_text.specs.Grammar as G
use Rattle.json_text.specs.Grammar.{Kind, Value, Items, opening, put_frac, put_exp, put_value, put_items}
use Rattle.select.specs.Nodes.{size}
use Rattle.scan.specs.Places.{head_of}
use Rattle.scan.specs.Scans.{kind_if, IsScalar, EndsScalar}
use Rattle.leap.specs.Brackets.{Leaves}
use Rattle.walk.specs.ValueLaws.{opening_class, opening_is, not_literal, not_number, not_string}
use Rattle.seek.specs.Seeks.{EndsValue}

pub data IsContainer : Value → Type 0 where
  holds : (k : Kind) (is : Items k) → IsContainer (G.container k is)

module _ (s rest : List ℕ) (i : ℕ) where
  pub value_inside : (v : Value) → drop i s ≡ put_value v rest → i < length s
  value_inside v e = omega (arith, length-drop i s, ap length e, length_value v rest, value_positive v)

  -- an opening bracket begins a container, and nothing else does
  pub is_container : class_of (get_or s i 0) ≡ 1 → (v : Value) → drop i s ≡ put_value v rest → IsContainer v
  unfolding put_value
  is_container f (G.literal l) e = absurd (not_literal s rest i f l e)
  is_container f (G.number g n x y) e = absurd (not_number s rest i f g n (put_frac x (put_exp y rest)) e)
  is_container f (G.string cs) e = absurd (not_string s rest i f cs e)
  is_container f (G.container k is) e = holds k is

  pub is_scalar : (class_of (get_or s i 0) ≡ 1 → ⊥) → (v : Value) → drop i s ≡ put_value v rest → IsScalar v
  unfolding put_value
  is_scalar f (G.literal l) e = tt
  is_scalar f (G.number g n x y) e = tt
  is_scalar f (G.string cs) e = tt
  is_scalar f (G.container k is) e = absurd (f (ap class_of (head_of s i (opening k) (put_items is rest) e).byte_is ∙ opening_class k))

-- the value at i is a container, and what its items are comes behind its opening bracket
pub data Opens (s rest : List ℕ) (i : ℕ) : Value → Type 0 where
  opens : (is : Items (kind_if (eqb (get_or s i 0) 0x7B))) → drop (i + 1) s ≡ put_items is rest → Opens s rest i (G.container _ is)

pub opens_items : (s rest : List ℕ) (i : ℕ) → class_of (get_or s i 0) ≡ 1 → (v : Value) → drop i s ≡ put_value v rest → Opens s rest i v
unfolding put_value
opens_items s rest i f v d = go v (is_container s rest i f v d) d
  where
    go : (v : Value) → IsContainer v → drop i s ≡ put_value v rest → Opens s rest i v
    go _ (holds k is) d =
        let y = head_of s i (opening k) (put_items is rest) d in
        let p : kind_if (eqb (get_or s i 0) 0x7B) ≡ k = ap (λ (b : ℕ). kind_if (eqb b 0x7B)) y.byte_is ∙ opening_is k in
        subst (λ (k : Kind). (is : Items k) → drop (i + 1) s ≡ put_items is rest → Opens s rest i (G.container k is)) p (λ is h. opens is h)
        is (ap (λ (a : ℕ). drop a s) (add-one i) ∙ y.rest_is)

module _ (s : List ℕ) (i : ℕ) where
  -- no value stands behind the last byte
  pub ends_outside : i ≤ length s → length s ≤ i → EndsValue s i i
  ends_outside h l =
      record {
        onward = omega arith;
        within = h;
        exact = λ v rest e _. absurd (omega (arith, value_inside s rest i v e));
      }

  pub ends_scalar : (e : ℕ) → (class_of (get_or s i 0) ≡ 1 → ⊥) → EndsScalar s i e → EndsValue s i e
  ends_scalar e f h =
      record {
        onward = h.onward;
        within = h.within;
        exact = λ v rest d q. h.exact v rest (is_scalar s rest i f v d) d q;
      }

  pub ends_container : (e : ℕ) → i < length s → class_of (get_or s i 0) ≡ 1 → Leaves s (i + 1) e → EndsValue s i e
  unfolding put_value size
  ends_container e l f h =
      record {
        onward = omega (arith, h.onward);
        within = h.within (omega arith);
        exact = λ v rest d q. go v rest (is_container s rest i f v d) d;
      }
    where
      go : (v : Value) (rest : List ℕ) → IsContainer v → drop i s ≡ put_value v rest → e ≡ i + size v
      go _ rest (holds k is) d =
          omega (arith, h.exact k is rest (ap (λ (a : ℕ). drop a s) (add-one i) ∙ (head_of s i (opening k) (put_items is rest) d).rest_is))
