-- What stands at a place of a record, and after a part that stands there.
use Rattle.std.specs.Prelude.{◌≡◌, List, [], ◌∷◌, ◌++◌, ℕ, zero, suc, ◌+◌, ◌-◌, ◌<◌, length, take, drop, get_or}
use Rattle.std.proofs.Common.{sym, ap, ◌∙◌, arith, length-drop, drop-cons, drop-drop}
use Rattle.std.proofs.Math.Seq.{drop-append_seam, slice, take-nil}
use Rattle.encoding.specs.Bytes.{Blanks, put_blanks}
use Rattle.encoding.specs.BytesLaws.{blanks_split, length_blanks}
use Rattle.json_text.specs.Append.{key_split, value_split}
use Rattle.json_text.specs.Grammar.{Kind, Key, Value, put_key, put_value}
use Rattle.select.specs.Nodes.{size, key_size}

-- the byte b stands at place a, and u after it
pub record Head (s : List ℕ) (a b : ℕ) (u : List ℕ) : Type 0 where
  pub inside : a < length s
  pub byte_is : get_or s a 0 ≡ b
  pub rest_is : drop (suc a) s ≡ u

pub head_of : (s : List ℕ) (a b : ℕ) (u : List ℕ) → drop a s ≡ b ∷ u → Head s a b u
head_of s a b u e =
    let h : a < length s = omega (arith, length-drop a s, ap length e) in
    let z : get_or s a 0 ∷ drop (suc a) s ≡ b ∷ u = sym (drop-cons s a 0 h) ∙ e in
    record { inside = h; byte_is = cc; rest_is = cc }

-- a text that is not empty ends the record from one place only
pub same_place : (s : List ℕ) (a b : ℕ) → a < length s → drop a s ≡ drop b s → b ≡ a
same_place s a b h e = omega (arith, length-drop a s, length-drop b s, ap length e)

pub past : (s : List ℕ) (a : ℕ) (xs u : List ℕ) → drop a s ≡ xs ++ u → drop (a + length xs) s ≡ u
past s a xs u e = sym (drop-drop (length xs) a s) ∙ ap (drop (length xs)) e ∙ drop-append_seam xs u

pub past_blanks : (s : List ℕ) (a : ℕ) (w : Blanks) (u : List ℕ) → drop a s ≡ put_blanks w u → drop (a + length w) s ≡ u
past_blanks s a w u e =
    let n : a + length (put_blanks w []) ≡ a + length w = omega (arith, length_blanks w []) in
    ap (λ (i : ℕ). drop i s) (sym n) ∙ past s a (put_blanks w []) u (e ∙ blanks_split w u)

pub past_key : (s : List ℕ) (a : ℕ) (k : Kind) (key : Key k) (u : List ℕ) → drop a s ≡ put_key k key u → drop (a + key_size k key) s ≡ u
unfolding key_size
past_key s a k key u e = past s a (put_key k key []) u (e ∙ key_split k key u)

pub past_value : (s : List ℕ) (a : ℕ) (v : Value) (u : List ℕ) → drop a s ≡ put_value v u → drop (a + size v) s ≡ u
unfolding size
past_value s a v u e = past s a (put_value v []) u (e ∙ value_split v u)

-- a part of a record by its two ends, and by its start and its length
pub slice_is : {A : Type 0} (x y : ℕ) (s : List A) → slice x y s ≡ take (y - x) (drop x s)
slice_is zero y s = let e : y ≡ y - 0 = omega arith in ap (λ (n : ℕ). take n s) e
slice_is (suc x) zero s = let e : 0 - suc x ≡ 0 = omega arith in sym (ap (λ (n : ℕ). take n (drop (suc x) s)) e)
slice_is (suc x) (suc y) [] = sym (take-nil (suc y - suc x))
slice_is (suc x) (suc y) (b ∷ s) = let e : y - x ≡ suc y - suc x = omega arith in slice_is x y s ∙ ap (λ (n : ℕ). take n (drop x s)) e
