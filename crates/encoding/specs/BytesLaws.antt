-- Laws of the bytes of a range and of blanks: a test's outcome from the bounds, and `put x s` as the bytes of x alone and then s, so that
-- places and lengths can be counted. Assumes nothing.
use Rattle.std.specs.Prelude.{◌≡◌, refl, List, [], ◌∷◌, ◌++◌, true, false, ◌&&◌, ◌↔◌, ℕ, ◌+◌, ◌-◌, ◌≤◌, ◌<◌, T, leb, eqb, length, get_or, take, drop}
use Rattle.std.proofs.Common.{ap, subst, sym, ◌∙◌, add-one, arith, leb→le, length-append, drop-cons, le-leb, eqb-true, eq-eqb}
use Rattle.std.proofs.Math.Bool.{and-false, and-eq-true_iff}
use Rattle.std.proofs.lemmas.Bool.{false≢true, lt-leb}
use Rattle.std.proofs.Math.Seq.{slice}
use Rattle.std.proofs.lemmas.List.{drop-take}
use Rattle.bits.specs.Truth.{and_left, and_right}
use Rattle.encoding.specs.Bytes.{In, put_in, Blanks, blank_byte, put_blanks, same_numbers}

-- what stands at a place is the byte there and what follows it
pub byte_at_lem : (s : List ℕ) (i : ℕ) → i < length s → drop i s ≡ get_or s i 0 ∷ drop (i + 1) s
byte_at_lem s i h = rw add-one (drop-cons s i 0 h)

-- the part between two places, as it is lent
pub part_is : (x y : ℕ) (s : List ℕ) → x ≤ y → take (y - x) (drop x s) ≡ slice x y s
part_is x y s h =
    let e : x + (y - x) ≡ y = omega arith in
    sym (drop-take x (y - x) s) ∙ ap (λ (n : ℕ). drop x (take n s)) e

-- the test of a range, from what is known of the byte
module _ (lo hi b : ℕ) where
  pub inside : lo ≤ b → b ≤ hi → (leb lo b && leb b hi) ≡ true
  inside l h = rw (le-leb lo b l, le-leb b hi h)

  pub beneath : b < lo → (leb lo b && leb b hi) ≡ false
  beneath l = rw (lt-leb lo b l)

  pub beyond : hi < b → (leb lo b && leb b hi) ≡ false
  beyond h = rw (lt-leb b hi h, and-false (leb lo b))

-- a byte of the range, and its bounds
unfoldable pub make : {lo hi : ℕ} (b : ℕ) → lo ≤ b → b ≤ hi → In lo hi
make {lo} {hi} b l h = record { byte = b; ok = subst T (sym (inside lo hi b l h)) tt }

module _ {lo hi : ℕ} (x : In lo hi) where
  pub from_low : lo ≤ x.byte
  from_low = leb→le lo x.byte (and_left (leb lo x.byte) (leb x.byte hi) x.ok)

  pub to_high : x.byte ≤ hi
  to_high = leb→le x.byte hi (and_right (leb lo x.byte) (leb x.byte hi) x.ok)

  pub in_bounds : (lo ≤ x.byte) × (x.byte ≤ hi)
  in_bounds = (from_low, to_high)

-- a byte of a range, and then L
pub data Then (lo hi : ℕ) (L : List ℕ → Type 0) : List ℕ → Type 0 where
  then : {s : List ℕ} (b : In lo hi) → L s → Then lo hi L (b.byte ∷ s)

-- what is appended to the bytes after x is appended to the whole

pub append_in : {lo hi : ℕ} (bs : List (In lo hi)) (s u : List ℕ) → put_in bs (s ++ u) ≡ put_in bs s ++ u
unfolding put_in
append_in [] s u = refl
append_in (b ∷ bs) s u = ap (λ (x : List ℕ). b.byte ∷ x) (append_in bs s u)

pub append_blanks : (w : Blanks) (s u : List ℕ) → put_blanks w (s ++ u) ≡ put_blanks w s ++ u
unfolding put_blanks
append_blanks [] s u = refl
append_blanks (b ∷ w) s u = ap (λ (x : List ℕ). blank_byte b ∷ x) (append_blanks w s u)

pub blanks_split : (w : Blanks) (s : List ℕ) → put_blanks w s ≡ put_blanks w [] ++ s
blanks_split w s = append_blanks w [] s

-- and so lengths add up

pub size : (put : List ℕ → List ℕ) → ((s u : List ℕ) → put (s ++ u) ≡ put s ++ u) → (s : List ℕ) → length (put s) ≡ length (put []) + length s
size put f s = ap length (f [] s) ∙ length-append (put []) s

pub length_blanks : (w : Blanks) (s : List ℕ) → length (put_blanks w s) ≡ length w + length s
unfolding put_blanks
length_blanks [] s = omega arith
length_blanks (b ∷ w) s = omega (arith, length_blanks w s)

pub same_numbers_lem : (s u : List ℕ) → (same_numbers s u ≡ true) ↔ (s ≡ u)
unfolding same_numbers
same_numbers_lem s u = (there s u, λ e. rw e (itself u))
  where
    there : (s u : List ℕ) → same_numbers s u ≡ true → s ≡ u
    there [] [] e = refl
    there [] (c ∷ u) e = absurd (false≢true e)
    there (b ∷ s) [] e = absurd (false≢true e)
    there (b ∷ s) (c ∷ u) e =
        let h = (and-eq-true_iff (eqb b c) (same_numbers s u)).0 e in
        let p : b ≡ c = eqb-true b c h.0 in
        let q : s ≡ u = there s u h.1 in
        cc

    itself : (s : List ℕ) → same_numbers s s ≡ true
    itself [] = refl
    itself (b ∷ s) = (and-eq-true_iff (eqb b b) (same_numbers s s)).1 (eq-eqb b b refl, itself s)
