-- Laws of the bytes of a code point, row by row, and of the bytes due after its first one. Assumes nothing.
use Rattle.std.specs.Prelude.{◌≡◌, refl, List, [], ◌++◌, ℕ, zero, suc, ◌≤◌, ◌<◌, length}
use Rattle.std.proofs.Common.{arith}
use Rattle.encoding.specs.BytesLaws.{Then}
use Rattle.encoding.specs.Utf8.{Wide, c2_df, e0, e1_ec, ed, ee_ef, f0, f1_f3, f4, put_wide}
use Rattle.encoding.specs.Utf8.{Second, any_tail, after_e0, after_ed, after_f0, after_f4, second_low, second_high}

-- what is appended to the bytes after a code point is appended to the whole
pub append-wide : (p : Wide) (s u : List ℕ) → put_wide p (s ++ u) ≡ put_wide p s ++ u
unfolding put_wide
append-wide (c2_df x y) s u = refl
append-wide (e0 x y z) s u = refl
append-wide (e1_ec x y z) s u = refl
append-wide (ed x y z) s u = refl
append-wide (ee_ef x y z) s u = refl
append-wide (f0 x y z w) s u = refl
append-wide (f1_f3 x y z w) s u = refl
append-wide (f4 x y z w) s u = refl

pub wide_positive : (p : Wide) → 0 < length (put_wide p [])
unfolding put_wide
wide_positive (c2_df x y) = omega arith
wide_positive (e0 x y z) = omega arith
wide_positive (e1_ec x y z) = omega arith
wide_positive (ed x y z) = omega arith
wide_positive (ee_ef x y z) = omega arith
wide_positive (f0 x y z w) = omega arith
wide_positive (f1_f3 x y z w) = omega arith
wide_positive (f4 x y z w) = omega arith

-- some byte may follow
pub second_some : (p : Second) → second_low p ≤ second_high p
second_some any_tail = omega arith
second_some after_e0 = omega arith
second_some after_ed = omega arith
second_some after_f0 = omega arith
second_some after_f4 = omega arith

-- n bytes of 80-BF, and then L
abbrev pub Tails : ℕ → (List ℕ → Type 0) → List ℕ → Type 0
Tails zero L = L
Tails (suc n) L = Then 0x80 0xBF (Tails n L)
