-- Blanks: each one passed is one more of those that stand there. Assumes nothing.
use mathlib.Core.Path.{◌≡◌, refl, ap, sym, ◌∙◌}
use mathlib.Core.List.{List, [], ◌∷◌, ◌++◌}
use mathlib.Core.Bool.{true, false}
use Prim.Native.Nat.{ℕ, ◌+◌, ◌≤◌, ◌<◌}
use native.Mathlib.Omega.{arith}
use lib.ListN.{length, get_or, drop}
use Rattle.encoding.specs.BytesLaws.{byte_at_lem}
use Rattle.encoding.specs.Bytes.{Blanks, blank_byte, put_blanks}
use Rattle.query.specs.Append.{blanks_more}
use Rattle.query_lexer.specs.Scans.{BlankIs, blank, Skipped}

-- from n up to i stand blanks
pub record BlanksUpTo (q : List ℕ) (n i : ℕ) : Type 0 where
  pub from : n ≤ i
  pub within : i ≤ length q
  pub stand : (w : Blanks) × (put_blanks w (drop i q) ≡ drop n q)

pub no_blanks : {q : List ℕ} {n : ℕ} → n ≤ length q → BlanksUpTo q n n
unfolding put_blanks
no_blanks h = record { from = omega arith; within = h; stand = ([], refl) }

pub one_more : {q : List ℕ} {n i : ℕ} → BlanksUpTo q n i → i < length q → BlankIs (get_or q i 0) true → BlanksUpTo q n (i + 1)
one_more {q} {n} {i} s h (blank x f) =
    let w : Blanks = s.stand.0 in
    let here : blank_byte x ∷ drop (i + 1) q ≡ drop i q = ap (λ (y : ℕ). y ∷ drop (i + 1) q) (sym f) ∙ sym (byte_at_lem q i h) in
    record {
      from = omega arith;
      within = omega arith;
      stand = (w ++ x ∷ [], blanks_more w x (drop (i + 1) q) ∙ ap (put_blanks w) here ∙ s.stand.1);
    }

pub skipped : {q : List ℕ} {n i : ℕ} → BlanksUpTo q n i → BlankIs (get_or q i 0) false → Skipped q n i
skipped s b = record { from = s.from; within = s.within; stand = s.stand; next = λ h. b }

pub all_blanks : {q : List ℕ} {n i : ℕ} → BlanksUpTo q n i → length q ≤ i → Skipped q n (length q)
all_blanks {q} {i} s h =
    let e : length q ≡ i = omega (arith, s.within) in
    rw (e) (record { from = s.from; within = s.within; stand = s.stand; next = λ g. absurd (omega arith) })
