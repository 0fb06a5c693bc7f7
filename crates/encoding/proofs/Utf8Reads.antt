-- What is read of every text: a code point by the row of its first byte. Assumes nothing.
use Rattle.std.specs.Prelude.{◌≡◌, Bool, true, false, ◌⊎◌, leb, take, drop}
use Rattle.std.proofs.Math.Path.{refl}
use Rattle.std.proofs.Common.{◌∙◌, inl, inr, arith, leb-true, leb-false}
use mathlib.Core.List.{List, [], ◌∷◌}
use Prim.Native.Nat.{ℕ, zero, suc, ◌≤◌, ◌<◌}
use Rattle.encoding.specs.BytesLaws.{beneath, beyond}
use Rattle.encoding.specs.Utf8.{Row, rows}
use Rattle.encoding.specs.CodePoint.{wrong, later, due, decode_by, decoding}
use Rattle.encoding.specs.Utf8Steps.{Due, one, two, three, due_e0, due_ed, due_f0, due_f4, lowest, highest, more, due_at}
use Rattle.encoding.specs.Utf8Steps.{First, in_c2_df, in_e0, in_e1_ec, in_ed, in_ee_ef, in_f0, in_f1_f3, in_f4}
use Rattle.encoding.specs.Utf8Steps.{Next, two_one, three_two, e0_one, ed_one, f0_two, f4_two}
use Rattle.encoding.specs.Utf8Steps.{Rest, cut, under, over, last, next, Reads, empty, too_low, too_high, first}
use Rattle.encoding.specs.Utf8Steps.{due_on, due_under, due_over, after_row, row_at, row_hit}

abbrev wide_rows : List Row
unfolding rows
wide_rows = drop 1 rows

-- every first byte is above these rows, or below them
abbrev Above : List Row → ℕ → Type 0
Above [] b = Unit {0}
Above (r ∷ rs) b = (r.high < b) × Above rs b

abbrev Under : List Row → ℕ → Type 0
Under [] b = Unit {0}
Under (r ∷ rs) b = (b < r.low) × Under rs b

module _ (b : ℕ) (s : List ℕ) where
  pass : (n : ℕ) (rs : List Row) → Above (take n rs) b → decode_by rs (b ∷ s) ≡ decode_by (drop n rs) (b ∷ s)
  unfolding decode_by
  pass zero rs a = refl
  pass (suc n) [] a = refl
  pass (suc n) (r ∷ rs) a = rw (beyond r.low r.high b a.0, decode_by) (pass n rs a.1)

  none : (rs : List Row) → Under rs b → decode_by rs (b ∷ s) ≡ wrong 0
  unfolding decode_by
  none [] u = refl
  none (r ∷ rs) u = rw (beneath r.low r.high b u.0, decode_by) (none rs u.1)

  at_row :
      (n : ℕ) → n < 8 → Above (take n wide_rows) b → (row_at wide_rows n).low ≤ b → b ≤ (row_at wide_rows n).high →
      decoding (b ∷ s) ≡ later (after_row (row_at wide_rows n) s)
  unfolding decoding
  at_row n h a l u = pass n wide_rows a ∙ row_hit b s n wide_rows h l u

-- a first byte is read by its row
pub first_decoding : {b : ℕ} {d : Due} → First b d → (s : List ℕ) → decoding (b ∷ s) ≡ later (due_at d s)
unfolding rows
first_decoding {b} (in_c2_df l h) s = at_row b s 0 (omega arith) tt l h
first_decoding {b} (in_e0 l h) s = at_row b s 1 (omega arith) (omega arith) l h
first_decoding {b} (in_e1_ec l h) s = at_row b s 2 (omega arith) (omega arith) l h
first_decoding {b} (in_ed l h) s = at_row b s 3 (omega arith) (omega arith) l h
first_decoding {b} (in_ee_ef l h) s = at_row b s 4 (omega arith) (omega arith) l h
first_decoding {b} (in_f0 l h) s = at_row b s 5 (omega arith) (omega arith) l h
first_decoding {b} (in_f1_f3 l h) s = at_row b s 6 (omega arith) (omega arith) l h
first_decoding {b} (in_f4 l h) s = at_row b s 7 (omega arith) (omega arith) l h

pub too_low_decoding : (b : ℕ) (s : List ℕ) → b < 0xC2 → decoding (b ∷ s) ≡ wrong 0
unfolding decoding
too_low_decoding b s h = none b s wide_rows (omega arith)

pub too_high_decoding : (b : ℕ) (s : List ℕ) → 0xF4 < b → decoding (b ∷ s) ≡ wrong 0
unfolding decoding
too_high_decoding b s h = pass b s 8 wide_rows (omega arith)

-- the bytes due are read as the definition says
pub next_reads :
    {d e : Due} → Next d e → (b : ℕ) (s : List ℕ) → lowest d ≤ b → b ≤ highest d → due_at d (b ∷ s) ≡ later (due_at e s)
next_reads three_two b s l h = due_on 0x80 0xBF 2 b s l h
next_reads two_one b s l h = due_on 0x80 0xBF 1 b s l h
next_reads e0_one b s l h = due_on 0xA0 0xBF 1 b s l h
next_reads ed_one b s l h = due_on 0x80 0x9F 1 b s l h
next_reads f0_two b s l h = due_on 0x90 0xBF 2 b s l h
next_reads f4_two b s l h = due_on 0x80 0x8F 2 b s l h

-- a byte that is due: below, above, or within the bounds
split :
    (d : Due) (b : ℕ) (s : List ℕ) → (lowest d ≤ b → b ≤ highest d → Rest d (b ∷ s) (due_at d (b ∷ s))) →
    Rest d (b ∷ s) (due_at d (b ∷ s))
split d b s inner = go (leb (lowest d) b) refl (leb b (highest d)) refl
  where
    go : (x : Bool) → leb (lowest d) b ≡ x → (y : Bool) → leb b (highest d) ≡ y → Rest d (b ∷ s) (due_at d (b ∷ s))
    go false e y g = let h = leb-false (lowest d) b e in rw (due_under (lowest d) (highest d) (more d) b s h) (under h)
    go true e false g = let h = leb-false b (highest d) g in rw (due_over (lowest d) (highest d) (more d) b s h) (over h)
    go true e true g = inner (leb-true (lowest d) b e) (leb-true b (highest d) g)

pub rest : (d : Due) (s : List ℕ) → Rest d s (due_at d s)
unfolding due
rest d [] = cut
rest one (b ∷ s) = split one b s (λ l h. rw (due_on 0x80 0xBF 0 b s l h) (last l h))
rest two (b ∷ s) = split two b s (λ l h. rw (next_reads two_one b s l h) (next two_one l h (rest one s)))
rest three (b ∷ s) = split three b s (λ l h. rw (next_reads three_two b s l h) (next three_two l h (rest two s)))
rest due_e0 (b ∷ s) = split due_e0 b s (λ l h. rw (next_reads e0_one b s l h) (next e0_one l h (rest one s)))
rest due_ed (b ∷ s) = split due_ed b s (λ l h. rw (next_reads ed_one b s l h) (next ed_one l h (rest one s)))
rest due_f0 (b ∷ s) = split due_f0 b s (λ l h. rw (next_reads f0_two b s l h) (next f0_two l h (rest two s)))
rest due_f4 (b ∷ s) = split due_f4 b s (λ l h. rw (next_reads f4_two b s l h) (next f4_two l h (rest two s)))

at_most : (b k : ℕ) → (b ≤ k) ⊎ (k < b)
at_most b k = go (leb b k) refl
  where
    go : (x : Bool) → leb b k ≡ x → (b ≤ k) ⊎ (k < b)
    go true e = inl (leb-true b k e)
    go false e = inr (leb-false b k e)

-- every byte from C2 to F4 makes something due
pub first_of : (b : ℕ) → 0xC2 ≤ b → b ≤ 0xF4 → (d : Due) × First b d
first_of b l h = df (at_most b 0xDF)
  where
    f3 : 0xF0 < b → (b ≤ 0xF3) ⊎ (0xF3 < b) → (d : Due) × First b d
    f3 g (inl e) = (three, in_f1_f3 g e)
    f3 g (inr e) = (due_f4, in_f4 e h)

    f0 : 0xEF < b → (b ≤ 0xF0) ⊎ (0xF0 < b) → (d : Due) × First b d
    f0 g (inl e) = (due_f0, in_f0 g e)
    f0 g (inr e) = f3 e (at_most b 0xF3)

    ef : 0xED < b → (b ≤ 0xEF) ⊎ (0xEF < b) → (d : Due) × First b d
    ef g (inl e) = (two, in_ee_ef g e)
    ef g (inr e) = f0 e (at_most b 0xF0)

    ed : 0xEC < b → (b ≤ 0xED) ⊎ (0xED < b) → (d : Due) × First b d
    ed g (inl e) = (due_ed, in_ed g e)
    ed g (inr e) = ef e (at_most b 0xEF)

    ec : 0xE0 < b → (b ≤ 0xEC) ⊎ (0xEC < b) → (d : Due) × First b d
    ec g (inl e) = (two, in_e1_ec g e)
    ec g (inr e) = ed e (at_most b 0xED)

    e0 : 0xDF < b → (b ≤ 0xE0) ⊎ (0xE0 < b) → (d : Due) × First b d
    e0 g (inl e) = (due_e0, in_e0 g e)
    e0 g (inr e) = ec e (at_most b 0xEC)

    df : (b ≤ 0xDF) ⊎ (0xDF < b) → (d : Due) × First b d
    df (inl e) = (one, in_c2_df l e)
    df (inr e) = e0 e (at_most b 0xE0)

-- every text is read so
pub reads : (s : List ℕ) → Reads s (decoding s)
unfolding decoding
reads [] = empty
reads (b ∷ s) = low (at_most b 0xC1)
  where
    known : (d : Due) × First b d → Reads (b ∷ s) (decoding (b ∷ s))
    known f = rw (first_decoding f.1 s) (first f.1 (rest f.0 s))

    high : 0xC1 < b → (b ≤ 0xF4) ⊎ (0xF4 < b) → Reads (b ∷ s) (decoding (b ∷ s))
    high g (inl e) = known (first_of b g e)
    high g (inr e) = rw (too_high_decoding b s e) (too_high e)

    low : (b ≤ 0xC1) ⊎ (0xC1 < b) → Reads (b ∷ s) (decoding (b ∷ s))
    low (inl e) = let h : b < 0xC2 = omega arith in rw (too_low_decoding b s h) (too_low h)
    low (inr e) = high e (at_most b 0xF4)
