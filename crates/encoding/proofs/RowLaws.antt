-- What a table of the rows says of a first byte. The rows ascend, so that the search for the row of a byte ends at the first row that does not
-- end below it. Assumes nothing.
use Rattle.std.specs.Prelude.{◌≡◌, Bool, true, false, ◌&&◌, leb, length, drop, None}
use Rattle.std.proofs.Math.Path.{refl, ap}
use Rattle.std.proofs.Common.{sym, ◌∙◌, leb→le, leb-true, leb-false}
use mathlib.Core.List.{List, [], ◌∷◌, map}
use Prim.Native.Nat.{ℕ, zero, suc, ◌+◌, ◌-◌, ◌≤◌, ◌<◌}
use native.Mathlib.Omega.{arith}
use Rattle.std.proofs.Math.ListN.{get_or}
use Rattle.bits.specs.Truth.{all_below, all_at}
use Rattle.encoding.specs.BytesLaws.{beneath, beyond}
use Rattle.encoding.specs.declared.tables.Row.{Row as Stored}
use Rattle.encoding.specs.Utf8.{Row, rows}
use Rattle.encoding.specs.CodePoint.{due, wrong, decode_by, decoding, extent}
use Rattle.encoding.specs.RowTable.{stored, RowTable, HasFirst, RowFor, Narrow, one_byte, more_bytes}
use Rattle.encoding.specs.Utf8Steps.{row_at, row_hit}
use Rattle.encoding.proofs.CodePointLaws.{extent_later}

-- every row has a byte at least
has_byte : ℕ → Bool
has_byte n = leb 1 (row_at rows n).bytes

bytes_some : (n : ℕ) → n < 9 → 1 ≤ (row_at rows n).bytes
unfolding has_byte rows all_below
bytes_some n h = leb→le 1 (row_at rows n).bytes (all_at 9 has_byte tt n h)

-- no row begins below the one before it
rises : ℕ → Bool
rises n = leb (row_at rows n).low (row_at rows (n + 1)).low

ascends : (n : ℕ) → n < 8 → (row_at rows n).low ≤ (row_at rows (n + 1)).low
unfolding rises rows all_below
ascends n h = leb→le (row_at rows n).low (row_at rows (n + 1)).low (all_at 8 rises tt n h)

-- the search for the row of a first byte, from row n on
module _ (b : ℕ) where
  abbrev pub From : ℕ → Type 0
  From n = (s : List ℕ) → decoding (b ∷ s) ≡ decode_by (drop n rows) (b ∷ s)

  pub from_start : From 1
  unfolding decoding
  from_start s = refl

  pub from_end : From 9 → RowFor b None
  unfolding rows decode_by
  from_end f = f

  row_miss :
      (n : ℕ) (rs : List Row) (s : List ℕ) → n < length rs → (leb (row_at rs n).low b && leb b (row_at rs n).high) ≡ false →
      decode_by (drop n rs) (b ∷ s) ≡ decode_by (drop (n + 1) rs) (b ∷ s)
  unfolding decode_by
  row_miss n [] s h e = absurd (omega arith)
  row_miss zero (r ∷ rs) s h e = rw (e, decode_by)
  row_miss (suc n) (r ∷ rs) s h e = let z : suc n + 1 ≡ suc (n + 1) = omega arith in rw z (row_miss n rs s (omega arith) e)

  module _ (n : ℕ) (h : n < 9) (f : From n) where
    from_under : b < (row_at rows n).low → From (n + 1)
    unfolding rows
    from_under l s = f s ∙ row_miss n rows s h (beneath (row_at rows n).low (row_at rows n).high b l)

    from_over : (row_at rows n).high < b → From (n + 1)
    unfolding rows
    from_over u s = f s ∙ row_miss n rows s h (beyond (row_at rows n).low (row_at rows n).high b u)

    row_found : (row_at rows n).low ≤ b → b ≤ (row_at rows n).high → HasFirst b (stored (row_at rows n))
    unfolding rows
    row_found l u = record { some = bytes_some n h; reads = λ s. f s ∙ row_hit b s n rows h l u }

  -- the rows ascend, so that a byte below one of them is in none after it
  none_after : (m n : ℕ) → n + m ≡ 9 → From n → b < (row_at rows n).low → From 9
  unfolding rows
  none_after zero n e f l = let z : n ≡ 9 = omega arith in rw z at f
  none_after (suc zero) n e f l = let z : n + 1 ≡ 9 = omega arith in rw z at (from_under n (omega arith) f l)
  none_after (suc (suc m)) n e f l =
      none_after (suc m) (n + 1) (omega arith) (from_under n (omega arith) f l) (omega (arith, ascends n (omega arith)))

  -- a row that has b as a first byte says what one of the nine does that has it
  pub one_of_rows : {r : Stored} → HasFirst b r → (n : ℕ) × (n < 9) × HasFirst b (stored (row_at rows n))
  one_of_rows {r} f = go 8 1 (omega arith) from_start
    where
      no_row : From 9 → ⊥
      no_row e =
          let rest = due r.second_low r.second_high (r.bytes - 1) [] in
          let none : decoding (b ∷ []) ≡ wrong 0 = from_end e [] in
          omega (arith, ap (extent (b ∷ [])) (sym (f.reads []) ∙ none), extent_later b [] rest)

      go : (m n : ℕ) → n + m ≡ 9 → From n → (n : ℕ) × (n < 9) × HasFirst b (stored (row_at rows n))
      go zero n e g = let z : n ≡ 9 = omega arith in absurd (no_row (rw z at g))
      go (suc m) n e g = by (leb (row_at rows n).low b) refl (leb b (row_at rows n).high) refl (go m (n + 1) (omega arith))
        where
          h : n < 9
          h = omega arith

          by :
              (x : Bool) → leb (row_at rows n).low b ≡ x → (y : Bool) → leb b (row_at rows n).high ≡ y →
              (From (n + 1) → (n : ℕ) × (n < 9) × HasFirst b (stored (row_at rows n))) → (n : ℕ) × (n < 9) × HasFirst b (stored (row_at rows n))
          by false l y u next = next (from_under n h g (leb-false (row_at rows n).low b l))
          by true l false u next = next (from_over n h g (leb-false b (row_at rows n).high u))
          by true l true u next = (n, h, row_found n h g (leb-true (row_at rows n).low b l) (leb-true b (row_at rows n).high u))

stored_at : (rs : List Row) (n : ℕ) (d : Stored) → n < length rs → get_or (map stored rs) n d ≡ stored (row_at rs n)
stored_at [] n d h = absurd (omega arith)
stored_at (r ∷ rs) zero d h = refl
stored_at (r ∷ rs) (suc n) d h = stored_at rs n d (omega arith)

module _ {table : List Stored} (t : RowTable table) where
  -- entry n of the table is row n
  pub entry_at : (n : ℕ) (d : Stored) → n < 9 → get_or table n d ≡ stored (row_at rows n)
  unfolding rows
  entry_at n d h = ap (λ (l : List Stored). get_or l n d) t.same ∙ stored_at rows n d h

  -- the first entry has every byte below 80 and no other, and nothing is due after one
  abbrev pub first : Stored
  first = get_or table 0 (record { low = 0; high = 0; second_low = 0; second_high = 0; bytes = 0 })

  first_high : first.high ≡ (row_at rows 0).high
  first_high = ap (λ (r : Stored). r.high) (entry_at 0 _ (omega arith))

  pub by_first : (b : ℕ) → Narrow b (leb b first.high)
  unfolding rows due
  by_first b = by (leb b first.high) refl
    where
      by : (x : Bool) → leb b first.high ≡ x → Narrow b x
      by true e =
          let u = leb-true b first.high e in
          one_byte (omega (arith, first_high)) (λ s. row_hit b s 0 rows (omega arith) (omega arith) (omega (arith, first_high)))
      by false e = more_bytes (omega (arith, leb-false b first.high e, first_high))

  -- entry n of those after the first, where no row before it has the byte
  module _ (b n : ℕ) (d : Stored) (h : n < 8) (f : From b (n + 1)) where
    entry : get_or (drop 1 table) n d ≡ stored (row_at rows (n + 1))
    unfolding rows
    entry = let z : n + 1 ≡ suc n = omega arith in rw z (ap (λ (l : List Stored). get_or (drop 1 l) n d) t.same ∙ stored_at (drop 1 rows) n d h)

    low_is : (get_or (drop 1 table) n d).low ≡ (row_at rows (n + 1)).low
    low_is = ap (λ (r : Stored). r.low) entry

    high_is : (get_or (drop 1 table) n d).high ≡ (row_at rows (n + 1)).high
    high_is = ap (λ (r : Stored). r.high) entry

    pub has_byte_at : (get_or (drop 1 table) n d).low ≤ b → b ≤ (get_or (drop 1 table) n d).high → HasFirst b (get_or (drop 1 table) n d)
    has_byte_at l u = rw entry (row_found b (n + 1) (omega arith) f (omega (arith, low_is)) (omega (arith, high_is)))

    pub under_it : b < (get_or (drop 1 table) n d).low → RowFor b None
    under_it l = from_end b (none_after b (8 - n) (n + 1) (omega arith) f (omega (arith, low_is)))

    pub over_it : (get_or (drop 1 table) n d).high < b → From b (n + 1 + 1)
    over_it u = from_over b (n + 1) (omega arith) f (omega (arith, high_is))
