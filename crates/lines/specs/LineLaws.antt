-- What is printed, taken apart into the pieces that are written one after the other.
use Rattle.std.specs.Prelude.{◌≡◌, refl, List, [], ◌∷◌, ◌++◌, ℕ, zero, suc, ◌+◌, ◌-◌, ◌≤◌, ◌<◌}
use Rattle.std.proofs.Common.{ap, sym, ◌∙◌, add-zero, arith}
use Rattle.std.proofs.Math.Seq.{append_snoc}
use Rattle.encoding.specs.Ascii.{ascii}
use Rattle.text.specs.Decimal.{decimal}
use Rattle.lines.specs.Lines.{space, feed, line, pair_line, pair_lines, matches, refusal, report}
use Rattle.text.specs.Put.{Room, Written}
use Rattle.text.specs.PutLaws.{put_none, room_first, room_after, written_both, first_fits, second_fits, third_fits, three_written}

-- a field and the byte after it
abbrev pub ended : List ℕ → ℕ → List ℕ
ended f b = f ++ (b ∷ [])

line_more : (f g : List ℕ) (gs : List (List ℕ)) → line f (g ∷ gs) ≡ ended f space ++ line g gs
unfolding line
line_more f g gs = sym (append_snoc f space (line g gs))

pub line_three : (f g h : List ℕ) → line f (g ∷ h ∷ []) ≡ ended f space ++ (ended g space ++ ended h feed)
unfolding line
line_three f g h = line_more f g (h ∷ []) ∙ ap (λ (l : List ℕ). ended f space ++ l) (line_more g h [])

pub matches_parts : (n : ℕ) (l : List ℕ) → matches n l ≡ ascii "matches " ++ (ended (decimal n) feed ++ pair_lines 0 n l)
unfolding line
matches_parts n l = refl

-- the text for an answer without a refusal, and with one
pub report_taken : (g p n : ℕ) (l : List ℕ) → g ≡ 0 → report g p n l ≡ matches n l
unfolding report
report_taken g p n l e = rw e

pub report_refused : (g p n : ℕ) (l : List ℕ) → (g ≡ 0 → ⊥) → report g p n l ≡ refusal g p
unfolding report
report_refused zero p n l h = absurd (h refl)
report_refused (suc g) p n l h = refl

-- a line of three fields, written field by field
module _ (f g h : List ℕ) {at : ℕ} {b : List ℕ} (room : Room (line f (g ∷ h ∷ [])) at b) where
  pub line_first : Room (ended f space) at b
  line_first = first_fits (ended f space) (ended g space) (ended h feed) (line_three f g h) room

  module _ {m : List ℕ} {i : ℕ} (one : Written (ended f space) at b m i) where
    pub line_second : Room (ended g space) i m
    line_second = second_fits (ended f space) (ended g space) (ended h feed) (line_three f g h) room one

    module _ {n : List ℕ} {j : ℕ} (two : Written (ended g space) i m n j) where
      pub line_third : Room (ended h feed) j n
      line_third = third_fits (ended f space) (ended g space) (ended h feed) (line_three f g h) room one two

      pub line_written : {a : List ℕ} {k : ℕ} → Written (ended h feed) j n a k → Written (line f (g ∷ h ∷ [])) at b a k
      line_written three = three_written (ended f space) (ended g space) (ended h feed) (line_three f g h) room one two three

-- the text of the matches: its word, the number of pairs, and the lines of the pairs
module _ (n : ℕ) (l : List ℕ) {at : ℕ} {b : List ℕ} (room : Room (matches n l) at b) where
  pub matches_first : Room (ascii "matches ") at b
  matches_first = first_fits (ascii "matches ") (ended (decimal n) feed) (pair_lines 0 n l) (matches_parts n l) room

  module _ {m : List ℕ} {i : ℕ} (one : Written (ascii "matches ") at b m i) where
    pub matches_second : Room (ended (decimal n) feed) i m
    matches_second = second_fits (ascii "matches ") (ended (decimal n) feed) (pair_lines 0 n l) (matches_parts n l) room one

    module _ {m' : List ℕ} {j : ℕ} (two : Written (ended (decimal n) feed) i m m' j) where
      pub matches_third : Room (pair_lines 0 n l) j m'
      matches_third = third_fits (ascii "matches ") (ended (decimal n) feed) (pair_lines 0 n l) (matches_parts n l) room one two

      pub matches_written : {a : List ℕ} {k : ℕ} → Written (pair_lines 0 n l) j m' a k → Written (matches n l) at b a k
      matches_written three =
          three_written (ascii "matches ") (ended (decimal n) feed) (pair_lines 0 n l) (matches_parts n l) room one two three

-- the lines of the pairs from pair i on: that of pair i, and those after it
abbrev pub lines_from : (i n : ℕ) → List ℕ → List ℕ
lines_from i n l = pair_lines i (n - i) l

lines_next : (i n : ℕ) (l : List ℕ) → i < n → lines_from i n l ≡ pair_line i l ++ lines_from (i + 1) n l
unfolding pair_lines
lines_next i n l h =
    let e : n - i ≡ suc (n - (i + 1)) = omega arith in
    rw e

lines_done : (i n : ℕ) (l : List ℕ) → n ≤ i → lines_from i n l ≡ []
unfolding pair_lines
lines_done i n l h = let e : n - i ≡ 0 = omega arith in rw e

-- what is left at pair i completes the text
pub record Left (i n : ℕ) (l text : List ℕ) (at : ℕ) (before : List ℕ) (end : ℕ) (buffer : List ℕ) : Type 0 where
  pub room : Room (lines_from i n l) end buffer
  pub completes : (after : List ℕ) (last : ℕ) → Written (lines_from i n l) end buffer after last → Written text at before after last

module _ {i n : ℕ} {l text : List ℕ} {at : ℕ} {before : List ℕ} {end : ℕ} {buffer : List ℕ} where
  pub left_fits : i < n → Left i n l text at before end buffer → Room (pair_line i l) end buffer
  left_fits h left = room_first (pair_line i l) (lines_from (i + 1) n l) end buffer (rw (lines_next i n l h) at left.room)

  pub left_next :
      {end' : ℕ} {buffer' : List ℕ} → i < n → Left i n l text at before end buffer → Written (pair_line i l) end buffer buffer' end' →
      Left (i + 1) n l text at before end' buffer'
  left_next h left one =
      let whole : Room (pair_line i l ++ lines_from (i + 1) n l) end buffer = rw (lines_next i n l h) at left.room in
      record {
        room = room_after (lines_from (i + 1) n l) one whole;
        completes = λ after last w. left.completes after last (rw (lines_next i n l h) (written_both one w whole));
      }

  pub left_done : n ≤ i → Left i n l text at before end buffer → Written text at before buffer end
  left_done h left =
      left.completes buffer end (rw (lines_done i n l h) (record { end_is = sym (add-zero end); after_is = sym (put_none end buffer) }))

pub left_all : (n : ℕ) (l : List ℕ) (at : ℕ) (before : List ℕ) → Room (pair_lines 0 n l) at before → Left 0 n l (pair_lines 0 n l) at before at before
left_all n l at before room =
    let e : n - 0 ≡ n = omega arith in
    record { room = rw e room; completes = λ after last w. rw e at w }
