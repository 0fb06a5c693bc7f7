-- What bytes written into the buffer leave there: they can be read back, what stood before them still can, and the length is kept. Writing
-- goes on where it ended. Assumes nothing.
use Rattle.std.specs.Prelude.{◌≡◌, refl, List, [], ◌∷◌, ◌++◌, ℕ, ◌+◌, ◌≤◌, ◌<◌, length, take, drop, set}
use Rattle.std.proofs.Common.{sym, ap, ap₂, ◌∙◌, append_assoc, append-nil, add-zero, arith, length-append, length-drop, take-append-drop, take_at, drop_at, drop-drop, length-take-le, take-take}
use Rattle.std.proofs.Math.Seq.{slice}
use Rattle.std.proofs.lemmas.List.{take-append-le}
use Rattle.std.proofs.lemmas.List.Edits.{sets-eq}
use Rattle.names.specs.Names.{Written}

module _ {before : List ℕ} {i : ℕ} {bytes after : List ℕ} {r : ℕ} (w : Written before i bytes after r) (h : i ≤ length before) where
  head_length : length (take i before ++ bytes) ≡ r
  head_length = omega (arith, length-append (take i before) bytes, length-take-le i before h, w.end)

  pub written_here : slice i r after ≡ bytes
  written_here =
      ap (λ (l : List ℕ). drop i (take r l)) w.all
      ∙ ap (drop i) (take_at (take i before ++ bytes) (drop r before) r head_length)
      ∙ drop_at (take i before) bytes i (length-take-le i before h)

  pub written_below : (x y : ℕ) → y ≤ i → slice x y after ≡ slice x y before
  written_below x y k =
      let m : y ≤ length (take i before) = omega (arith, length-take-le i before h) in
      ap (λ (l : List ℕ). drop x (take y l)) (w.all ∙ append_assoc (take i before) bytes (drop r before))
      ∙ ap (drop x) (take-append-le y (take i before) (bytes ++ drop r before) m ∙ take-take y i before k)

  pub written-length : r ≤ length before → length after ≡ length before
  written-length k =
      ap length w.all
      ∙ omega (arith, length-append (take i before ++ bytes) (drop r before), head_length, length-drop r before)

  -- bytes and then more
  pub written_both : {more after' : List ℕ} {r' : ℕ} → Written after r more after' r' → Written before i (bytes ++ more) after' r'
  written_both {more} {after'} {r'} v =
      record {
        end = omega (arith, v.end, w.end, length-append bytes more);
        all =
            v.all
            ∙ ap₂ (λ (a b : List ℕ). a ++ more ++ b) taken dropped
            ∙ ap (λ (a : List ℕ). a ++ drop r' before) (append_assoc (take i before) bytes more);
      }
    where
      taken : take r after ≡ take i before ++ bytes
      taken = ap (take r) w.all ∙ take_at (take i before ++ bytes) (drop r before) r head_length

      behind : drop r after ≡ drop r before
      behind = ap (drop r) w.all ∙ drop_at (take i before ++ bytes) (drop r before) r head_length

      dropped : drop r' after ≡ drop r' before
      dropped = rw v.end (sym (drop-drop (length more) r after) ∙ ap (drop (length more)) behind ∙ drop-drop (length more) r before)

-- nothing, and one byte
pub written_none : (s : List ℕ) (i : ℕ) → Written s i [] s i
written_none s i =
    record { end = sym (add-zero i); all = sym (ap (λ (l : List ℕ). l ++ drop i s) (append-nil (take i s)) ∙ take-append-drop i s) }

pub written_byte : (s : List ℕ) (i b : ℕ) → i < length s → Written s i (b ∷ []) (set s i b) (i + 1)
written_byte s i b h = record { end = refl; all = sets-eq (b ∷ []) s i (omega arith) }
