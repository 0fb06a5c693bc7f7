-- How a code point is read at a place of a text: what a scan's answer says, byte by byte and against the grammar.
use Rattle.std.specs.Prelude.{◌≡◌, refl, List, [], ◌∷◌, Bool, true, false, ℕ, ◌+◌, ◌-◌, ◌≤◌, ◌<◌, length, get_or, drop}
use Rattle.std.proofs.Common.{ap, sym, ◌∙◌, add-zero, arith, length-drop, get_or-drop, drop-drop}
use Rattle.std.proofs.lemmas.Bool.{false≢true}
use Rattle.encoding.specs.Utf8.{Wide, put_wide}
use Rattle.encoding.specs.Prefix.{DeadPlace}
use Rattle.encoding.specs.CodePoint.{Decoding, whole, wrong, short, decoding, is_whole, extent, StartsWide, Scanned}
use Rattle.encoding.proofs.CodePointLaws.{is_whole_later, extent_later, decoding_within, whole_wide, dead_byte}
use Rattle.encoding.specs.Utf8Steps.{Due, one, lowest, highest, First, Next, Rest, Reads}
use Rattle.encoding.proofs.Utf8Reads.{reads}
use Rattle.encoding.specs.Utf8Steps as Steps

-- how the bytes due are read from place i on: ok and the place after them, or not ok and the place of the wrong byte
pub data RestAt (s : List ℕ) : Due → ℕ → Bool → ℕ → Type 0 where
  cut : {d : Due} {i : ℕ} → length s ≤ i → RestAt s d i false i
  under : {d : Due} {i : ℕ} → i < length s → get_or s i 0 < lowest d → RestAt s d i false i
  over : {d : Due} {i : ℕ} → i < length s → highest d < get_or s i 0 → RestAt s d i false i
  last : {i : ℕ} → i < length s → 0x80 ≤ get_or s i 0 → get_or s i 0 ≤ 0xBF → RestAt s one i true (i + 1)
  next :
      {d e : Due} {i : ℕ} {ok : Bool} {at : ℕ} →
      Next d e → i < length s → lowest d ≤ get_or s i 0 → get_or s i 0 ≤ highest d → RestAt s e (i + 1) ok at → RestAt s d i ok at

-- how a code point from 80 on is read at place i
pub data ReadsAt (s : List ℕ) (i : ℕ) : Bool → ℕ → Type 0 where
  cut : length s ≤ i → ReadsAt s i false i
  too_low : i < length s → get_or s i 0 < 0xC2 → ReadsAt s i false i
  too_high : i < length s → 0xF4 < get_or s i 0 → ReadsAt s i false i
  first :
      {d : Due} {ok : Bool} {at : ℕ} → i < length s → First (get_or s i 0) d → RestAt s d (i + 1) ok at → ReadsAt s i ok at

module _ (s : List ℕ) where
  -- what stands at a place, from what is left there
  nothing : (i : ℕ) → drop i s ≡ [] → length s ≤ i
  nothing i e = omega (arith, length-drop i s, ap length e)

  module _ (i b : ℕ) (t : List ℕ) (e : drop i s ≡ b ∷ t) where
    some : i < length s
    some = omega (arith, length-drop i s, ap length e)

    byte : get_or s i 0 ≡ b
    byte = ap (λ (n : ℕ). get_or s n 0) (sym (add-zero i)) ∙ sym (get_or-drop i s 0 0) ∙ ap (λ (l : List ℕ). get_or l 0 0) e

    rest_from : drop (i + 1) s ≡ t
    rest_from = sym (drop-drop 1 i s) ∙ ap (drop 1) e

  rest_at :
      {d : Due} {t : List ℕ} {x : Decoding} → Rest d t x → (i : ℕ) → drop i s ≡ t → {ok : Bool} {at : ℕ} →
      ok ≡ is_whole x → at ≡ i + extent t x → RestAt s d i ok at
  rest_at Steps.cut i e w p = let q : i + 0 ≡ i = omega arith in rw (w, p, q) (cut (nothing i e))
  rest_at (Steps.under {d} {b} {s = t} l) i e w p =
      let q : i + 0 ≡ i = omega arith in rw (w, p, q) (under {d = d} (some i b t e) (rw (byte i b t e) l))
  rest_at (Steps.over {d} {b} {s = t} h) i e w p =
      let q : i + 0 ≡ i = omega arith in rw (w, p, q) (over {d = d} (some i b t e) (rw (byte i b t e) h))
  rest_at (Steps.last {b} {s = t} l h) i e w p = rw (w, p) (last (some i b t e) (rw (byte i b t e) l) (rw (byte i b t e) h))
  rest_at (Steps.next {b} {s = t} {x} n l h r) i e {at} w p =
      next {at = at} n (some i b t e) (rw (byte i b t e) l) (rw (byte i b t e) h)
      (rest_at r (i + 1) (rest_from i b t e) (w ∙ is_whole_later x) (omega (arith, p, extent_later b t x)))

  reads_from :
      {t : List ℕ} {x : Decoding} → Reads t x → (i : ℕ) → drop i s ≡ t → {ok : Bool} {at : ℕ} →
      ok ≡ is_whole x → at ≡ i + extent t x → ReadsAt s i ok at
  reads_from Steps.empty i e w p = let q : i + 0 ≡ i = omega arith in rw (w, p, q) (cut (nothing i e))
  reads_from (Steps.too_low {b} {s = t} l) i e w p =
      let q : i + 0 ≡ i = omega arith in rw (w, p, q) (too_low (some i b t e) (rw (byte i b t e) l))
  reads_from (Steps.too_high {b} {s = t} h) i e w p =
      let q : i + 0 ≡ i = omega arith in rw (w, p, q) (too_high (some i b t e) (rw (byte i b t e) h))
  reads_from (Steps.first {b} {d} {s = t} {x} f r) i e {at} w p =
      first {d = d} {at = at} (some i b t e) (rw (byte i b t e) f)
      (rest_at r (i + 1) (rest_from i b t e) (w ∙ is_whole_later x) (omega (arith, p, extent_later b t x)))

module _ {s : List ℕ} {i : ℕ} {ok : Bool} {at : ℕ} (r : Scanned decoding s i ok at) where
  -- the answer, byte by byte
  pub reads_at : ReadsAt s i ok at
  reads_at = reads_from s (reads (drop i s)) i refl r.ok_whole r.at_extent

  -- the place is in the text
  pub scanned_within : i ≤ length s → at ≤ length s
  scanned_within h = omega (arith, r.at_extent, decoding_within (drop i s), length-drop i s)

  -- ok: a code point stands there
  pub scanned_whole : ok ≡ true → (p : Wide) × (put_wide p (drop at s) ≡ drop i s)
  scanned_whole e = go (decoding (drop i s)) refl (sym r.ok_whole ∙ e) r.at_extent
    where
      go :
          (x : Decoding) → decoding (drop i s) ≡ x → is_whole x ≡ true → at ≡ i + extent (drop i s) x →
          (p : Wide) × (put_wide p (drop at s) ≡ drop i s)
      go (whole n) f w q =
          let p = whole_wide (drop i s) n f in
          (p.0, ap (λ (m : ℕ). put_wide p.0 (drop m s)) q ∙ ap (put_wide p.0) (sym (drop-drop n i s)) ∙ p.1)
      go (wrong k) f w q = absurd (false≢true w)
      go short f w q = absurd (false≢true w)

  -- not ok: the place is that of the dead byte
  pub scanned_dead : ok ≡ false → DeadPlace StartsWide (drop i s) (at - i)
  scanned_dead e =
      let t = drop i s in
      let far : extent t (decoding t) ≡ at - i = omega (arith, r.at_extent) in
      rw far at (dead_byte t (sym r.ok_whole ∙ e))

rest_moved : {s : List ℕ} {d : Due} {i : ℕ} {ok : Bool} {at : ℕ} → RestAt s d i ok at → i ≤ at
rest_moved (cut h) = omega arith
rest_moved (under h l) = omega arith
rest_moved (over h u) = omega arith
rest_moved (last h l u) = omega arith
rest_moved (next n h l u r) = omega (arith, rest_moved r)

-- the scan goes forward
pub scanned_moved : {s : List ℕ} {i : ℕ} {ok : Bool} {at : ℕ} → ReadsAt s i ok at → ok ≡ true → i < at
scanned_moved (cut h) e = absurd (false≢true e)
scanned_moved (too_low h l) e = absurd (false≢true e)
scanned_moved (too_high h l) e = absurd (false≢true e)
scanned_moved (first h f r) e = omega (arith, rest_moved r)
