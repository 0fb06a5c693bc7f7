-- A query's name compared with a record's name: what is left of the one after what the other is decoded to so far. Assumes nothing.
use mathlib.Core.Path.{◌≡◌, refl, sym, ap, ◌∙◌}
use mathlib.Core.Bool.{Bool, false, ◌&&◌}
use mathlib.Core.List.{List, [], ◌∷◌, ◌++◌, append_assoc, append-nil}
use mathlib.Core.Logic.{◌≢◌}
use Prim.Native.Nat.{ℕ, suc, ◌+◌, ◌≤◌, ◌<◌}
use native.Mathlib.Omega.{arith}
use lib.Dec.{eqb, eqb-suc-zero}
use lib.ListN.{length, get_or, drop, length-append}
use denote.Bor.{Bor}
use Rattle.std.specs.Prelude.{Option, Some, None}
use Rattle.std.specs.Cmp.Lexicographic.{pointwise}
use Rattle.std.proofs.lemmas.List.{append_cancel_left}
use Rattle.bits.specs.Truth.{refuted}
use Rattle.encoding.specs.Bytes.{same_numbers}
use Rattle.encoding.specs.BytesLaws.{same_numbers_lem}
use Rattle.encoding.specs.Points.{utf8}
use Rattle.encoding.specs.Unescape.{unescaped}
use Rattle.escapes.specs.Escapes.{EscapeAt}
use Rattle.escapes.specs.LeftLaws.{rest_at}
use Rattle.names.specs.Names.{After}
use Rattle.names.proofs.Decoding.{Decoded, decoded_start, decoded_end, decoded_byte, decoded_escape}

-- equality of slices is that of their numbers
pub same_bytes : (s t : List ℕ) → pointwise eqb s t ≡ same_numbers s t
unfolding same_numbers
same_bytes [] [] = refl
same_bytes [] (c ∷ t) = refl
same_bytes (b ∷ s) [] = refl
same_bytes (b ∷ s) (c ∷ t) = ap (λ (x : Bool). eqb b c && x) (same_bytes s t)

-- bytes and then more
pub after_both : {name : List ℕ} (a b : List ℕ) (first : Bor (List ℕ)) (r : Option (Bor (List ℕ))) → After name a (Some first) → After first.now b r
    → After name (a ++ b) r
after_both a b first None f g = λ rest e. g rest (append_cancel_left a first.now (b ++ rest) (sym f ∙ e ∙ append_assoc a b rest))
after_both a b first (Some second) f g = f ∙ ap (λ (l : List ℕ). a ++ l) g ∙ sym (append_assoc a b second.now)

pub after_neither : {name : List ℕ} (a b : List ℕ) → After name a None → After name (a ++ b) None
after_neither a b f = λ rest e. f (b ++ rest) (e ∙ append_assoc a b rest)

-- the name begins with what is decoded so far, and these are what is left of both
pub record Passed (name s rest : List ℕ) (j : ℕ) : Type 0 where
  pub bytes : List ℕ
  pub decoded : Decoded s bytes j
  pub name_is : name ≡ bytes ++ rest

pub passed_start : (name s : List ℕ) → Passed name s name 0
passed_start name s = record { bytes = []; decoded = decoded_start s; name_is = refl }

module _ {name s rest : List ℕ} {j : ℕ} (v : Passed name s rest j) where
  pub passed_end : length s ≤ j → name ≡ unescaped s ++ rest
  passed_end h = v.name_is ∙ ap (λ (l : List ℕ). l ++ rest) (sym (decoded_end v.decoded h))

  -- the name goes on with what is decoded next, or with something else
  go_on : (new : List ℕ) {k : ℕ} → Decoded s (v.bytes ++ new) k → (after : List ℕ) → rest ≡ new ++ after → Passed name s after k
  go_on new d after e =
      record {
        bytes = v.bytes ++ new;
        decoded = d;
        name_is = v.name_is ∙ ap (λ (l : List ℕ). v.bytes ++ l) e ∙ sym (append_assoc v.bytes new after);
      }

  differ : (new : List ℕ) {k : ℕ} → Decoded s (v.bytes ++ new) k → ((after : List ℕ) → rest ≢ new ++ after) → (after : List ℕ) → name ≢ unescaped s ++ after
  differ new {k} d f after e =
      let left = unescaped (drop k s) in
      let whole : v.bytes ++ rest ≡ v.bytes ++ (new ++ (left ++ after))
      = sym v.name_is ∙ e ∙ ap (λ (l : List ℕ). l ++ after) d.is ∙ simp append_assoc in
      f (left ++ after) (append_cancel_left v.bytes rest (new ++ (left ++ after)) whole)

  module _ (h : j < length s) where
    module _ (f : get_or s j 0 ≡ 0x5C → ⊥) where
      pub passed_byte : {after : List ℕ} → rest ≡ (get_or s j 0 ∷ []) ++ after → Passed name s after (j + 1)
      passed_byte {after} e = go_on (get_or s j 0 ∷ []) (decoded_byte v.decoded h f) after e

      pub other_byte : ((after : List ℕ) → rest ≢ (get_or s j 0 ∷ []) ++ after) → (after : List ℕ) → name ≢ unescaped s ++ after
      other_byte e = differ (get_or s j 0 ∷ []) (decoded_byte v.decoded h f) e

    module _ {p n : ℕ} (f : get_or s j 0 ≡ 0x5C) (x : EscapeAt (rest_at s j) p n) where
      pub passed_escape : {after : List ℕ} → rest ≡ utf8 p [] ++ after → Passed name s after (j + n)
      passed_escape {after} e = go_on (utf8 p []) (decoded_escape v.decoded h f x) after e

      pub other_escape : ((after : List ℕ) → rest ≢ utf8 p [] ++ after) → (after : List ℕ) → name ≢ unescaped s ++ after
      other_escape e = differ (utf8 p []) (decoded_escape v.decoded h f x) e

-- the names are the same just if nothing is left
module _ {name : List ℕ} (bytes : List ℕ) where
  pub same_by : (rest : List ℕ) → name ≡ bytes ++ rest → eqb (length rest) 0 ≡ same_numbers name bytes
  same_by [] e = sym ((same_numbers_lem name bytes).1 (e ∙ append-nil bytes))
  same_by (b ∷ rest) e =
      let longer : length name ≡ length bytes + suc (length rest) = ap length e ∙ length-append bytes (b ∷ rest) in
      eqb-suc-zero (length rest) ∙ sym (refuted (same_numbers name bytes) (λ h. omega (arith, longer, ap length ((same_numbers_lem name bytes).0 h))))

  pub other_by : ((rest : List ℕ) → name ≢ bytes ++ rest) → false ≡ same_numbers name bytes
  other_by f = sym (refuted (same_numbers name bytes) (λ h. f [] ((same_numbers_lem name bytes).0 h ∙ sym (append-nil bytes))))
