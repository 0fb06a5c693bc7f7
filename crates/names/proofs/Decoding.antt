-- A name decoded from its start on: what is decoded so far, and what is left of the name. Assumes nothing.
use mathlib.Core.Path.{◌≡◌, refl, sym, ap, ◌∙◌}
use mathlib.Core.List.{List, [], ◌∷◌, ◌++◌, append_assoc, append-nil}
use Prim.Native.Nat.{ℕ, ◌+◌, ◌≤◌, ◌<◌}
use lib.ListN.{length, get_or, drop, drop_of_length-le}
use Rattle.encoding.specs.Points.{utf8}
use Rattle.encoding.specs.Unescape.{unescaped}
use Rattle.encoding.specs.UnescapeLaws.{unescaped-nil}
use Rattle.escapes.specs.Escapes.{EscapeAt}
use Rattle.escapes.specs.LeftLaws.{rest_at, plain_left, escape_left}

-- the name is decoded to these bytes, and what is left of it from j on
pub record Decoded (s bytes : List ℕ) (j : ℕ) : Type 0 where
  pub is : unescaped s ≡ bytes ++ unescaped (drop j s)

pub decoded_start : (s : List ℕ) → Decoded s [] 0
decoded_start s = record { is = refl }

module _ {s bytes : List ℕ} {j : ℕ} (d : Decoded s bytes j) where
  pub decoded_end : length s ≤ j → unescaped s ≡ bytes
  decoded_end h = d.is ∙ rw (drop_of_length-le s h, unescaped-nil) (append-nil bytes)

  more : (new : List ℕ) (k : ℕ) → unescaped (drop j s) ≡ new ++ unescaped (drop k s) → Decoded s (bytes ++ new) k
  more new k e = record { is = d.is ∙ ap (λ (l : List ℕ). bytes ++ l) e ∙ sym (append_assoc bytes new (unescaped (drop k s))) }

  module _ (h : j < length s) where
    pub decoded_byte : (get_or s j 0 ≡ 0x5C → ⊥) → Decoded s (bytes ++ (get_or s j 0 ∷ [])) (j + 1)
    decoded_byte f = more (get_or s j 0 ∷ []) (j + 1) (plain_left s j h f)

    pub decoded_escape : {p n : ℕ} → get_or s j 0 ≡ 0x5C → EscapeAt (rest_at s j) p n → Decoded s (bytes ++ utf8 p []) (j + n)
    decoded_escape {p} {n} f e = more (utf8 p []) (j + n) (escape_left s j h f e)
