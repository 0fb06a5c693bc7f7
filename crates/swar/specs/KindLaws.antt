-- Which bytes are of which kind, both ways.
use Rattle.std.specs.Prelude.{◌≡◌, true, false, not, ◌⊎◌, ℕ, ◌≤◌, ◌<◌, eqb}
use Rattle.std.proofs.Common.{sym, ◌∙◌, true≢false, inl, inr, ⊎_elim, arith}
use borrow.Author.Tests.{le-leb, lt-leb, eq-eqb, ne_eqb, eqb-true}
use Rattle.bits.specs.Laws.{lt_or_ge}
use Rattle.encoding.specs.Bytes.{Blank, space, tab, feed, return, blank_byte}
use Rattle.encoding.specs.BytesLaws.{inside, beneath, beyond}
use Rattle.encoding.specs.Class.{class_of}
use Rattle.encoding.specs.ClassLaws as Class
use Rattle.lanes.specs.Kinds.{plain, bare, gap, space_byte}
use Rattle.swar.specs.Kinds.{blank}

-- a plain byte, by the range that it is of
pub data Plain (b : ℕ) : Type 0 where
  low : 0x20 ≤ b → b ≤ 0x21 → Plain b
  mid : 0x23 ≤ b → b ≤ 0x5B → Plain b
  high : 0x5D ≤ b → b ≤ 0x7F → Plain b

-- a byte that is not
pub data NotPlain (b : ℕ) : Type 0 where
  control : b < 0x20 → NotPlain b
  quote : b ≡ 0x22 → NotPlain b
  backslash : b ≡ 0x5C → NotPlain b
  wide : 0x80 ≤ b → NotPlain b

module _ {b : ℕ} where
  pub plain_holds : Plain b → plain b ≡ true
  unfolding plain
  plain_holds (low l h) = rw (inside 0x20 0x21 b l h)
  plain_holds (mid l h) = rw (beyond 0x20 0x21 b (omega arith), inside 0x23 0x5B b l h)
  plain_holds (high l h) = rw (beyond 0x20 0x21 b (omega arith), beyond 0x23 0x5B b (omega arith), inside 0x5D 0x7F b l h)

  pub plain_fails : NotPlain b → plain b ≡ false
  unfolding plain
  plain_fails (control h) = rw (beneath 0x20 0x21 b h, beneath 0x23 0x5B b (omega arith), beneath 0x5D 0x7F b (omega arith))
  plain_fails (quote e) = rw e
  plain_fails (backslash e) = rw e
  plain_fails (wide h) = rw (beyond 0x20 0x21 b (omega arith), beyond 0x23 0x5B b (omega arith), beyond 0x5D 0x7F b (omega arith))

-- every byte is one or the other
pub plain_or_not : (b : ℕ) → Plain b ⊎ NotPlain b
plain_or_not b =
    ⊎_elim (λ (below : b < 0x20). inr (control below)) (λ (from : 0x20 ≤ b).
    ⊎_elim (λ (below : b < 0x22). inl (low from (omega arith))) (λ (from : 0x22 ≤ b).
    ⊎_elim (λ (below : b < 0x23). inr (quote (omega arith))) (λ (from : 0x23 ≤ b).
    ⊎_elim (λ (below : b < 0x5C). inl (mid from (omega arith))) (λ (from : 0x5C ≤ b).
    ⊎_elim (λ (below : b < 0x5D). inr (backslash (omega arith))) (λ (from : 0x5D ≤ b).
    ⊎_elim (λ (below : b < 0x80). inl (high from (omega arith))) (λ (from : 0x80 ≤ b). inr (wide from))
    (lt_or_ge b 0x80)) (lt_or_ge b 0x5D)) (lt_or_ge b 0x5C)) (lt_or_ge b 0x23)) (lt_or_ge b 0x22)) (lt_or_ge b 0x20)

module _ {b : ℕ} where
  pub is_plain : plain b ≡ true → Plain b
  is_plain e = ⊎_elim (λ p. p) (λ n. absurd (true≢false (sym e ∙ plain_fails n))) (plain_or_not b)

  pub not_plain : plain b ≡ false → NotPlain b
  not_plain e = ⊎_elim (λ p. absurd (true≢false (sym (plain_holds p) ∙ e))) (λ n. n) (plain_or_not b)

  pub blank_holds : (w : Blank) → b ≡ blank_byte w → blank b ≡ true
  unfolding blank
  blank_holds w e = eq-eqb (class_of b) 7 ((Class.blank_class b).1 (w, e))

  pub blank_fails : ((w : Blank) → b ≡ blank_byte w → ⊥) → blank b ≡ false
  unfolding blank
  blank_fails n = ne_eqb (class_of b) 7 (λ e. let w = (Class.blank_class b).0 e in n w.0 w.1)

  pub is_blank : blank b ≡ true → (w : Blank) × (b ≡ blank_byte w)
  unfolding blank
  is_blank e = (Class.blank_class b).0 (eqb-true (class_of b) 7 e)

  pub not_blank : blank b ≡ false → (w : Blank) → b ≡ blank_byte w → ⊥
  not_blank e w q = true≢false (sym (blank_holds w q) ∙ e)

  pub above_blanks : 0x20 < b → (w : Blank) → b ≡ blank_byte w → ⊥
  above_blanks h space e = omega arith
  above_blanks h tab e = omega arith
  above_blanks h feed e = omega arith
  above_blanks h return e = omega arith

  -- from 20 to 7F all but two are plain
  pub plain_within : 0x20 ≤ b → b ≤ 0x7F → (b ≡ 0x22 → ⊥) → (b ≡ 0x5C → ⊥) → plain b ≡ true
  plain_within l h q s = go (plain_or_not b)
    where
      go : Plain b ⊎ NotPlain b → plain b ≡ true
      go (inl p) = plain_holds p
      go (inr (control u)) = absurd (omega arith)
      go (inr (quote e)) = absurd (q e)
      go (inr (backslash e)) = absurd (s e)
      go (inr (wide u)) = absurd (omega arith)

  pub bare_quote : b ≡ 0x22 → bare b ≡ false
  unfolding bare
  bare_quote e = rw e

  pub bare_else : (b ≡ 0x22 → ⊥) → not (eqb b 0x5C) ≡ bare b
  unfolding bare
  bare_else f = rw (ne_eqb b 0x22 f)

  pub gap_holds : b ≤ 0x20 → gap b ≡ true
  unfolding gap
  gap_holds h = le-leb b 0x20 h

  pub gap_fails : 0x20 < b → gap b ≡ false
  unfolding gap
  gap_fails h = lt-leb b 0x20 h

pub space_blank : (b : ℕ) → space_byte b ≡ true → blank b ≡ true
unfolding space_byte
space_blank b e = blank_holds space (eqb-true b 0x20 e)
