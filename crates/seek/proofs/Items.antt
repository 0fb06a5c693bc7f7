-- From one item of a container to the next: behind the blanks stands what no blank begins, and its first byte tells what it is. Assumes nothing.
use mathlib.Core.Path.{◌≡◌, sym, ap, ◌∙◌}
use mathlib.Core.List.{List, ◌∷◌}
use mathlib.Core.Bool.{true}
use Prim.Native.Nat.{ℕ, ◌+◌, ◌≤◌, ◌<◌}
use native.Mathlib.Omega.{arith}
use lib.ListN.{length, drop, get_or}
use Rattle.std.specs.Prelude.{Ok}
use Rattle.encoding.specs.Bytes.{Blanks, put_blanks}
use Rattle.encoding.specs.Class.{class_of}
use Rattle.json_text.specs.Grammar.{Kind, closing}
use Rattle.scan.specs.Places.{Head, head_of, past_blanks}
use Rattle.scan.specs.Scans.{EndsBlanks}
use Rattle.scan.specs.Shape.{solid, starts}
use Rattle.scan.specs.ShapeLaws.{solid_comma, solid_closing}
use Rattle.walk.specs.AheadLaws.{starts_at, closing_class, closing_comma}
use Rattle.seek.specs.Seeks.{passed, FirstItem, NextItem}

module _ (s : List ℕ) (a c : ℕ) (blanks : EndsBlanks s a c) where
  -- what stands behind the blanks stands at c
  behind_blanks : (w : Blanks) (u : List ℕ) → drop a s ≡ put_blanks w u → solid u ≡ true → (c ≡ a + length w) × (drop c s ≡ u)
  behind_blanks w u e h =
      let x : c ≡ a + length w = blanks.exact w u e h in
      (x, ap (λ (i : ℕ). drop i s) x ∙ past_blanks s a w u e)

  behind_byte : (w : Blanks) (b : ℕ) (u : List ℕ) → drop a s ≡ put_blanks w (b ∷ u) → solid (b ∷ u) ≡ true → (c ≡ a + length w) × Head s c b u
  behind_byte w b u e h = let x = behind_blanks w (b ∷ u) e h in (x.0, head_of s c b u x.1)

  at_closing : (k : Kind) (w : Blanks) (u : List ℕ) → drop a s ≡ put_blanks w (closing k ∷ u) → (c ≡ a + length w) × Head s c (closing k) u
  at_closing k w u e = behind_byte w (closing k) u e (solid_closing k u)

  at_comma : (w : Blanks) (u : List ℕ) → drop a s ≡ put_blanks w (0x2C ∷ u) → (c ≡ a + length w) × Head s c 0x2C u
  at_comma w u e = behind_byte w 0x2C u e (solid_comma u)

  at_start : (w : Blanks) (u : List ℕ) → drop a s ≡ put_blanks w u → solid u ≡ true → starts u ≡ true
      → (c ≡ a + length w) × (c < length s) × (class_of (get_or s c 0) ≡ 2 → ⊥)
  at_start w u e h b =
      let x = behind_blanks w u e h in
      let y = starts_at s c u b x.1 in
      (x.0, y.0, y.1)

  -- the first item
  pub first_outside : length s ≤ c → FirstItem s a (passed c)
  first_outside l =
      record {
        onward = blanks.onward;
        within = blanks.within;
        closed = λ k w u e. absurd (omega (arith, (at_closing k w u e).1.inside));
        ahead = λ w u e h b. absurd (omega (arith, (at_start w u e h b).1));
      }

  pub first_closed : c < length s → class_of (get_or s c 0) ≡ 2 → FirstItem s a (passed (c + 1))
  first_closed l f =
      record {
        onward = omega (arith, blanks.onward);
        within = omega arith;
        closed = λ k w u e. ap (λ (i : ℕ). passed (i + 1)) (at_closing k w u e).0;
        ahead = λ w u e h b. absurd ((at_start w u e h b).2 f);
      }

  pub first_ahead : (class_of (get_or s c 0) ≡ 2 → ⊥) → FirstItem s a (Ok c)
  first_ahead f =
      record {
        onward = blanks.onward;
        within = blanks.within;
        closed = λ k w u e. absurd (f (ap class_of (at_closing k w u e).1.byte_is ∙ closing_class k));
        ahead = λ w u e h b. ap (λ (i : ℕ). Ok i) (at_start w u e h b).0;
      }

  -- the next item
  pub next_outside : length s ≤ c → NextItem s a (passed c)
  next_outside l =
      record {
        onward = blanks.onward;
        forth = tt;
        within = blanks.within;
        closed = λ k w u e. absurd (omega (arith, (at_closing k w u e).1.inside));
        ahead = λ w u e. absurd (omega (arith, (at_comma w u e).1.inside));
      }

  pub next_ahead : c < length s → get_or s c 0 ≡ 0x2C → NextItem s a (Ok (c + 1))
  next_ahead l f =
      record {
        onward = omega (arith, blanks.onward);
        forth = omega (arith, blanks.onward);
        within = omega arith;
        closed = λ k w u e. absurd (closing_comma k (sym (at_closing k w u e).1.byte_is ∙ f));
        ahead = λ w u e. ap (λ (i : ℕ). Ok (i + 1)) (at_comma w u e).0;
      }

  pub next_closed : c < length s → (get_or s c 0 ≡ 0x2C → ⊥) → NextItem s a (passed (c + 1))
  next_closed l f =
      record {
        onward = omega (arith, blanks.onward);
        forth = tt;
        within = omega arith;
        closed = λ k w u e. ap (λ (i : ℕ). passed (i + 1)) (at_closing k w u e).0;
        ahead = λ w u e. absurd (f (at_comma w u e).1.byte_is);
      }
