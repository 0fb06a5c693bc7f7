-- Blanks, literals and numbers have no quote, no backslash and no bracket. Assumes nothing.
use Rattle.std.specs.Prelude.{◌≡◌, refl, Bool, true, ◌&&◌, List, [], ◌∷◌, ℕ, ◌≤◌}
use Rattle.std.proofs.Common.{ap₂, arith, ne_eqb}
use Rattle.encoding.specs.Bytes as B
use Rattle.encoding.specs.Bytes.{put_in, Blanks, put_blanks}
use Rattle.json_text.specs.Grammar as G
use Rattle.json_text.specs.Grammar.{Digit, Literal, Minus, Int, Frac, Exp, put_literal, put_minus, put_int, put_frac, put_exp, put_exp_sign}
use Rattle.encoding.specs.BytesLaws.{in_bounds}
use Rattle.strings.specs.Parts.{calm, all_calm}

calm-cons : (b : ℕ) (s : List ℕ) → calm b ≡ true → all_calm s ≡ true → all_calm (b ∷ s) ≡ true
unfolding all_calm
calm-cons b s h t = ap₂ (λ (x y : Bool). x && y) h t

calm_digit : (b : ℕ) → 0x30 ≤ b → b ≤ 0x39 → calm b ≡ true
unfolding calm
calm_digit b h l =
    rw (
      ne_eqb b 0x22 (λ e. omega arith),
      ne_eqb b 0x5C (λ e. omega arith),
      ne_eqb b 0x5B (λ e. omega arith),
      ne_eqb b 0x7B (λ e. omega arith),
      ne_eqb b 0x5D (λ e. omega arith),
      ne_eqb b 0x7D (λ e. omega arith),
    )
    refl

calm_in : (d : Digit) (s : List ℕ) → all_calm s ≡ true → all_calm (d.byte ∷ s) ≡ true
calm_in d s h = calm-cons d.byte s (calm_digit d.byte (in_bounds d).0 (in_bounds d).1) h

calm_digits : (ds : List Digit) (s : List ℕ) → all_calm s ≡ true → all_calm (put_in ds s) ≡ true
unfolding put_in
calm_digits [] s h = h
calm_digits (d ∷ ds) s h = calm_in d (put_in ds s) (calm_digits ds s h)

pub calm_blanks : (w : Blanks) → all_calm (put_blanks w []) ≡ true
unfolding put_blanks all_calm calm
calm_blanks [] = refl
calm_blanks (B.space ∷ w) = calm_blanks w
calm_blanks (B.tab ∷ w) = calm_blanks w
calm_blanks (B.feed ∷ w) = calm_blanks w
calm_blanks (B.return ∷ w) = calm_blanks w

pub calm_literal : (l : Literal) → all_calm (put_literal l []) ≡ true
unfolding put_literal all_calm calm
calm_literal G.false_name = refl
calm_literal G.null_name = refl
calm_literal G.true_name = refl

calm_sign : (g : G.ExpSign) (s : List ℕ) → all_calm s ≡ true → all_calm (put_exp_sign g s) ≡ true
unfolding put_exp_sign all_calm calm
calm_sign G.bare s h = h
calm_sign G.positive s h = h
calm_sign G.negative s h = h

calm_e : (e : G.E) → calm (G.e_byte e) ≡ true
unfolding calm
calm_e G.small = refl
calm_e G.big = refl

calm_exp : (e : Exp) → all_calm (put_exp e []) ≡ true
unfolding put_exp all_calm
calm_exp G.noexp = refl
calm_exp (G.exp e g d ds) =
    calm-cons (G.e_byte e) (put_exp_sign g (d.byte ∷ put_in ds [])) (calm_e e)
    (calm_sign g (d.byte ∷ put_in ds []) (calm_in d (put_in ds []) (calm_digits ds [] refl)))

calm_frac : (f : Frac) (s : List ℕ) → all_calm s ≡ true → all_calm (put_frac f s) ≡ true
unfolding put_frac all_calm calm
calm_frac G.nofrac s h = h
calm_frac (G.frac d ds) s h = calm_in d (put_in ds s) (calm_digits ds s h)

calm_int : (n : Int) (s : List ℕ) → all_calm s ≡ true → all_calm (put_int n s) ≡ true
unfolding put_int all_calm calm
calm_int G.nought s h = h
calm_int (G.whole x ds) s h =
    let b = in_bounds x in
    calm-cons x.byte (put_in ds s) (calm_digit x.byte (omega (arith, b.0)) b.1) (calm_digits ds s h)

pub calm_number : (g : Minus) (n : Int) (f : Frac) (e : Exp) → all_calm (put_minus g (put_int n (put_frac f (put_exp e [])))) ≡ true
unfolding put_minus all_calm calm
calm_number G.unsigned n f e = calm_int n (put_frac f (put_exp e [])) (calm_frac f (put_exp e []) (calm_exp e))
calm_number G.minus n f e = calm_int n (put_frac f (put_exp e [])) (calm_frac f (put_exp e []) (calm_exp e))
