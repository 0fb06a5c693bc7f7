-- A position is written as its number in decimal, since no zero leads, and every number is that of a position. By the digits, one by one.
-- Assumes nothing.
use Rattle.std.specs.Prelude.{◌≡◌, refl, List, [], ◌∷◌, ◌++◌, ℕ, ◌+◌, ◌-◌, ◌*◌, ◌/◌, ◌%◌, ◌<◌, ◌≤◌}
use Rattle.std.proofs.Common.{sym, ap, ◌∙◌, append_assoc, arith}
use Rattle.encoding.specs.Bytes.{In, put_in}
use Rattle.encoding.specs.BytesLaws.{from_low, to_high}
use Rattle.encoding.specs.Decimal.{read_on}
use Rattle.query.specs.Grammar.{Position, zero, digits, put_position, position_of}
use Rattle.query.proofs.Positions.{one_digit, digit_more}
use Rattle.text.specs.Decimal.{digit, decimal}
use Rattle.text.specs.DecimalLaws.{by_digits, decimal_small, decimal_more}

-- the bytes of a digit behind those of a number that is not 0
decimal_on : (v b : ℕ) → 0 < v → 0x30 ≤ b → b ≤ 0x39 → decimal (v * 10 + (b - 0x30)) ≡ decimal v ++ (b ∷ [])
decimal_on v b p l h =
    let n = v * 10 + (b - 0x30) in
    let most : n / 10 ≡ v = omega arith in
    let last : digit (n % 10) ≡ b = omega arith in
    decimal_more n (omega arith) ∙ rw (most, last)

read_on_lem : (ds : List (In 0x30 0x39)) (v : ℕ) (s : List ℕ) → 0 < v → decimal v ++ put_in ds s ≡ decimal (read_on v (put_in ds [])) ++ s
unfolding put_in read_on
read_on_lem [] v s p = refl
read_on_lem (d ∷ ds) v s p =
    sym (append_assoc (decimal v) (d.byte ∷ []) (put_in ds s))
    ∙ ap (λ (u : List ℕ). u ++ put_in ds s) (sym (decimal_on v d.byte p (from_low d) (to_high d)))
    ∙ read_on_lem ds (v * 10 + (d.byte - 0x30)) s (omega arith)

pub position_written : (p : Position) (s : List ℕ) → put_position p s ≡ decimal (position_of p) ++ s
unfolding position_of read_on
position_written zero s = rw (decimal_small 0 (omega arith))
position_written (digits d ds) s =
    let v : ℕ = 0 * 10 + (d.byte - 0x30) in
    let first : digit v ≡ d.byte = omega (arith, from_low d) in
    let one : decimal v ≡ d.byte ∷ [] = decimal_small v (omega (arith, to_high d)) ∙ ap (λ (b : ℕ). b ∷ []) first in
    ap (λ (u : List ℕ). u ++ put_in ds s) (sym one) ∙ read_on_lem ds v s (omega (arith, from_low d))

abbrev pub PositionOf : ℕ → Type 0
PositionOf n = (p : Position) × (position_of p ≡ n)

pub position_of_lem : (n : ℕ) → PositionOf n
position_of_lem = by_digits PositionOf small more
  where
    small : (n : ℕ) → n < 10 → PositionOf n
    small n h = let (p, w, e) = one_digit (0x30 + n) (omega arith) (omega arith) in (p, e ∙ omega arith)

    more : (n : ℕ) → 10 ≤ n → PositionOf (n / 10) → PositionOf n
    more n h (p, e) =
        let (p', w, e') = digit_more p (omega arith) (0x30 + n % 10) (omega arith) (omega arith) in
        (p', e' ∙ omega arith)
