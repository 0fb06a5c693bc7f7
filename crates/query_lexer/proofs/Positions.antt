-- Positions: each digit that leads on is one more of the position that stands there, and at the first byte that is none it is whole.
-- Assumes nothing.
use mathlib.Core.Path.{◌≡◌, ap, sym, ◌∙◌}
use mathlib.Core.List.{List, []}
use Prim.Native.Nat.{ℕ, ◌+◌, ◌-◌, ◌*◌, ◌≤◌, ◌<◌}
use native.Mathlib.Omega.{arith}
use lib.ListN.{length, get_or, drop, length-drop}
use Rattle.std.specs.Prelude.{Some, None}
use Rattle.encoding.specs.BytesLaws.{byte_at_lem, size}
use Rattle.query.specs.Grammar.{Position, put_position, position_of, max_position}
use Rattle.query.specs.Machine.{opened, in_position}
use Rattle.query.specs.Read.{reading}
use Rattle.query.specs.Append.{append_position}
use Rattle.query.proofs.Positions.{NoMore, reads_position, one_digit, digit_more, behind_at}
use Rattle.query.proofs.Spell.{moved}
use Rattle.query_lexer.specs.Scans.{IsDigit, LeadsOn, more, none, PositionAt}

-- digits from n up to i, which stand for v
pub record DigitsUpTo (q : List ℕ) (n i v : ℕ) : Type 0 where
  pub on : n < i
  pub within : i ≤ length q
  pub stands : (p : Position) × (put_position p (drop i q) ≡ drop n q) × (position_of p ≡ v)
  pub small : v ≤ max_position

pub first_digit : {q : List ℕ} {n v : ℕ} → n < length q → IsDigit (get_or q n 0) → v ≡ 0 * 10 + (get_or q n 0 - 0x30) → DigitsUpTo q n (n + 1) v
first_digit {q} {n} {v} h d e =
    let (p, t, z) = one_digit (get_or q n 0) d.low d.high in
    record {
      on = omega arith;
      within = omega arith;
      stands = (p, t (drop (n + 1) q) ∙ sym (byte_at_lem q n h), z ∙ omega arith);
      small = omega (arith, d.high);
    }

pub one_more : {q : List ℕ} {n i v w : ℕ} → DigitsUpTo q n i v → i < length q → LeadsOn v (get_or q i 0) (Some w) → DigitsUpTo q n (i + 1) w
one_more {q} {n} {i} s h (more g d e l) =
    let (p, t, z) = s.stands in
    let (p', t', z') = digit_more p (omega arith) (get_or q i 0) d.low d.high in
    record {
      on = omega (arith, s.on);
      within = omega arith;
      stands = (p', t' (drop (i + 1) q) ∙ ap (put_position p) (sym (byte_at_lem q i h)) ∙ t, z' ∙ omega arith);
      small = l;
    }

-- how far they reach
far : {q : List ℕ} {n i v : ℕ} (s : DigitsUpTo q n i v) → n + length (put_position s.stands.0 []) ≡ i
far {q} {n} {i} s =
    let (p, t, z) = s.stands in
    omega (arith, s.on, s.within, size (put_position p) (append_position p) (drop i q), ap length t, length-drop n q, length-drop i q)

-- they are read to behind them
read_on_lem : {q : List ℕ} {n i v : ℕ} → DigitsUpTo q n i v → reading opened n (drop n q) ≡ reading (in_position v) i (drop i q)
read_on_lem {q} {n} {i} {v} s =
    let (p, t, z) = s.stands in
    ap (reading opened n) (sym t) ∙ reads_position p n (drop i q) (omega (arith, s.small)) ∙
    ap (λ (x : ℕ). reading (in_position x) (n + length (put_position p [])) (drop i q)) z ∙
    moved (in_position v) (n + length (put_position p [])) i (drop i q) (far s)

whole : {q : List ℕ} {n i v : ℕ} → DigitsUpTo q n i v → (i < length q → NoMore v (get_or q i 0)) → PositionAt q n i v
whole {q} {n} {i} {v} s f = record {
  on = s.on;
  within = s.within;
  stands = s.stands;
  small = s.small;
  reads = read_on_lem s ∙ behind_at v q i f;
}

pub ends_before : {q : List ℕ} {n i v : ℕ} → DigitsUpTo q n i v → LeadsOn v (get_or q i 0) None → PositionAt q n i v
ends_before s (none f) = whole s (λ h. f)

pub ends_query : {q : List ℕ} {n i v : ℕ} → DigitsUpTo q n i v → length q ≤ i → PositionAt q n (length q) v
ends_query {q} {i} s l = let e : length q ≡ i = omega (arith, s.within) in rw (e) (whole s (λ h. absurd (omega arith)))
