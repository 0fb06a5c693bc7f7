-- Hexadecimal digits of an escape: the part of the grammar that a digit is, by the number that it stands for, and where it leads; where
-- no byte of such a number leads on; and that no other byte leads on where a digit is due. Assumes nothing.
use mathlib.Core.Path.{◌≡◌, refl, sym, ◌∙◌}
use mathlib.Core.List.{List, [], ◌∷◌}
use mathlib.Core.Bool.{Bool, true, false}
use mathlib.Core.Option.{some}
use Prim.Native.Nat.{ℕ, ◌≤◌}
use native.Mathlib.Omega.{arith}
use lib.Dec.{leb}
use borrow.Author.Tests.{leb-true, leb-false}
use Rattle.std.specs.Prelude.{◌&&◌, ◌||◌, Some, None}
use Rattle.std.proofs.Math.Bool.{and-eq-true_iff}
use Rattle.std.proofs.lemmas.Bool.Decides.{nat_tests}
use Rattle.encoding.specs.Bytes.{In}
use Rattle.encoding.specs.BytesLaws.{beneath, beyond, make}
use Rattle.encoding.specs.Hex as H
use Rattle.encoding.specs.Hex.{hex_byte}
use Rattle.query.specs.Escapes as E
use Rattle.query.specs.Escapes.{not_d_byte, d_byte, eight_to_b_byte, c_to_f_byte}
use Rattle.query.specs.Grammar.{Quote}
use Rattle.query.specs.Machine as M
use Rattle.query.specs.Machine.{Control, Due, in_escape, behind_d_of, digits, high_digits_of, low_d, low_digit, dead, Rule, hex_rules, rules, takes, pick, step}
use Rattle.query.specs.MachineLaws.{miss, landing, leads}
use Rattle.query_escapes.specs.Scans.{HexIs, digit, upper, lower, none}

-- a byte that no rule has

infixr 20 ◌&◌
pub data Misses (b : ℕ) : List Rule → Type 0 where
  end : Misses b []
  ◌&◌ : {r : Rule} {rs : List Rule} → (r.low ≤ b → b ≤ r.high → ⊥) → Misses b rs → Misses b (r ∷ rs)

pub no_rule : (rs : List Rule) (b : ℕ) → Misses b rs → pick rs b ≡ dead
unfolding pick
no_rule [] b end = refl
no_rule (r ∷ rs) b (f & m) = miss r rs b (go (leb r.low b) refl (leb b r.high) refl) ∙ no_rule rs b m
  where
    go : (x : Bool) → leb r.low b ≡ x → (y : Bool) → leb b r.high ≡ y → takes r b ≡ false
    go false e y g = beneath r.low r.high b (leb-false r.low b e)
    go true e false g = beyond r.low r.high b (leb-false b r.high g)
    go true e true g = absurd (f (leb-true r.low b e) (leb-true b r.high g))

-- where digits are due, a byte that is none

-- rules of digits alone
abbrev of_hex : Rule → Bool
of_hex r = leb 0x30 r.low && leb r.high 0x39 || leb 0x41 r.low && leb r.high 0x46 || leb 0x61 r.low && leb r.high 0x66

abbrev pub all_hex : List Rule → Bool
all_hex [] = true
all_hex (r ∷ rs) = of_hex r && all_hex rs

not_hex : {b : ℕ} → HexIs b None → (rs : List Rule) → all_hex rs ≡ true → Misses b rs
not_hex x [] e = end
not_hex (none f g h) (r ∷ rs) e =
    let t = (and-eq-true_iff (of_hex r) (all_hex rs)).0 e in
    (λ l m. grind (arith, nat_tests)) & not_hex (none f g h) rs t.1

pub stop_hex : {b : ℕ} (d : Due) → ((x : Quote) → all_hex (rules (in_escape d x)) ≡ true) → HexIs b None → (x : Quote) →
    step (M.at (in_escape d x)) b ≡ dead
unfolding step
stop_hex {b} d t s x = no_rule (rules (in_escape d x)) b (not_hex s (rules (in_escape d x)) (t x))

-- and digits that are not due there

module _ {b v : ℕ} where
  pub stop_behind_d : HexIs b (Some v) → 12 ≤ v → (x : Quote) → step (M.at (in_escape behind_d_of x)) b ≡ dead
  unfolding landing
  stop_behind_d (digit l h e) f x = absurd (omega arith)
  stop_behind_d (upper l h e) f x = leads (in_escape behind_d_of x) {lo = 0x43} (omega arith) h dead refl
  stop_behind_d (lower l h e) f x = leads (in_escape behind_d_of x) {lo = 0x63} (omega arith) h dead refl

  pub stop_low_d : HexIs b (Some v) → (v ≡ 13 → ⊥) → (x : Quote) → step (M.at (in_escape low_d x)) b ≡ dead
  unfolding step landing
  stop_low_d (digit l h e) f x = leads (in_escape low_d x) l h dead refl
  stop_low_d (upper l h e) f x = no_rule (rules (in_escape low_d x)) b ((λ m n. f (omega arith)) & (λ m n. omega arith) & end)
  stop_low_d (lower l h e) f x = no_rule (rules (in_escape low_d x)) b ((λ m n. omega arith) & (λ m n. f (omega arith)) & end)

  pub stop_low_digit : HexIs b (Some v) → (12 ≤ v → v ≤ 15 → ⊥) → (x : Quote) → step (M.at (in_escape low_digit x)) b ≡ dead
  unfolding step landing
  stop_low_digit (digit l h e) f x = leads (in_escape low_digit x) l h dead refl
  stop_low_digit (upper l h e) f x =
      no_rule (rules (in_escape low_digit x)) b ((λ m n. f (omega arith) (omega arith)) & (λ m n. omega arith) & end)
  stop_low_digit (lower l h e) f x =
      no_rule (rules (in_escape low_digit x)) b ((λ m n. omega arith) & (λ m n. f (omega arith) (omega arith)) & end)

-- a byte that leads on from where d is due: the part of the grammar that it is
pub record Leads {T : Type 0} (byte : T → ℕ) (d : Due) (k : Quote → Control) (b : ℕ) : Type 0 where
  pub tree : T
  pub is : byte tree ≡ b
  pub on : (x : Quote) → step (M.at (in_escape d x)) b ≡ M.at (k x)

by_range : {T : Type 0} {byte : T → ℕ} {d : Due} {k : Quote → Control} {lo hi b : ℕ} (l : lo ≤ b) (h : b ≤ hi) (t : In lo hi → T) →
    byte (t (make b l h)) ≡ b → ((x : Quote) → landing lo hi (rules (in_escape d x)) ≡ some (M.at (k x))) → Leads byte d k b
by_range {d} {k} {b} l h t e f = record { tree = t (make b l h); is = e; on = λ x. leads (in_escape d x) l h (M.at (k x)) (f x) }

module _ {b v : ℕ} where
  -- any digit, of the last ones and of a high half
  on_hex : (d : Due) (k : Quote → Control) → ((x : Quote) → rules (in_escape d x) ≡ hex_rules (k x)) → HexIs b (Some v) → Leads hex_byte d k b
  unfolding landing make
  on_hex d k r (digit l h e) = by_range l h H.digit refl (λ x. rw (r x) refl)
  on_hex d k r (upper l h e) = by_range l h H.upper refl (λ x. rw (r x) refl)
  on_hex d k r (lower l h e) = by_range l h H.lower refl (λ x. rw (r x) refl)

  pub on_digits : (n : ℕ) → HexIs b (Some v) → Leads hex_byte (digits n) (M.digits_due n) b
  on_digits n = on_hex (digits n) (M.digits_due n) (λ x. refl)

  pub on_high_digits : (n : ℕ) → HexIs b (Some v) → Leads hex_byte (high_digits_of n) (M.high_digits_due n) b
  on_high_digits n = on_hex (high_digits_of n) (M.high_digits_due n) (λ x. refl)

  -- the first behind `\u`: no D, or one
  pub on_not_d : HexIs b (Some v) → (v ≡ 13 → ⊥) → Leads not_d_byte M.first (in_escape (digits 2)) b
  unfolding landing make
  on_not_d (digit l h e) f = by_range l h E.digit refl (λ x. refl)
  on_not_d (upper l h e) f = go (leb b 0x43) refl
    where
      go : (t : Bool) → leb b 0x43 ≡ t → Leads not_d_byte M.first (in_escape (digits 2)) b
      go true z = by_range l (leb-true b 0x43 z) E.upper_a_c refl (λ x. refl)
      go false z = by_range (omega (arith, leb-false b 0x43 z)) h E.upper_e_f refl (λ x. refl)
  on_not_d (lower l h e) f = go (leb b 0x63) refl
    where
      go : (t : Bool) → leb b 0x63 ≡ t → Leads not_d_byte M.first (in_escape (digits 2)) b
      go true z = by_range l (leb-true b 0x63 z) E.lower_a_c refl (λ x. refl)
      go false z = by_range (omega (arith, leb-false b 0x63 z)) h E.lower_e_f refl (λ x. refl)

  on_d : (d d' : Due) → ((x : Quote) → step (M.at (in_escape d x)) 0x44 ≡ M.at (in_escape d' x)) →
      ((x : Quote) → step (M.at (in_escape d x)) 0x64 ≡ M.at (in_escape d' x)) → HexIs b (Some v) → v ≡ 13 → Leads d_byte d (in_escape d') b
  on_d d d' r t (digit l h e) f = absurd (omega arith)
  on_d d d' r t (upper l h e) f = let z : b ≡ 0x44 = omega arith in record { tree = E.upper; is = sym z; on = λ x. rw z (r x) }
  on_d d d' r t (lower l h e) f = let z : b ≡ 0x64 = omega arith in record { tree = E.lower; is = sym z; on = λ x. rw z (t x) }

  pub on_first_d : HexIs b (Some v) → v ≡ 13 → Leads d_byte M.first (in_escape behind_d_of) b
  unfolding step
  on_first_d = on_d M.first behind_d_of (λ x. refl) (λ x. refl)

  pub on_low_d : HexIs b (Some v) → v ≡ 13 → Leads d_byte low_d (in_escape low_digit) b
  unfolding step
  on_low_d = on_d low_d low_digit (λ x. refl) (λ x. refl)

  -- the digit behind `\uD`: from 0 to 7, or from 8 to B
  pub on_below : HexIs b (Some v) → v ≤ 7 → Leads {T = In 0x30 0x37} (λ y. y.byte) behind_d_of (in_escape (digits 1)) b
  unfolding landing make
  on_below (digit l h e) f = by_range l (omega arith) (λ y. y) refl (λ x. refl)
  on_below (upper l h e) f = absurd (omega arith)
  on_below (lower l h e) f = absurd (omega arith)

  pub on_high : HexIs b (Some v) → 8 ≤ v → v ≤ 11 → Leads eight_to_b_byte behind_d_of (in_escape (high_digits_of 1)) b
  unfolding landing make
  on_high (digit l h e) f g = by_range (omega arith) h E.digit refl (λ x. refl)
  on_high (upper l h e) f g = by_range l (omega arith) E.upper refl (λ x. refl)
  on_high (lower l h e) f g = by_range l (omega arith) E.lower refl (λ x. refl)

  -- that of a low half
  pub on_low : HexIs b (Some v) → 12 ≤ v → Leads c_to_f_byte low_digit (in_escape (digits 1)) b
  unfolding landing make
  on_low (digit l h e) f = absurd (omega arith)
  on_low (upper l h e) f = by_range (omega arith) h E.upper refl (λ x. refl)
  on_low (lower l h e) f = by_range (omega arith) h E.lower refl (λ x. refl)
