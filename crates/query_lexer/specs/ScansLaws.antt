-- What a test of a byte says: the ways to say its answer, which the proofs of the tests go through, and what an answer says of a digit.
-- Assumes nothing.
use Rattle.std.specs.Prelude.{◌≡◌, Bool, true, false, ℕ, ◌≤◌, Option, Some}
use Rattle.std.proofs.lemmas.Bool.{false≢true}
use Rattle.std.proofs.Common.{true≢false, subst}
use Rattle.encoding.specs.Bytes as B
use Rattle.encoding.specs.Bytes.{Blank, blank_byte}
use Rattle.query_lexer.specs.Scans.{BlankIs, blank, other}
use Rattle.query_lexer.specs.Scans.{digit, upper, underscore, lower, below_digits, below_upper, between_cases, above_lower}
use Rattle.query_lexer.specs.Scans.{IsDigit, DigitIs, is_digit, no_digit, LeadsOn, more, none}

-- a blank

module _ {b : ℕ} where
  pub is_space : b ≡ 0x20 → BlankIs b true
  is_space = blank B.space

  pub is_tab : b ≡ 0x09 → BlankIs b true
  is_tab = blank B.tab

  pub is_feed : b ≡ 0x0A → BlankIs b true
  is_feed = blank B.feed

  pub is_return : b ≡ 0x0D → BlankIs b true
  is_return = blank B.return

  pub no_blank : (b ≡ 0x20 → ⊥) → (b ≡ 0x09 → ⊥) → (b ≡ 0x0A → ⊥) → (b ≡ 0x0D → ⊥) → BlankIs b false
  no_blank s t f r = other go
    where
      go : (x : Blank) → b ≡ blank_byte x → ⊥
      go B.space e = s e
      go B.tab e = t e
      go B.feed e = f e
      go B.return e = r e

pub ruleset blank_cases = (is_space, is_tab, is_feed, is_return, no_blank)

-- a byte of a shorthand name

pub ruleset name_byte_cases = (digit, upper, underscore, lower, below_digits, below_upper, between_cases, above_lower)

-- a digit

pub ruleset digit_cases = (is_digit, no_digit)

pub a_digit : {b : ℕ} {x : Bool} → DigitIs b x → x ≡ true → IsDigit b
a_digit (is_digit x) e = x
a_digit (no_digit f) e = absurd (false≢true e)

pub not_digit : {b : ℕ} {x : Bool} → DigitIs b x → x ≡ false → 0x30 ≤ b → b ≤ 0x39 → ⊥
not_digit (is_digit x) e = absurd (true≢false e)
not_digit (no_digit f) e = f

-- one that leads on

pub ruleset leads_on_cases = (more, none, a_digit, not_digit)

pub leading_digit : {v b w : ℕ} {x : Option ℕ} → LeadsOn v b x → x ≡ Some w → IsDigit b
leading_digit {v} {b} {w} d e = go (subst (LeadsOn v b) e d)
  where
    go : LeadsOn v b (Some w) → IsDigit b
    go (more p x q m) = x
