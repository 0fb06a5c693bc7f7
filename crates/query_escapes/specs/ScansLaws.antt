-- Laws of the place that a scan answers: it stayed, it went on by one byte, or it went on from the byte behind; and of a dead byte that is
-- handed on. Assumes nothing.
use Rattle.std.specs.Prelude.{◌≡◌, List, Bool, true, false, ℕ, ◌+◌, ◌≤◌, ◌<◌, Result, Ok, Err, length}
use Rattle.std.specs.Result.{IsErrAnd}
use Rattle.std.proofs.lemmas.Bool.{false≢true}
use Rattle.std.proofs.Common.{ap, arith}
use Rattle.std.proofs.lemmas.Result.{err_from_is_err_and}
use Rattle.encoding.specs.declared.Dead.{Dead}
use Rattle.encoding.specs.Reads.{Reads}
use Rattle.query_escapes.specs.Scans.{Moved, digit, upper, lower, none}

-- the ways to say what a byte stands for
pub ruleset hex_cases = (digit, upper, lower, none)

pub stayed : {q : List ℕ} {i : ℕ} → i ≤ length q → Moved q i false i
stayed h = record { within = h; on = λ e. absurd (false≢true e) }

pub went_on : {q : List ℕ} {i : ℕ} → i < length q → Moved q i true (i + 1)
went_on h = record { within = omega arith; on = λ e. omega arith }

pub passed_on : {q : List ℕ} {i : ℕ} {ok : Bool} {r : ℕ} → Moved q (i + 1) ok r → Moved q i ok r
passed_on m = record { within = m.within; on = λ e. omega (arith, m.on e) }

-- what is said of a reader's answer may be said otherwise
pub read_as : (P Q : Bool → ℕ → Type 0) (r : Result ℕ Dead) → ((ok : Bool) (n : ℕ) → P ok n → Q ok n) → Reads P r → Reads Q r
read_as P Q (Ok n) f p = f true n p
read_as P Q (Err z) f p = f false z.at p

-- a dead byte that `?` hands on, where it stands at i
pub handed : (r : Result ℕ Dead) {z : Dead} {i : ℕ} → IsErrAnd r (λ y. y ≡ z) → z.at ≡ i → r ≡ Err (record { at = i })
handed r x e = let w = err_from_is_err_and r x in rw (w.1, w.2) (ap (λ (n : ℕ). Err (record { at = n })) e)
