-- Code points that stand one after another go forward. Assumes nothing.
use Rattle.std.specs.Prelude.{◌≡◌, refl, List, Bool, true, false, ℕ, ◌≤◌, ◌<◌, length, get_or}
use Rattle.std.proofs.lemmas.Bool.{false≢true}
use Rattle.std.proofs.Common.{arith}
use Rattle.encoding.specs.CodePoint.{decoding, Scanned}
use Rattle.encoding.specs.RowTable.{Narrow, narrow_above}
use Rattle.encoding.specs.WideRun.{WideAt, WideRun, over, narrow, broken, more}
use Rattle.encoding.proofs.Utf8At.{reads_at, scanned_moved}

pub wide_at : {s : List ℕ} {i : ℕ} {r : Bool} → i < length s → Narrow (get_or s i 0) r → r ≡ false → WideAt s i
wide_at h n e = record { inside = h; from_80 = narrow_above n e }

-- a code point goes forward
point_moved : {s : List ℕ} {i j : ℕ} → Scanned decoding s i true j → i < j
point_moved p = scanned_moved (reads_at p) refl

-- the run does not go back
run_forward : {s : List ℕ} {i : ℕ} {ok : Bool} {r : ℕ} → WideRun s i ok r → ok ≡ true → i ≤ r
run_forward (over h) e = omega arith
run_forward (narrow h) e = omega arith
run_forward (broken w p) e = absurd (false≢true e)
run_forward (more w p q) e = omega (arith, point_moved p, run_forward q e)

-- it goes forward where a byte from 80 on stands
pub run_moved : {s : List ℕ} {i : ℕ} {ok : Bool} {r : ℕ} → WideRun s i ok r → WideAt s i → ok ≡ true → i < r
run_moved (over h) x e = absurd (omega (arith, x.inside))
run_moved (narrow h) x e = absurd (omega (arith, x.from_80))
run_moved (broken w p) x e = absurd (false≢true e)
run_moved (more w p q) x e = omega (arith, point_moved p, run_forward q e)
