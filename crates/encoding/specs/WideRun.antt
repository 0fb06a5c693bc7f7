-- Code points from 80 (hexadecimal) on that stand one after another.
use Rattle.std.specs.Prelude.{List, Bool, true, false, ℕ, ◌≤◌, ◌<◌, length, get_or}
use Rattle.encoding.specs.CodePoint.{decoding, Scanned}

-- a byte from 80 on stands at place i
pub record WideAt (s : List ℕ) (i : ℕ) : Type 0 where
  pub inside : i < length s
  pub from_80 : 0x80 ≤ get_or s i 0

-- how they are read from place i on: ok and the place of the first byte below 80, or the length; or not ok and the place of the first byte
-- that is wrong
pub data WideRun (s : List ℕ) : ℕ → Bool → ℕ → Type 0 where
  over : {i : ℕ} → length s ≤ i → WideRun s i true i
  narrow : {i : ℕ} → get_or s i 0 < 0x80 → WideRun s i true i
  broken : {i r : ℕ} → WideAt s i → Scanned decoding s i false r → WideRun s i false r
  more : {i j : ℕ} {ok : Bool} {r : ℕ} → WideAt s i → Scanned decoding s i true j → WideRun s j ok r → WideRun s i ok r
