-- UTF-8 byte by byte: what is due after a first byte, and how a code point is read by it.
use Rattle.std.specs.Prelude.{◌≡◌, length, get_or, drop}
use Rattle.std.proofs.Common.{arith}
use mathlib.Core.List.{List, [], ◌∷◌}
use Prim.Native.Nat.{ℕ, zero, suc, ◌≤◌, ◌<◌, ◌-◌}
use Rattle.encoding.specs.BytesLaws.{inside, beneath, beyond}
use Rattle.encoding.specs.Utf8.{Second, any_tail, after_e0, after_ed, after_f0, after_f4, second_low, second_high, Row, row}
use Rattle.encoding.specs.CodePoint.{Decoding, whole, wrong, short, later, due, decode_by}

-- one, two or three bytes from 80 to BF, or what follows this first byte
pub data Due : Type 0 where
  one two three : Due
  due_e0 due_ed due_f0 due_f4 : Due

-- the next byte, and its bounds
abbrev pub second : Due → Second
second one = any_tail
second two = any_tail
second three = any_tail
second due_e0 = after_e0
second due_ed = after_ed
second due_f0 = after_f0
second due_f4 = after_f4

abbrev pub lowest : Due → ℕ
lowest d = second_low (second d)

abbrev pub highest : Due → ℕ
highest d = second_high (second d)

-- how many bytes are due after the next one
abbrev pub more : Due → ℕ
more one = 0
more two = 1
more three = 2
more due_e0 = 1
more due_ed = 1
more due_f0 = 2
more due_f4 = 2

-- what a first byte makes due
pub data First : ℕ → Due → Type 0 where
  in_c2_df : {b : ℕ} → 0xC2 ≤ b → b ≤ 0xDF → First b one
  in_e0 : {b : ℕ} → 0xE0 ≤ b → b ≤ 0xE0 → First b due_e0
  in_e1_ec : {b : ℕ} → 0xE1 ≤ b → b ≤ 0xEC → First b two
  in_ed : {b : ℕ} → 0xED ≤ b → b ≤ 0xED → First b due_ed
  in_ee_ef : {b : ℕ} → 0xEE ≤ b → b ≤ 0xEF → First b two
  in_f0 : {b : ℕ} → 0xF0 ≤ b → b ≤ 0xF0 → First b due_f0
  in_f1_f3 : {b : ℕ} → 0xF1 ≤ b → b ≤ 0xF3 → First b three
  in_f4 : {b : ℕ} → 0xF4 ≤ b → b ≤ 0xF4 → First b due_f4

-- what is due after one byte more
pub data Next : Due → Due → Type 0 where
  three_two : Next three two
  two_one : Next two one
  e0_one : Next due_e0 one
  ed_one : Next due_ed one
  f0_two : Next due_f0 two
  f4_two : Next due_f4 two

-- how the bytes due are read
pub data Rest : Due → List ℕ → Decoding → Type 0 where
  cut : {d : Due} → Rest d [] short
  under : {d : Due} {b : ℕ} {s : List ℕ} → b < lowest d → Rest d (b ∷ s) (wrong 0)
  over : {d : Due} {b : ℕ} {s : List ℕ} → highest d < b → Rest d (b ∷ s) (wrong 0)
  last : {b : ℕ} {s : List ℕ} → 0x80 ≤ b → b ≤ 0xBF → Rest one (b ∷ s) (whole 1)
  next :
      {d e : Due} {b : ℕ} {s : List ℕ} {x : Decoding} →
      Next d e → lowest d ≤ b → b ≤ highest d → Rest e s x → Rest d (b ∷ s) (later x)

-- how a code point from 80 on is read
pub data Reads : List ℕ → Decoding → Type 0 where
  empty : Reads [] short
  too_low : {b : ℕ} {s : List ℕ} → b < 0xC2 → Reads (b ∷ s) (wrong 0)
  too_high : {b : ℕ} {s : List ℕ} → 0xF4 < b → Reads (b ∷ s) (wrong 0)
  first : {b : ℕ} {d : Due} {s : List ℕ} {x : Decoding} → First b d → Rest d s x → Reads (b ∷ s) (later x)

-- the bytes due, by the definition
abbrev pub due_at : Due → List ℕ → Decoding
due_at d s = due (lowest d) (highest d) (suc (more d)) s

module _ (lo hi n b : ℕ) (s : List ℕ) where
  pub due_on : lo ≤ b → b ≤ hi → due lo hi (suc n) (b ∷ s) ≡ later (due 0x80 0xBF n s)
  unfolding due
  due_on l h = rw (inside lo hi b l h, due)

  pub due_under : b < lo → due lo hi (suc n) (b ∷ s) ≡ wrong 0
  unfolding due
  due_under l = rw (beneath lo hi b l, due)

  pub due_over : hi < b → due lo hi (suc n) (b ∷ s) ≡ wrong 0
  unfolding due
  due_over h = rw (beyond lo hi b h, due)

-- what is due after a first byte of the row
abbrev pub after_row : Row → List ℕ → Decoding
after_row r s = due r.second_low r.second_high (r.bytes - 1) s

abbrev pub row_at : List Row → ℕ → Row
row_at rs n = get_or rs n (row 0 0 0 0 0)

module _ (b : ℕ) (s : List ℕ) where
  pub row_hit :
      (n : ℕ) (rs : List Row) → n < length rs → (row_at rs n).low ≤ b → b ≤ (row_at rs n).high →
      decode_by (drop n rs) (b ∷ s) ≡ later (after_row (row_at rs n) s)
  unfolding decode_by
  row_hit n [] h l u = absurd (omega arith)
  row_hit zero (r ∷ rs) h l u = rw (inside r.low r.high b l u, decode_by)
  row_hit (suc n) (r ∷ rs) h l u = row_hit n rs (omega arith) l u
