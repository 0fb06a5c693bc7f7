-- Laws of numbers in decimal: a number's digits are those of its tenth and one more, so each law goes by that.
use Rattle.std.specs.Prelude.{◌≡◌, refl, Bool, true, false, ℕ, zero, suc, max, ◌+◌, ◌-◌, ◌*◌, ◌/◌, ◌%◌, ◌^◌, ◌≤◌, ◌<◌, ltb, length, get_or}
use Rattle.std.proofs.Common.{ap, sym, ◌∙◌, ⊎_elim, pow-suc, arith, ltb-true, ltb-false, length-append}
use mathlib.Core.List.Memᴰ
use mathlib.Core.List.{List, [], ◌∷◌, ◌++◌, Memᴰ}
use Rattle.std.proofs.Math.ListN.{get_or-append}
use Rattle.std.proofs.Math.Nat.{one-le-pow}
use Rattle.encoding.specs.Decimal.{read_on, value_of}
use Rattle.encoding.specs.DecimalLaws.{read_append}
use Rattle.text.specs.Decimal.{digit, digits_of, decimal}

-- one step of the digits
lead_none : (m n : ℕ) → n < 10 → digits_of (suc m) n ≡ digit n ∷ []
unfolding digits_of
lead_none m n h = go (n / 10) refl (omega arith)
  where
    go : (q : ℕ) → n / 10 ≡ q → q ≡ 0 → elim q [ zero ↦ [] | suc j ↦ digits_of m (suc j) ] ++ (digit (n % 10) ∷ []) ≡ digit n ∷ []
    go zero e f = let z : n % 10 ≡ n = omega arith in rw z
    go (suc j) e f = absurd (omega arith)

lead_some : (m n : ℕ) → 10 ≤ n → digits_of (suc m) n ≡ digits_of m (n / 10) ++ (digit (n % 10) ∷ [])
unfolding digits_of
lead_some m n h = go (n / 10) refl (omega arith)
  where
    go :
        (q : ℕ) → n / 10 ≡ q → 1 ≤ q →
        elim q [ zero ↦ [] | suc j ↦ digits_of m (suc j) ] ++ (digit (n % 10) ∷ []) ≡ digits_of m q ++ (digit (n % 10) ∷ [])
    go zero e f = absurd (omega arith)
    go (suc j) e f = refl

-- what holds of each number below ten, and of a number if it holds of its tenth, holds of all
module _ (P : ℕ → Type 0) (small : (n : ℕ) → n < 10 → P n) (more : (n : ℕ) → 10 ≤ n → P (n / 10) → P n) where
  below : (m n : ℕ) → n < m → P n
  below zero n h = absurd (omega arith)
  below (suc m) n h = go (ltb n 10) refl (below m (n / 10))
    where
      go : (x : Bool) → ltb n 10 ≡ x → (n / 10 < m → P (n / 10)) → P n
      go true e on = small n (omega (arith, ltb-true))
      go false e on = more n (omega (arith, ltb-false)) (on (omega (arith, ltb-false)))

  pub by_digits : (n : ℕ) → P n
  by_digits n = below (suc n) n (omega arith)

-- any bound that is large enough will do
enough : (m k n : ℕ) → n < m → n < k → digits_of m n ≡ digits_of k n
enough zero k n h g = absurd (omega arith)
enough (suc m) zero n h g = absurd (omega arith)
enough (suc m) (suc k) n h g = go (ltb n 10) refl (enough m k (n / 10))
  where
    go : (x : Bool) → ltb n 10 ≡ x → (n / 10 < m → n / 10 < k → digits_of m (n / 10) ≡ digits_of k (n / 10)) → digits_of (suc m) n ≡ digits_of (suc k) n
    go true e on =
        let l : n < 10 = omega (arith, ltb-true) in
        lead_none m n l ∙ sym (lead_none k n l)
    go false e on =
        let l : 10 ≤ n = omega (arith, ltb-false) in
        lead_some m n l ∙ ap (λ (s : List ℕ). s ++ (digit (n % 10) ∷ [])) (on (omega arith) (omega arith)) ∙ sym (lead_some k n l)

-- a number below ten is one digit
pub decimal_small : (n : ℕ) → n < 10 → decimal n ≡ digit n ∷ []
unfolding decimal
decimal_small n h = lead_none n n h

-- any other is its tenth and one digit more
pub decimal_more : (n : ℕ) → 10 ≤ n → decimal n ≡ decimal (n / 10) ++ (digit (n % 10) ∷ [])
unfolding decimal
decimal_more n h =
    lead_some n n h ∙ ap (λ (s : List ℕ). s ++ (digit (n % 10) ∷ [])) (enough n (suc (n / 10)) (n / 10) (omega arith) (omega arith))

-- read back, it is the number
pub decimal_value : (n : ℕ) → value_of (decimal n) ≡ n
unfolding value_of read_on
decimal_value = by_digits (λ n. value_of (decimal n) ≡ n) small more
  where
    small : (n : ℕ) → n < 10 → value_of (decimal n) ≡ n
    small n h = ap value_of (decimal_small n h) ∙ omega arith

    more : (n : ℕ) → 10 ≤ n → value_of (decimal (n / 10)) ≡ n / 10 → value_of (decimal n) ≡ n
    more n h e =
        let s : read_on 0 (decimal n) ≡ read_on (n / 10) (digit (n % 10) ∷ []) =
        ap (read_on 0) (decimal_more n h)
        ∙ read_append 0 (decimal (n / 10)) (digit (n % 10) ∷ [])
        ∙ ap (λ (k : ℕ). read_on k (digit (n % 10) ∷ [])) e in
        s ∙ omega arith

-- its bytes are digits
abbrev Digit : ℕ → Type 0
Digit b = (0x30 ≤ b) × (b ≤ 0x39)

pub decimal_digits : (n b : ℕ) → Memᴰ b (decimal n) → Digit b
decimal_digits n b = by_digits (λ n. Memᴰ b (decimal n) → Digit b) small more n
  where
    small : (n : ℕ) → n < 10 → Memᴰ b (decimal n) → Digit b
    small n h m = let e : b ≡ digit n = Memᴰ.eq_of_singleton (rw (decimal_small n h) at m) in omega arith

    more : (n : ℕ) → 10 ≤ n → (Memᴰ b (decimal (n / 10)) → Digit b) → Memᴰ b (decimal n) → Digit b
    more n h on m =
        ⊎_elim on (λ k. let e : b ≡ digit (n % 10) = Memᴰ.eq_of_singleton k in omega arith)
        (Memᴰ.append_cases (decimal (n / 10)) (rw (decimal_more n h) at m))

-- no zero leads, but that 0 is one digit
abbrev NoZeroFirst : ℕ → Type 0
NoZeroFirst n = (0 < length (decimal n)) × (0 < n → 0x31 ≤ get_or (decimal n) 0 0)

no_zero_first : (n : ℕ) → NoZeroFirst n
no_zero_first = by_digits NoZeroFirst small more
  where
    small : (n : ℕ) → n < 10 → NoZeroFirst n
    small n h = rw (decimal_small n h) (omega arith, λ g. omega arith)

    more : (n : ℕ) → 10 ≤ n → NoZeroFirst (n / 10) → NoZeroFirst n
    more n h e =
        rw (decimal_more n h) (
          simp length-append (omega arith),
          λ g. rw (get_or-append (decimal (n / 10)) (digit (n % 10) ∷ []) 0 0 e.0) (e.1 (omega arith)),
        )

pub decimal_no_zero_first : (n : ℕ) → 0 < n → 0x31 ≤ get_or (decimal n) 0 0
decimal_no_zero_first n = (no_zero_first n).1

-- it has one digit or more
pub decimal_some : (n : ℕ) → 0 < length (decimal n)
decimal_some n = (no_zero_first n).0

-- a number below ten to the k has at most k digits
pub decimal-length : (k n : ℕ) → n < 10 ^ suc k → length (decimal n) ≤ suc k
decimal-length zero n h = rw (decimal_small n h) (omega arith)
decimal-length (suc k) n h = go (ltb n 10) refl (decimal-length k (n / 10) (omega (arith, pow-suc 10 (suc k))))
  where
    go : (x : Bool) → ltb n 10 ≡ x → length (decimal (n / 10)) ≤ suc k → length (decimal n) ≤ suc (suc k)
    go true e on = rw (decimal_small n (ltb-true n 10 e)) (omega arith)
    go false e on = rw (decimal_more n (ltb-false n 10 e)) (simp length-append (omega arith))

-- one digit more than its tenth
pub decimal_longer : (n : ℕ) → 10 ≤ n → length (decimal n) ≡ length (decimal (n / 10)) + 1
decimal_longer n h = rw (decimal_more n h) (length-append (decimal (n / 10)) (digit (n % 10) ∷ []))

-- a number from ten to the k on has more than k
decimal_least : (k n : ℕ) → 10 ^ k ≤ n → suc k ≤ length (decimal n)
decimal_least zero n h = omega (arith, decimal_some n)
decimal_least (suc k) n h =
    let l : 10 ≤ n = omega (arith, pow-suc 10 k, one-le-pow k 10 (omega arith)) in
    omega (arith, decimal_least k (n / 10) (omega (arith, pow-suc 10 k)), decimal_longer n l)

-- a power of ten says how many digits a number has; 0 has as many as 1
pub decimal_count : (k n : ℕ) → 10 ^ k ≤ max n 1 → max n 1 < 10 * 10 ^ k → length (decimal n) ≡ k + 1
decimal_count zero zero h l = rw (decimal_small 0 (omega arith))
decimal_count (suc k) zero h l = absurd (omega (arith, pow-suc 10 k, one-le-pow k 10 (omega arith)))
decimal_count k (suc n) h l = omega (arith, decimal_least k (suc n) (omega arith), decimal-length k (suc n) (omega (arith, pow-suc 10 k)))

-- a number of 32 bits has at most ten digits
pub decimal_word : (n : ℕ) → n < 2 ^ 32 → length (decimal n) ≤ 10
decimal_word n h = decimal-length 9 n (omega arith)
