-- Digits put one by one, the last one first.
use Rattle.std.specs.Prelude.{◌≡◌, refl, List, Bool, true, false, ℕ, ◌+◌, ◌-◌, ◌/◌, ◌%◌, ◌≤◌, ◌<◌, ltb, length, set}
use Rattle.std.proofs.Common.{ap, sym, ◌∙◌, arith, ltb-true, ltb-false}
use Rattle.text.specs.Decimal.{digit, decimal}
use Rattle.text.specs.DecimalLaws.{decimal_small, decimal_more, decimal_some, decimal_longer}
use Rattle.text.specs.Put.{put}
use Rattle.text.specs.PutLaws.{put_one, put_last}

module _ (n at end : ℕ) (b : List ℕ) (stands : end ≡ at + length (decimal n)) (room : end ≤ length b) where
  -- the last digit, and those of the tenth
  pub put_digit : 10 ≤ n → put (decimal (n / 10)) at (set b (end - 1) (digit (n % 10))) ≡ put (decimal n) at b
  put_digit h =
      let e : end - 1 ≡ at + length (decimal (n / 10)) = omega (arith, decimal_longer n h) in
      rw (e, decimal_more n h) (put_last (decimal (n / 10)) (digit (n % 10)) at b (record { fits = rw (decimal_more n h) at (rw stands at room) }))

  -- the only digit
  pub put_last_digit : n < 10 → set b at (digit n) ≡ put (decimal n) at b
  put_last_digit h = rw (decimal_small n h) (sym (put_one at b (digit n) (omega (arith, ap length (decimal_small n h)))))

-- of the digits put from `at` on, those of `rest` are still to be put before i, and all others stand; none are left where i is `at`
pub record Digits (n at : ℕ) (before : List ℕ) (rest i : ℕ) (now : List ℕ) : Type 0 where
  pub order : at ≤ i
  pub more : at < i → (i ≡ at + length (decimal rest)) × (put (decimal rest) at now ≡ put (decimal n) at before)
  pub done : i ≤ at → now ≡ put (decimal n) at before

module _ {n at : ℕ} {before : List ℕ} where
  pub digits_start : {i : ℕ} → i ≡ at + length (decimal n) → Digits n at before n i before
  digits_start e = record { order = omega arith; more = λ h. (e, refl); done = λ h. absurd (omega (arith, decimal_some n)) }

  pub digits_next : {rest i : ℕ} {now : List ℕ} → Digits n at before rest i now → at < i → i ≤ length now
      → Digits n at before (rest / 10) (i - 1) (set now (i - 1) (digit (rest % 10)))
  digits_next {rest} {i} {now} v h room = go (ltb rest 10) refl
    where
      stands : i ≡ at + length (decimal rest)
      stands = (v.more h).0

      go : (x : Bool) → ltb rest 10 ≡ x → Digits n at before (rest / 10) (i - 1) (set now (i - 1) (digit (rest % 10)))
      go true e =
          let small = ltb-true rest 10 e in
          let one : i - 1 ≡ at = omega (arith, stands, ap length (decimal_small rest small)) in
          let same : rest % 10 ≡ rest = omega arith in
          record {
            order = omega arith;
            more = λ k. absurd (omega arith);
            done = λ k. rw (one, same) (put_last_digit rest at i now stands room small ∙ (v.more h).1);
          }
      go false e =
          let large = ltb-false rest 10 e in
          record {
            order = omega arith;
            more = λ k. (omega (arith, stands, decimal_longer rest large), put_digit rest at i now stands room large ∙ (v.more h).1);
            done = λ k. absurd (omega (arith, stands, decimal_longer rest large, decimal_some (rest / 10)));
          }
