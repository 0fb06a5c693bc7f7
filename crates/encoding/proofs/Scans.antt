-- What a scan answers at a place: at the end, at a wrong byte, and after one byte more.
-- Each follows from one step of the definition. Assumes nothing.
use mathlib.Core.Path.{◌≡◌, refl, ap, sym, ◌∙◌}
use mathlib.Core.List.{List, [], ◌∷◌}
use mathlib.Core.Bool.{Bool, true, false}
use Prim.Native.Nat.{ℕ, suc, ◌+◌, ◌-◌, ◌≤◌, ◌<◌}
use native.Mathlib.Omega.{arith}
use lib.ListN.{length, get_or, drop, drop_of_length-le}
use Rattle.encoding.specs.BytesLaws.{byte_at_lem}
use Rattle.encoding.specs.CodePoint.{Decoding, whole, wrong, short, later, due, is_whole, Scanned}
use Rattle.encoding.proofs.CodePointLaws.{is_whole_later, extent_later}
use Rattle.encoding.specs.Utf8Steps.{due_on, due_under, due_over}

module _ {s : List ℕ} {i : ℕ} {read : List ℕ → Decoding} where
  -- nothing is due
  pub at_last : ((t : List ℕ) → read t ≡ whole 0) → Scanned read s i true i
  at_last e =
      record {
        ok_whole = ap is_whole (sym (e (drop i s)));
        at_extent = rw (e (drop i s)) (omega arith);
      }

  -- nothing is left, where something is due
  pub at_end : length s ≤ i → read [] ≡ short → Scanned read s i false i
  at_end h e =
      let same : read (drop i s) ≡ short = ap read (drop_of_length-le s h) ∙ e in
      record { ok_whole = ap is_whole (sym same); at_extent = rw (same, drop_of_length-le s h) (omega arith) }

  module _ (h : i < length s) where
    pub at_wrong : ((t : List ℕ) → read (get_or s i 0 ∷ t) ≡ wrong 0) → Scanned read s i false i
    at_wrong e =
        let same : read (drop i s) ≡ wrong 0 = ap read (byte_at_lem s i h) ∙ e (drop (i + 1) s) in
        record { ok_whole = ap is_whole (sym same); at_extent = rw same (omega arith) }

    pub one_on :
        {rest : List ℕ → Decoding} {ok : Bool} {at : ℕ} → ((t : List ℕ) → read (get_or s i 0 ∷ t) ≡ later (rest t)) →
        Scanned rest s (i + 1) ok at → Scanned read s i ok at
    one_on {rest} e a =
        let t = drop (i + 1) s in
        let same : read (drop i s) ≡ later (rest t) = ap read (byte_at_lem s i h) ∙ e t in
        record {
          ok_whole = a.ok_whole ∙ sym (is_whole_later (rest t)) ∙ ap is_whole (sym same);
          at_extent = rw (same, byte_at_lem s i h) (omega (arith, a.at_extent, extent_later (get_or s i 0) t (rest t)));
        }

count : (n : ℕ) → 0 < n → n ≡ suc (n - 1)
count n h = omega arith

counted : (lo hi n : ℕ) → 0 < n → (t : List ℕ) → due lo hi n t ≡ due lo hi (suc (n - 1)) t
counted lo hi n h t = ap (λ (m : ℕ). due lo hi m t) (count n h)

-- the bytes that are due
module _ (lo hi n : ℕ) {s : List ℕ} {i : ℕ} where
  pub due_done : n ≤ 0 → Scanned (due lo hi n) s i true i
  unfolding due
  due_done h = let z : n ≡ 0 = omega arith in rw z (at_last (λ t. refl))

  module _ (some : 0 < n) where
    pub due_ends : length s ≤ i → Scanned (due lo hi n) s i false i
    unfolding due
    due_ends h = at_end h (rw (count n some, due))

    module _ (h : i < length s) where
      pub due_low : get_or s i 0 < lo → Scanned (due lo hi n) s i false i
      due_low l = at_wrong h (λ t. counted lo hi n some (get_or s i 0 ∷ t) ∙ due_under lo hi (n - 1) (get_or s i 0) t l)

      pub due_high : hi < get_or s i 0 → Scanned (due lo hi n) s i false i
      due_high u = at_wrong h (λ t. counted lo hi n some (get_or s i 0 ∷ t) ∙ due_over lo hi (n - 1) (get_or s i 0) t u)

      pub due_next :
          lo ≤ get_or s i 0 → get_or s i 0 ≤ hi → {ok : Bool} {at : ℕ} → Scanned (due 0x80 0xBF (n - 1)) s (i + 1) ok at →
          Scanned (due lo hi n) s i ok at
      due_next l u a = one_on h (λ t. counted lo hi n some (get_or s i 0 ∷ t) ∙ due_on lo hi (n - 1) (get_or s i 0) t l u) a
