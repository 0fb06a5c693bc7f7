-- Laws of the query and the record in the input: the query ends at the first line feed or at the end, and the record begins after it.
use Rattle.std.specs.Prelude.{◌≡◌, refl, Bool, true, false, cond, Some, None, ℕ, suc, ◌+◌, ◌-◌, ◌≤◌, ◌<◌, eqb, ltb, length, take, drop, get_or}
use Rattle.std.specs.List.{position, position_or_len}
use Rattle.std.proofs.Common.{ap, sym, ◌∙◌, add-one, arith, eq-eqb, ne_eqb, eqb-true, ltb-false, drop_of_length-le, length-take, length-drop, drop-cons, take_all}
use mathlib.Core.List.{List, [], ◌∷◌, ◌++◌, Memᴰ}
use Rattle.std.proofs.lemmas.Bool.{eqb-false}
use Rattle.std.proofs.lemmas.List.Recursion.{is_position_or_len}
use Rattle.std.proofs.lemmas.Option.{cond_some}
use Rattle.lines.specs.Lines.{feed, query_in_of, record_in_of}

-- the first byte of what is left
query_feed : (b : ℕ) (s : List ℕ) → b ≡ feed → query_in_of (b ∷ s) ≡ []
unfolding query_in_of
query_feed b s e = rw (eq-eqb b feed e, query_in_of)

query_other : (b : ℕ) (s : List ℕ) → (b ≡ feed → ⊥) → query_in_of (b ∷ s) ≡ b ∷ query_in_of s
unfolding query_in_of
query_other b s n = rw (ne_eqb b feed n, query_in_of)

record_feed : (b : ℕ) (s : List ℕ) → b ≡ feed → record_in_of (b ∷ s) ≡ s
unfolding record_in_of
record_feed b s e = rw (eq-eqb b feed e, record_in_of)

record_other : (b : ℕ) (s : List ℕ) → (b ≡ feed → ⊥) → record_in_of (b ∷ s) ≡ record_in_of s
unfolding record_in_of
record_other b s n = rw (ne_eqb b feed n, record_in_of)

-- a query without a line feed, a line feed and a record
pub query_before : (q r : List ℕ) → (Memᴰ feed q → ⊥) → query_in_of (q ++ (feed ∷ r)) ≡ q
query_before [] r n = query_feed feed r refl
query_before (b ∷ q) r n =
    query_other b (q ++ (feed ∷ r)) (λ e. n (Memᴰ.head (sym e))) ∙ ap (λ (l : List ℕ). b ∷ l) (query_before q r (λ m. n (Memᴰ.tail m)))

pub record_after : (q r : List ℕ) → (Memᴰ feed q → ⊥) → record_in_of (q ++ (feed ∷ r)) ≡ r
record_after [] r n = record_feed feed r refl
record_after (b ∷ q) r n = record_other b (q ++ (feed ∷ r)) (λ e. n (Memᴰ.head (sym e))) ∙ record_after q r (λ m. n (Memᴰ.tail m))

-- and a query alone
pub query_alone : (q : List ℕ) → (Memᴰ feed q → ⊥) → query_in_of q ≡ q
unfolding query_in_of
query_alone [] n = refl
query_alone (b ∷ q) n =
    query_other b q (λ e. n (Memᴰ.head (sym e))) ∙ ap (λ (l : List ℕ). b ∷ l) (query_alone q (λ m. n (Memᴰ.tail m)))

pub record_none : (q : List ℕ) → (Memᴰ feed q → ⊥) → record_in_of q ≡ []
unfolding record_in_of
record_none [] n = refl
record_none (b ∷ q) n = record_other b q (λ e. n (Memᴰ.head (sym e))) ∙ record_none q (λ m. n (Memᴰ.tail m))

-- the same by places: what one byte adds to the query
module _ (s : List ℕ) (i : ℕ) where
  pub query_stops : i < length s → get_or s i 0 ≡ feed → length (query_in_of (drop i s)) ≡ 0
  query_stops h e = rw (drop-cons s i 0 h, query_feed (get_or s i 0) (drop (suc i) s) e)

  pub query_goes_on : i < length s → (get_or s i 0 ≡ feed → ⊥) → length (query_in_of (drop i s)) ≡ 1 + length (query_in_of (drop (i + 1) s))
  query_goes_on h n = rw (drop-cons s i 0 h, query_other (get_or s i 0) (drop (suc i) s) n, add-one i) (omega arith)

  pub query_ends : length s ≤ i → length (query_in_of (drop i s)) ≡ 0
  unfolding query_in_of
  query_ends h = rw (drop_of_length-le s h)

-- both as parts of the input
pub query_part : (s : List ℕ) → take (length (query_in_of s)) s ≡ query_in_of s
unfolding query_in_of
query_part [] = refl
query_part (b ∷ s) = go (eqb b feed) refl (query_part s)
  where
    go : (x : Bool) → eqb b feed ≡ x → take (length (query_in_of s)) s ≡ query_in_of s → take (length (query_in_of (b ∷ s))) (b ∷ s) ≡ query_in_of (b ∷ s)
    go true e on = rw (query_feed b s (eqb-true b feed e))
    go false e on = rw (query_other b s (eqb-false b feed e)) (ap (λ (l : List ℕ). b ∷ l) on)

pub record_part : (s : List ℕ) → drop (length (query_in_of s) + 1) s ≡ record_in_of s
unfolding query_in_of record_in_of
record_part [] = refl
record_part (b ∷ s) = go (eqb b feed) refl (record_part s)
  where
    go : (x : Bool) → eqb b feed ≡ x → drop (length (query_in_of s) + 1) s ≡ record_in_of s → drop (length (query_in_of (b ∷ s)) + 1) (b ∷ s) ≡ record_in_of (b ∷ s)
    go true e on = rw (query_feed b s (eqb-true b feed e), record_feed b s (eqb-true b feed e))
    go false e on =
        let n : suc (length (query_in_of s)) + 1 ≡ suc (length (query_in_of s) + 1) = omega arith in
        rw (query_other b s (eqb-false b feed e), record_other b s (eqb-false b feed e), n) on

query_within : (s : List ℕ) → length (query_in_of s) ≤ length s
query_within s = omega (arith, ap length (query_part s), length-take (length (query_in_of s)) s)

-- the parts as they are lent: with n the length of the query
module _ (s : List ℕ) (n : ℕ) (is : n ≡ length (query_in_of s)) where
  pub query_lent : take n s ≡ query_in_of s
  query_lent = rw is (query_part s)

  pub query_fits : n ≤ length s
  query_fits = rw is (query_within s)

  rest : (k : ℕ) → take (length s - k) (drop k s) ≡ drop k s
  rest k = take_all (length s - k) (drop k s) (omega (arith, length-drop k s))

  pub record_lent : take (length s - (n + 1)) (drop (n + 1) s) ≡ record_in_of s
  record_lent = rest (n + 1) ∙ rw is (record_part s)

  -- where the query is all of the input
  pub record_empty : n ≡ length s → take (length s - n) (drop n s) ≡ record_in_of s
  record_empty e =
      let e₀ : drop n s ≡ [] = drop_of_length-le s {i = n} (omega arith) in
      let d : drop (length (query_in_of s) + 1) s ≡ [] = drop_of_length-le s {i = length (query_in_of s) + 1} (omega arith) in
      rest n ∙ e₀ ∙ sym d ∙ record_part s

-- the query is as long as there are bytes before the first line feed
query_length : (s : List ℕ) → length (query_in_of s) ≡ position_or_len (λ b. eqb b feed) s
unfolding query_in_of
query_length = is_position_or_len (λ s. length (query_in_of s)) (λ b. eqb b feed) refl step
  where
    step : (b : ℕ) (s : List ℕ) → length (query_in_of (b ∷ s)) ≡ cond (eqb b feed) 0 (1 + length (query_in_of s))
    step b s = go (eqb b feed) refl
      where
        go : (x : Bool) → eqb b feed ≡ x → length (query_in_of (b ∷ s)) ≡ cond x 0 (1 + length (query_in_of s))
        go true e = rw (query_feed b s (eqb-true b feed e))
        go false e = rw (query_other b s (eqb-false b feed e)) (omega arith)

-- both by the first line feed's place
module _ (s : List ℕ) where
  module _ {end : ℕ} (e : position (λ b. eqb b feed) s ≡ Some end) where
    end_is : end ≡ length (query_in_of s)
    end_is = sym (query_length s ∙ (cond_some _ _ _ e).1)

    pub query_to : take end s ≡ query_in_of s
    query_to = rw end_is (query_part s)

    pub record_from : take (length s - (end + 1)) (drop (end + 1) s) ≡ record_in_of s
    record_from = take_all (length s - (end + 1)) (drop (end + 1) s) (omega (arith, length-drop (end + 1) s)) ∙ rw end_is (record_part s)

  -- or where there is none
  module _ (e : position (λ b. eqb b feed) s ≡ None) where
    whole : length s ≤ length (query_in_of s)
    whole = go (ltb first (length s)) refl e
      where
        first : ℕ
        first = position_or_len (λ b. eqb b feed) s

        go : (x : Bool) → ltb first (length s) ≡ x → cond x (Some first) None ≡ None → length s ≤ length (query_in_of s)
        go true f g = cc
        go false f g = omega (arith, ltb-false first (length s) f, query_length s)

    pub query_whole : s ≡ query_in_of s
    query_whole = sym (take_all (length (query_in_of s)) s whole) ∙ query_part s

    pub record_nothing : [] ≡ record_in_of s
    record_nothing = sym (drop_of_length-le s {i = length (query_in_of s) + 1} (omega (arith, whole))) ∙ record_part s

-- both parts, with a line feed and without
pub ruleset parted = (query_to, record_from, query_whole, record_nothing)
