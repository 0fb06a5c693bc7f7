-- On the way to the closing bracket the two facts and the depth are those of the definition, block by block; the place where the depth
-- falls to 0 is then the only one. Assumes nothing.
use mathlib.Core.Path.{◌≡◌, refl, sym, ap, ap₂, subst, ◌∙◌}
use mathlib.Core.Bool.{Bool, false}
use mathlib.Core.List.{List, []}
use mathlib.Core.Logic.{⊎_elim}
use Prim.Native.Nat.{ℕ, suc, ◌+◌, ◌-◌, ◌<◌, ◌≤◌}
use native.Mathlib.Nat.{zero-add}
use native.Mathlib.Numerals.{add-one}
use native.Mathlib.Omega.{arith}
use lib.ListN.{length, take, drop, length-drop, get_or-eq_default}
use lib.Seq.{drop-drop, take_all}
use Rattle.bits.specs.Bits.{bit}
use Rattle.bits.specs.Laws.{lt_or_ge}
use Rattle.blocks.specs.Words.{odd_before, odd_quotes, opens_at, closes_at, block_size, opening_word, closing_word}
use Rattle.classifier.specs.Classes.{byte_at}
use Rattle.blocks.specs.Laws.{Carried, size_full, size_short, inside_full, odd_full, opening_bit, closing_bit, opening_past, closing_past, odd_drop, quotes_drop, opens_drop, closes_drop}
use Rattle.blocks.specs.Sorted.{Sorted}
use Rattle.blocks.specs.declared.Words.{Words}
use Rattle.brackets.specs.Closing.{ClosesAt, StaysOpen}
use Rattle.brackets.specs.Depth.{depth_at}
use Rattle.brackets.specs.DepthLaws.{depth_none_at, depth_falls, depth_same}
use Rattle.json_text.specs.Grammar.{put_items}
use Rattle.leap.specs.Brackets.{depth_in, Closed, Leaves}
use Rattle.leap.specs.BracketLaws.{depth_drop, closed_at, closed_once}
use Rattle.leap.specs.ContainerEnds.{items_closed}
use Rattle.leap.specs.Passing.{AfterClosing}

-- ---- what holds at a place

-- at place p of s, which is entered with the facts inside₀ and odd₀ and n₀ open brackets
pub record Stands (inside₀ odd₀ : Bool) (s : List ℕ) (n₀ p : ℕ) (inside odd : Bool) (n : ℕ) : Type 0 where
  pub carried : Carried inside₀ odd₀ s p inside odd
  pub depth_is : depth_in inside₀ odd₀ s n₀ p ≡ n

stands_start : (inside odd : Bool) (s : List ℕ) (n : ℕ) → Stands inside odd s n 0 inside odd n
unfolding odd_quotes odd_before depth_in
stands_start inside odd s n = record { carried = record { quoted_is = refl; escaped_is = refl }; depth_is = refl }

module _ {inside₀ odd₀ : Bool} {s : List ℕ} {n₀ p : ℕ} {inside odd : Bool} {n : ℕ} (v : Stands inside₀ odd₀ s n₀ p inside odd n) where
  -- from here on
  stands_on : (j : ℕ) → depth_in inside odd (drop p s) n j ≡ depth_in inside₀ odd₀ s n₀ (p + j)
  stands_on j =
      ap₂ (λ (x y : Bool). depth_in x y (drop p s) n j) (sym v.carried.quoted_is) (sym v.carried.escaped_is)
      ∙ ap (λ (x : ℕ). depth_in (odd_quotes inside₀ odd₀ s p) (odd_before odd₀ s p) (drop p s) x j) (sym v.depth_is)
      ∙ depth_drop inside₀ odd₀ s n₀ p j

  -- a bracket is open here, so the end lies ahead, and is the end from here on
  module _ {e : ℕ} (some : 1 ≤ n) (c : Closed inside₀ odd₀ s n₀ e) where
    pub end_ahead : p < e
    unfolding depth_in
    end_ahead = ⊎_elim
        (λ (h : p < e). h)
        (λ (h : e ≤ p).
        let z : depth_in inside₀ odd₀ s n₀ p ≡ 0 = depth_none_at (opens_at inside₀ odd₀ s) (closes_at inside₀ odd₀ s) n₀ e p h c.is_zero in
        absurd (omega (arith, v.depth_is)))
        (lt_or_ge p e)

-- ---- the invariant of the loop

-- from `at` on, just behind an opening bracket, place i is reached with a bracket still open
pub record Tracked (s : List ℕ) (at i : ℕ) (inside odd : Bool) (n : ℕ) : Type 0 where
  pub onward : at ≤ i
  pub within : at ≤ length s → i ≤ length s
  pub few : n + at ≤ 1 + i
  pub some : 1 ≤ n
  pub stands : Stands false false (drop at s) 1 (i - at) inside odd n

pub tracked_start : {s : List ℕ} {at : ℕ} → Tracked s at at false false 1
tracked_start {s} {at} =
    let z : 0 ≡ at - at = omega arith in
    record {
      onward = omega arith;
      within = λ l. l;
      few = omega arith;
      some = omega arith;
      stands = subst (λ (p : ℕ). Stands false false (drop at s) 1 p false false 1) z (stands_start false false (drop at s) 1);
    }

module _ {s : List ℕ} {at i : ℕ} {inside odd : Bool} {n : ℕ} (v : Tracked s at i inside odd n) where
  -- the record ends first
  pub tracked_out : length s ≤ i → AfterClosing s at i
  tracked_out h = record {
    onward = v.onward;
    within = v.within;
    exact = λ e c. absurd (omega (arith, end_ahead v.stands v.some c, c.within, length-drop at s, v.onward));
  }

  -- the rest of s from place i on, and its bytes
  here : drop (i - at) (drop at s) ≡ drop i s
  here = let z : at + (i - at) ≡ i = omega (arith, v.onward) in drop-drop (i - at) at s ∙ ap (λ (x : ℕ). drop x s) z

-- ---- a block

no_bracket_past : (s : List ℕ) (inside odd : Bool) (j : ℕ) → length s ≤ j → (opens_at inside odd s j ≡ false) × (closes_at inside odd s j ≡ false)
unfolding opens_at closes_at byte_at
no_bracket_past s inside odd j h = rw (get_or-eq_default s 0 h) (refl, refl)

-- the depth falls from 1 to 0 only at a bracket of s
pub falls_inside : (s : List ℕ) (inside odd : Bool) (n i : ℕ) → depth_in inside odd s n i ≡ 1 → depth_in inside odd s n (suc i) ≡ 0 → i < length s
unfolding depth_in
falls_inside s inside odd n i before behind = ⊎_elim
    (λ (l : i < length s). l)
    (λ (l : length s ≤ i).
    let z = no_bracket_past s inside odd i l in
    absurd (depth_falls (opens_at inside odd s) (closes_at inside odd s) n i before behind z.0 z.1))
    (lt_or_ge i (length s))

past_block : (s : List ℕ) (j : ℕ) → j < 64 → block_size s ≤ j → length s ≤ j
past_block s j h l = ⊎_elim
    (λ (x : length s < 64). omega (arith, size_short s (omega arith)))
    (λ (x : 64 ≤ length s). absurd (omega (arith, size_full s x)))
    (lt_or_ge (length s) 64)

-- bits three and four of a block say the brackets of all 64 places
pub block_opens : (s : List ℕ) (inside odd : Bool) (j : ℕ) → j < 64 → bit j (opening_word inside odd s) ≡ opens_at inside odd s j
block_opens s inside odd j h = ⊎_elim
    (λ (l : j < block_size s). opening_bit s inside odd j l)
    (λ (l : block_size s ≤ j). opening_past s inside odd j l ∙ sym (no_bracket_past s inside odd j (past_block s j h l)).0)
    (lt_or_ge j (block_size s))

pub block_closes : (s : List ℕ) (inside odd : Bool) (j : ℕ) → j < 64 → bit j (closing_word inside odd s) ≡ closes_at inside odd s j
block_closes s inside odd j h = ⊎_elim
    (λ (l : j < block_size s). closing_bit s inside odd j l)
    (λ (l : block_size s ≤ j). closing_past s inside odd j l ∙ sym (no_bracket_past s inside odd j (past_block s j h l)).1)
    (lt_or_ge j (block_size s))

-- two words that have the brackets of a block from place `near` on, where the two facts are x and y, tell the depth from there on
module _ (s : List ℕ) (inside odd : Bool) (near : ℕ) {x y : Bool} (facts : Carried inside odd s near x y) (opening closing : ℕ)
    (opens : (j : ℕ) → bit j opening ≡ bit (near + j) (opening_word inside odd s))
    (closes : (j : ℕ) → bit j closing ≡ bit (near + j) (closing_word inside odd s)) where
  pub word_depth : (n i : ℕ) → near + i ≤ 64 → depth_at (λ j. bit j opening) (λ j. bit j closing) n i ≡ depth_in x y (drop near s) n i
  unfolding depth_in
  word_depth n i h =
      depth_same _ _ (opens_at x y (drop near s)) (closes_at x y (drop near s)) n i
      (λ j l.
      opens j ∙ block_opens s inside odd (near + j) (omega arith) ∙ sym (opens_drop s inside odd near j)
      ∙ ap₂ (λ (u v : Bool). opens_at u v (drop near s) j) facts.quoted_is facts.escaped_is)
      (λ j l.
      closes j ∙ block_closes s inside odd (near + j) (omega arith) ∙ sym (closes_drop s inside odd near j)
      ∙ ap₂ (λ (u v : Bool). closes_at u v (drop near s) j) facts.quoted_is facts.escaped_is)

module _ {s : List ℕ} {at i : ℕ} {inside odd : Bool} {n : ℕ} (v : Tracked s at i inside odd n)
    {w : Words} (given : Sorted (take (length s - i) (drop i s)) inside odd w) where
  pub sorted : Sorted (drop i s) inside odd w
  sorted = rw (take_all (length s - i) (drop i s) (rw (length-drop i s) (omega arith))) at given

  -- the depth in the block
  depth_here : (j : ℕ) → j ≤ 64 → depth_at (λ k. bit k w.opening) (λ k. bit k w.closing) n j ≡ depth_in inside odd (drop i s) n j
  unfolding odd_quotes odd_before
  depth_here j h =
      word_depth (drop i s) inside odd 0 (record { quoted_is = refl; escaped_is = refl }) w.opening w.closing
      (λ k. ap₂ bit (sym (zero-add k)) sorted.opening_are) (λ k. ap₂ bit (sym (zero-add k)) sorted.closing_are)
      n j (omega arith)

  block_depth : (j : ℕ) → j ≤ 64 → depth_at (λ k. bit k w.opening) (λ k. bit k w.closing) n j ≡ depth_in false false (drop at s) 1 (i - at + j)
  block_depth j h = depth_here j h ∙ ap (λ (x : List ℕ). depth_in inside odd x n j) (sym (here v)) ∙ stands_on v.stands j

  module _ {place : ℕ} (f : ClosesAt w.opening w.closing n place) where
    -- the bracket that was found stands in the record
    in_record : place < length (drop i s)
    in_record =
        falls_inside (drop i s) inside odd n place
        (sym (depth_here place (omega (arith, f.in_block))) ∙ f.before)
        (ap (depth_in inside odd (drop i s) n) (sym (add-one place)) ∙ sym (depth_here (place + 1) (omega (arith, f.in_block))) ∙ f.behind)

    pub block_found : i < length s → AfterClosing s at (i + place + 1)
    block_found in_it =
        let l = in_record in
        let x : depth_in false false (drop at s) 1 (i - at + place) ≡ 1 = sym (block_depth place (omega (arith, f.in_block))) ∙ f.before in
        let y : depth_in false false (drop at s) 1 (i - at + (place + 1)) ≡ 0 = sym (block_depth (place + 1) (omega (arith, f.in_block))) ∙ f.behind in
        let z : i - at + (place + 1) ≡ suc (i - at + place) = omega arith in
        let c : Closed false false (drop at s) 1 (suc (i - at + place)) =
        closed_at (omega (arith, length-drop at s, length-drop i s, v.onward)) (λ e. omega arith) (ap (depth_in false false (drop at s) 1) (sym z) ∙ y) in
        record {
          onward = omega (arith, v.onward);
          within = λ _. omega (arith, length-drop i s);
          exact = λ e d. (let q : suc (i - at + place) ≡ e = closed_once c d in omega (arith, v.onward));
        }

  module _ {after : ℕ} (f : StaysOpen w.opening w.closing n after) where
    still_open : depth_in false false (drop at s) 1 (i - at + 64) ≡ after
    still_open = sym (block_depth 64 (omega arith)) ∙ f.behind

    -- the record ends in this block
    pub block_last : i < length s → length s - i < 64 → AfterClosing s at (length s)
    unfolding depth_in
    block_last in_it l = record {
      onward = omega (arith, v.onward);
      within = λ _. omega arith;
      exact = λ e c.
          (let x : depth_in false false (drop at s) 1 (i - at + 64) ≡ 0 =
          depth_none_at (opens_at false false (drop at s)) (closes_at false false (drop at s)) 1 e (i - at + 64)
          (omega (arith, c.within, length-drop at s, v.onward)) c.is_zero in
          absurd (omega (arith, still_open, f.some)));
    }

    -- on to the next block
    pub block_next : 64 ≤ length s - i → Tracked s at (i + 64) w.inside w.odd after
    block_next l =
        let full : 64 ≤ length (drop i s) = omega (arith, length-drop i s) in
        let z : i - at + 64 ≡ i + 64 - at = omega (arith, v.onward) in
        record {
          onward = omega (arith, v.onward);
          within = λ _. omega arith;
          few = omega (arith, v.few, f.few);
          some = f.some;
          stands = subst (λ (p : ℕ). Stands false false (drop at s) 1 p w.inside w.odd after) z (record {
            carried = record {
              quoted_is = sym (quotes_drop (drop at s) false false (i - at) 64) ∙ facts_inside ∙ sym (inside_full (drop i s) inside odd full) ∙ sym sorted.inside_is;
              escaped_is = sym (odd_drop (drop at s) false false (i - at) 64) ∙ facts_odd ∙ sym (odd_full (drop i s) inside odd full) ∙ sym sorted.odd_is;
            };
            depth_is = still_open;
          });
        }
      where
        k : Carried false false (drop at s) (i - at) inside odd
        k = v.stands.carried

        facts_inside :
            odd_quotes (odd_quotes false false (drop at s) (i - at)) (odd_before false (drop at s) (i - at)) (drop (i - at) (drop at s)) 64
            ≡ odd_quotes inside odd (drop i s) 64
        facts_inside =
            ap₂ (λ (x y : Bool). odd_quotes x y (drop (i - at) (drop at s)) 64) k.quoted_is k.escaped_is
            ∙ ap (λ (x : List ℕ). odd_quotes inside odd x 64) (here v)

        facts_odd : odd_before (odd_before false (drop at s) (i - at)) (drop (i - at) (drop at s)) 64 ≡ odd_before odd (drop i s) 64
        facts_odd =
            ap (λ (y : Bool). odd_before y (drop (i - at) (drop at s)) 64) k.escaped_is ∙ ap (λ (x : List ℕ). odd_before odd x 64) (here v)

-- ---- a container

pub after_leaves : {s : List ℕ} {at r : ℕ} → AfterClosing s at r → Leaves s at r
after_leaves {s} {at} {r} l = record {
  onward = l.onward;
  within = l.within;
  exact = λ k is rest e. l.exact (length (put_items is [])) (items_closed is (drop at s) rest e);
}
