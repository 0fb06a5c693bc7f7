-- What is kept of a block tells where a container is left: the opening bracket just before `at`, outside strings, shows that neither a string
-- nor an odd run of backslashes reaches `at`, so the words from there on are those of the definition. Assumes nothing.
use mathlib.Core.Path.{◌≡◌, refl, sym, ap, subst, ◌∙◌}
use mathlib.Core.Bool.{Bool, true, false, not, ◌&&◌, ◌||◌, false≢true, and-eq-true_iff}
use mathlib.Core.List.{List}
use mathlib.Core.Logic.{⊎_elim, ∥∥₁_elim}
use Rattle.std.proofs.Math.Nat.{ℕ_set}
use Rattle.std.proofs.Math.Bridge.{le_prop}
use Prim.Native.Nat.{ℕ, suc, ◌+◌, ◌-◌, ◌/◌, ◌^◌, ◌<◌, ◌≤◌}
use native.Mathlib.Numerals.{add-one}
use native.Mathlib.Omega.{arith}
use lib.Dec.{eqb}
use lib.ListN.{drop, length-drop}
use lib.Seq.{drop-drop}
use borrow.Author.Tests.{eqb-true, not-true}
use Rattle.bits.specs.Bits.{bit}
use Rattle.bits.specs.Laws.{lt_or_ge, bit_shr}
use Rattle.blocks.specs.Words.{odd_before, in_string, opens_at, opening_word, closing_word}
use Rattle.classifier.specs.Classes.{byte_at, is_backslash}
use Rattle.blocks.specs.Laws.{Carried, opening_past, closing_past, size_le}
use Rattle.blocks.specs.Sorted.{Sorted}
use Rattle.blocks.specs.declared.Words.{Words}
use Rattle.brackets.specs.Closing.{ClosesAt}
use Rattle.brackets.specs.Depth.{depth_at}
use Rattle.brackets.specs.DepthLaws.{depth_falls}
use Rattle.leap.specs.Brackets.{depth_in, Closed}
use Rattle.leap.specs.BracketLaws.{closed_at, closed_once}
use Rattle.leap.specs.Passing.{AfterClosing, KeptBlock, Kept}
use Rattle.leap.proofs.Ways.{falls_inside, block_opens, word_depth}

-- ---- just behind an opening bracket

no_backslash : (b : ℕ) → (eqb b 0x5B || eqb b 0x7B) ≡ true → eqb b 0x5C ≡ false
no_backslash b h = go (eqb b 0x5B) refl (eqb b 0x7B) refl h
  where
    go : (x : Bool) → eqb b 0x5B ≡ x → (y : Bool) → eqb b 0x7B ≡ y → (x || y) ≡ true → eqb b 0x5C ≡ false
    go true e y d z = ap (λ (k : ℕ). eqb k 0x5C) (eqb-true b 0x5B e)
    go false e true d z = ap (λ (k : ℕ). eqb k 0x5C) (eqb-true b 0x7B d)
    go false e false d z = absurd (false≢true z)

-- both facts are false there
pub behind_opening : (s : List ℕ) (inside odd : Bool) (i : ℕ) → opens_at inside odd s i ≡ true → Carried inside odd s (suc i) false false
unfolding opens_at in_string odd_before is_backslash
behind_opening s inside odd i h =
    let (bracket, outside) = (and-eq-true_iff (eqb (byte_at s i) 0x5B || eqb (byte_at s i) 0x7B) (not (in_string inside odd s i))).0 h in
    record {
      quoted_is = not-true (in_string inside odd s i) outside;
      escaped_is = ap (λ (x : Bool). x && not (odd_before odd s i)) (no_backslash (byte_at s i) bracket);
    }

-- ---- the words from there on

module _ (s : List ℕ) (inside odd : Bool) (near : ℕ) (behind : Carried inside odd s near false false) where
  depth_on : (i : ℕ) → near + i ≤ 64
      → depth_at (λ j. bit j (opening_word inside odd s / 2 ^ near)) (λ j. bit j (closing_word inside odd s / 2 ^ near)) 1 i ≡ depth_in false false (drop near s) 1 i
  depth_on =
      word_depth s inside odd near behind (opening_word inside odd s / 2 ^ near) (closing_word inside odd s / 2 ^ near)
      (λ j. bit_shr near j (opening_word inside odd s)) (λ j. bit_shr near j (closing_word inside odd s))
      1

  module _ {place : ℕ} (f : ClosesAt (opening_word inside odd s / 2 ^ near) (closing_word inside odd s / 2 ^ near) 1 place) where
    -- the bracket that was found stands in the block
    in_block : near + place < 64
    in_block = ⊎_elim
        (λ (l : near + place < 64). l)
        (λ (l : 64 ≤ near + place).
        let opening : ℕ → Bool = λ j. bit j (opening_word inside odd s / 2 ^ near) in
        let closing : ℕ → Bool = λ j. bit j (closing_word inside odd s / 2 ^ near) in
        absurd
        (depth_falls opening closing 1 place f.before (ap (depth_at opening closing 1) (sym (add-one place)) ∙ f.behind)
        (bit_shr near place (opening_word inside odd s) ∙ opening_past s inside odd (near + place) (omega (arith, size_le s)))
        (bit_shr near place (closing_word inside odd s) ∙ closing_past s inside odd (near + place) (omega (arith, size_le s)))))
        (lt_or_ge (near + place) 64)

    depth_before : depth_in false false (drop near s) 1 place ≡ 1
    depth_before = sym (depth_on place (omega (arith, in_block))) ∙ f.before

    depth_behind : depth_in false false (drop near s) 1 (suc place) ≡ 0
    depth_behind =
        ap (depth_in false false (drop near s) 1) (sym (add-one place))
        ∙ sym (depth_on (place + 1) (omega (arith, in_block)))
        ∙ f.behind

    pub closes_there : Closed false false (drop near s) 1 (suc place)
    closes_there =
        closed_at (falls_inside (drop near s) false false 1 place depth_before depth_behind) (λ e. omega (arith, depth_before)) depth_behind

-- ---- what is kept

pub nothing_kept : (s : List ℕ) {end opening closing : ℕ} → end ≡ 0 → Kept s end opening closing
nothing_kept s none some = absurd (some none)

-- the block that ends at `end` and has the opening bracket just before `at`
module _ (end opening closing at near : ℕ) (before : at < end) (in_it : end - at < 64) (near_is : near ≡ 64 - (end - at))
    (opens : bit (near - 1) opening ≡ true) {place : ℕ} (f : ClosesAt (opening / 2 ^ near) (closing / 2 ^ near) 1 place) {s : List ℕ} where
  module _ (b : KeptBlock s end opening closing) where
    place_is : b.start + near ≡ at
    place_is = omega (arith, b.end_is)

    here : drop near (drop b.start s) ≡ drop at s
    here = drop-drop near b.start s ∙ ap (λ (x : ℕ). drop x s) place_is

    behind : Carried b.inside b.odd (drop b.start s) near false false
    behind =
        let z : suc (near - 1) ≡ near = omega arith in
        subst (λ (x : ℕ). Carried b.inside b.odd (drop b.start s) x false false) z
        (behind_opening (drop b.start s) b.inside b.odd (near - 1)
        (sym (block_opens (drop b.start s) b.inside b.odd (near - 1) (omega arith)) ∙ ap (bit (near - 1)) (sym b.opening_are) ∙ opens))

    closes_here : Closed false false (drop at s) 1 (suc place)
    closes_here =
        subst (λ (x : List ℕ). Closed false false x 1 (suc place)) here
        (closes_there (drop b.start s) b.inside b.odd near behind
        (subst (λ (x : ℕ). ClosesAt (x / 2 ^ near) (closing_word b.inside b.odd (drop b.start s) / 2 ^ near) 1 place) b.opening_are
        (subst (λ (x : ℕ). ClosesAt (opening / 2 ^ near) (x / 2 ^ near) 1 place) b.closing_are f)))

  pub near_after : Kept s end opening closing → AfterClosing s at (at + place + 1)
  near_after kept =
      let block = kept (λ z. omega arith) in
      record {
        onward = omega arith;
        within = λ l. ∥∥₁_elim block le_prop (λ b. let c = closes_here b in omega (arith, c.within, length-drop at s));
        exact = λ e d. ∥∥₁_elim block (ℕ_set _ _) (λ b. let z : suc place ≡ e = closed_once (closes_here b) d in omega arith);
      }

-- a block that was sorted, with its end
pub block_kept : {s : List ℕ} (i : ℕ) {inside odd : Bool} {w : Words} → Sorted (drop i s) inside odd w → Kept s (i + 64) w.opening w.closing
block_kept i {inside} {odd} sorted _ = ∣ record {
  start = i;
  inside = inside;
  odd = odd;
  end_is = refl;
  opening_are = sorted.opening_are;
  closing_are = sorted.closing_are;
} ∣₁
