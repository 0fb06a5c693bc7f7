-- Laws of links, as a loop goes through them, from the last one down: what one more link adds to the text, and to the half that is found.
-- Each is one step of the definitions. Assumes nothing.
use Rattle.std.specs.Prelude.{◌≡◌, true, false, length, get_or, drop}
use Rattle.std.proofs.Math.Path.{refl}
use Rattle.std.proofs.Common.{ap, ◌∙◌, arith, length-append, drop-cons}
use Rattle.std.proofs.lemmas.Bool.{false≢true}
use mathlib.Core.List.{List, [], ◌∷◌, ◌++◌}
use Rattle.std.proofs.Math.Option.{some, none}
use Prim.Native.Nat.{ℕ, zero, suc, ◌+◌, ◌≤◌, ◌<◌}
use Rattle.seek.specs.declared.keeper.KeptLink.{KeptLink}
use Rattle.seek.specs.declared.keeper.KeptLink.TheVariants.{Position, Name}
use Rattle.path.specs.Slots.{slot_text, slot_half, slot_quote, SlotWithin, slots_text, or_slot, slots_half, SlotsWithin}

-- only a name has half of a pair, and a quote stands before it
pub half_quote : (s : List ℕ) (k : KeptLink) → SlotWithin s k → slot_half s k ≡ true → (x : ℕ) × (y : ℕ) × (k ≡ Name x y) × (1 ≤ x)
unfolding slot_half
half_quote s (Position j) w h = absurd (false≢true h)
half_quote s (Name x y) w h = (x, y, refl, w.0)

-- link number i
abbrev pub link_at : List KeptLink → ℕ → KeptLink
link_at ks i = get_or ks i (Position 0)

module _ (s : List ℕ) where
  -- no link
  pub text_none : slots_text s [] ≡ []
  unfolding slots_text
  text_none = refl

  pub half_none : slots_half s [] ≡ none
  unfolding slots_half
  half_none = refl

  -- the names of links are those of each
  pub within_at : (ks : List KeptLink) (i : ℕ) → i < length ks → SlotsWithin s ks → SlotWithin s (link_at ks i)
  within_at [] i h w = absurd (omega arith)
  within_at (k ∷ ks) zero h w = w.0
  within_at (k ∷ ks) (suc i) h w = within_at ks i (omega arith) w.1

  module _ (ks : List KeptLink) (i : ℕ) (h : i < length ks) where
    here : drop i ks ≡ link_at ks i ∷ drop (suc i) ks
    here = drop-cons ks i (Position 0) h

    pub text_more : slots_text s (drop i ks) ≡ slots_text s (drop (suc i) ks) ++ slot_text s (link_at ks i)
    unfolding slots_text
    text_more = ap (slots_text s) here

    pub text_grows : length (slots_text s (drop i ks)) ≡ length (slots_text s (drop (suc i) ks)) + length (slot_text s (link_at ks i))
    text_grows = ap length text_more ∙ length-append (slots_text s (drop (suc i) ks)) (slot_text s (link_at ks i))

    half_more : slots_half s (drop i ks) ≡ or_slot s (slots_half s (drop (suc i) ks)) (link_at ks i)
    unfolding slots_half
    half_more = ap (slots_half s) here

    module _ (e : slots_half s (drop (suc i) ks) ≡ none) where
      pub half_here : slot_half s (link_at ks i) ≡ true → slots_half s (drop i ks) ≡ some (slot_quote s (link_at ks i))
      unfolding or_slot
      half_here f = half_more ∙ rw (e, f, or_slot)

      pub half_not_here : slot_half s (link_at ks i) ≡ false → slots_half s (drop i ks) ≡ none
      unfolding or_slot
      half_not_here f = half_more ∙ rw (e, f, or_slot)

  -- all links
  pub text_fits : (ks : List KeptLink) (i : ℕ) → length (slots_text s (drop i ks)) ≤ length (slots_text s ks)
  unfolding slots_text
  text_fits ks zero = omega arith
  text_fits [] (suc i) = omega arith
  text_fits (k ∷ ks) (suc i) = omega (arith, text_fits ks i, length-append (slots_text s ks) (slot_text s k))

  pub half_stays : (ks : List KeptLink) (i : ℕ) {q : ℕ} → slots_half s (drop i ks) ≡ some q → slots_half s ks ≡ some q
  unfolding slots_half or_slot
  half_stays ks zero e = e
  half_stays [] (suc i) e = e
  half_stays (k ∷ ks) (suc i) e = rw (half_stays ks i e) refl
