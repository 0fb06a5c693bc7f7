-- The loops over the links, from the last one down: what is measured and written so far is that of the links behind. One link more is one
-- label more, so a turn keeps it, and at the first link it is the whole path. Assumes nothing.
use mathlib.Core.Path.{◌≡◌, sym, ap, ◌∙◌}
use mathlib.Core.List.{List, [], ◌∷◌, ◌++◌}
use mathlib.Core.Bool.{true, false}
use mathlib.Core.Option.{none}
use Prim.Native.Nat.{ℕ, suc, ◌+◌, ◌-◌, ◌*◌, ◌≤◌, ◌<◌}
use native.Mathlib.Nat.{add-zero}
use native.Mathlib.Omega.{arith}
use lib.ListN.{length, drop, length-append, drop_of_length-le}
use Rattle.encoding.specs.declared.refusals.Refusal.{Refusal}
use Rattle.text.specs.Put.{Room, Written}
use Rattle.text.specs.PutLaws.{put_none, put-length, room_first, room_after, written_both}
use Rattle.seek.specs.declared.keeper.KeptLink.{KeptLink}
use Rattle.path.specs.Measured.{max_label, LabelSized, LabelRefused, path_from, PathSized, PathRefused}
use Rattle.path.specs.Slots.{slot_text, slot_quote, slots_text, slots_half}
use Rattle.path.specs.SlotsLaws.{link_at, text_none, half_none, text_more, text_grows, half_here, half_not_here, text_fits, half_stays}

-- the links from number i on have been measured, and no name with half of a pair is among them
pub record MeasuredTo (s : List ℕ) (ks : List KeptLink) (i size : ℕ) : Type 0 where
  pub inside : i ≤ length ks
  pub whole : slots_half s (drop i ks) ≡ none
  pub sized : size ≡ length (path_from s (drop i ks))
  pub small : size ≤ 1 + (length ks - i) * max_label

module _ (s : List ℕ) (ks : List KeptLink) where
  nothing_behind : {i : ℕ} → length ks ≤ i → drop i ks ≡ []
  nothing_behind h = drop_of_length-le ks h

  pub measured_none : MeasuredTo s ks (length ks) 1
  measured_none =
      let e : drop (length ks) ks ≡ [] = nothing_behind (omega arith) in
      record {
        inside = omega arith;
        whole = rw e (half_none s);
        sized = rw (e, text_none s);
        small = omega arith;
      }

  -- at link number i - 1
  module _ {i : ℕ} (a : 1 ≤ i) (b : i ≤ length ks) where
    below : suc (i - 1) ≡ i
    below = omega arith

    next-length : length (slots_text s (drop (i - 1) ks)) ≡ length (slots_text s (drop i ks)) + length (slot_text s (link_at ks (i - 1)))
    next-length = rw below at (text_grows s ks (i - 1) (omega arith))

    -- measured
    pub measured_more : {n size : ℕ} → LabelSized s (link_at ks (i - 1)) n → MeasuredTo s ks i size → MeasuredTo s ks (i - 1) (size + n)
    measured_more {n} {size} m p =
        let behind : slots_half s (drop (suc (i - 1)) ks) ≡ none = rw below p.whole in
        record {
          inside = omega arith;
          whole = half_not_here s ks (i - 1) (omega arith) behind m.half_is;
          sized = omega (arith, next-length, m.size_is, p.sized);
          small = omega (arith, m.small, p.small);
        }

    pub measured_half : {e : Refusal} {size : ℕ} → LabelRefused s (link_at ks (i - 1)) e → MeasuredTo s ks i size → PathRefused s ks e
    measured_half m p =
        let behind : slots_half s (drop (suc (i - 1)) ks) ≡ none = rw below p.whole in
        record {
          place = slot_quote s (link_at ks (i - 1));
          half_at = half_stays s ks (i - 1) (half_here s ks (i - 1) (omega arith) behind m.half_is);
          is = m.is;
        }

    -- written
    module _ {at : ℕ} {before : List ℕ} (room : Room (slots_text s ks) at before) where
      next_text : slots_text s (drop (i - 1) ks) ≡ slots_text s (drop i ks) ++ slot_text s (link_at ks (i - 1))
      next_text = rw below at (text_more s ks (i - 1) (omega arith))

      next_room : Room (slots_text s (drop i ks) ++ slot_text s (link_at ks (i - 1))) at before
      next_room =
          record {
            fits = omega (arith, room.fits, text_fits s ks (i - 1), next-length, length-append (slots_text s (drop i ks)) (slot_text s (link_at ks (i - 1))));
          }

      module _ {now : List ℕ} {end : ℕ} (w : Written (slots_text s (drop i ks)) at before now end) where
        pub label_room : Room (slot_text s (link_at ks (i - 1))) end now
        label_room = room_after (slot_text s (link_at ks (i - 1))) w next_room

        pub written_more : {after : List ℕ} {next : ℕ} → Written (slot_text s (link_at ks (i - 1))) end now after next
            → Written (slots_text s (drop (i - 1) ks)) at before after next
        written_more v = rw next_text (written_both w v next_room)

  pub written_none : (at : ℕ) (before : List ℕ) → Written (slots_text s (drop (length ks) ks)) at before before at
  written_none at before =
      let e : drop (length ks) ks ≡ [] = nothing_behind (omega arith) in
      rw (e, text_none s) record { end_is = sym (add-zero at); after_is = sym (put_none at before) }

  -- at the first link
  pub measured_all : {i size : ℕ} → i ≤ 0 → MeasuredTo s ks i size → PathSized s ks size
  measured_all {i} h p = let z : i ≡ 0 = omega arith in record { whole = rw z at p.whole; sized = rw z at p.sized }

  -- behind the `$`
  module _ {before : List ℕ} (room : Room (path_from s ks) 0 before) where
    pub root_fits : Room (0x24 ∷ []) 0 before
    root_fits = room_first (0x24 ∷ []) (slots_text s ks) 0 before room

    module _ {m : List ℕ} {at : ℕ} (root : Written (0x24 ∷ []) 0 before m at) where
      pub labels_fit : Room (slots_text s ks) at m
      labels_fit = room_after (slots_text s ks) root room

      module _ {i : ℕ} {after : List ℕ} {end : ℕ} (z : i ≤ 0) (w : Written (slots_text s (drop i ks)) at m after end) where
        pub written_all : Written (path_from s ks) 0 before after end
        written_all = let e : i ≡ 0 = omega arith in written_both root (rw e at w) room

        pub length-kept : length after ≡ length before
        length-kept = ap length written_all.after_is ∙ put-length 0 before (path_from s ks) room
