-- Links that are those of a trail, the last one first, are written as the trail's path, and have the trail's first name with half of a
-- surrogate pair. Link by link: a name's bytes, once decoded and escaped, are its code points as a path has them. Assumes nothing.
use Rattle.std.specs.Prelude.{◌≡◌, true, false, ℕ, ◌-◌}
use Rattle.std.proofs.Math.Path.{refl, sym, ap}
use Rattle.std.proofs.Common.{◌∙◌}
use mathlib.Core.List.{List, [], ◌∷◌, ◌++◌, map, reverse, append-nil, append_assoc, reverse-cons, map-append}
use Rattle.std.proofs.Math.Option.{Option, some, none}
use Rattle.encoding.specs.Unescape.{unescaped}
use Rattle.json_text.specs.Grammar.{Char, put_chars}
use Rattle.json_text.specs.Points.{points_of}
use Rattle.select.specs.Nodes.{Label}
use Rattle.text.specs.Decimal.{decimal}
use Rattle.paths.specs.Answer.{or_half, first_half, path_of}
use Rattle.paths.specs.Rendered.{put_name, put_label, put_labels, path_text}
use Rattle.paths.specs.Trails.{Link, link_label, Trail}
use Rattle.path_names.specs.Escaped.{put_escaped}
use Rattle.path_names.specs.EscapedLaws.{chars_written, escaped-append, chars_half}
use Rattle.seek.specs.declared.keeper.KeptLink.{KeptLink}
use Rattle.seek.specs.Keeps.{Slot, name, position}
use Rattle.trace.specs.Slots as held
use Rattle.trace.specs.Slots.{HoldsTrail, more}
use Rattle.path.specs.Slots.{slot_text, slot_half, slot_quote, SlotWithin, slots_text, or_slot, slots_half, SlotsWithin}
use Rattle.path.specs.Measured.{path_from}

-- a label after others
put_labels_last : (ls : List Label) (l : Label) (r : List ℕ) → put_labels (ls ++ (l ∷ [])) r ≡ put_labels ls (put_label l r)
unfolding put_labels
put_labels_last [] l r = refl
put_labels_last (k ∷ ls) l r = ap (put_label k) (put_labels_last ls l r)

-- a name's bytes, decoded and escaped
escaped_name : (cs : List Char) (r : List ℕ) → put_escaped (unescaped (put_chars cs [])) [] ++ r ≡ put_name (points_of cs) r
escaped_name cs r = sym (escaped-append (unescaped (put_chars cs [])) r) ∙ chars_written cs r

module _ {s : List ℕ} where
  -- a link is written as its label
  slot_text_lem : {k : KeptLink} {l : Link} (r : List ℕ) → Slot s k l → slot_text s k ++ r ≡ put_label (link_label l) r
  unfolding slot_text put_label link_label
  slot_text_lem r (name {x} {y} cs a b c e) =
      rw (e, append_assoc (put_escaped (unescaped (put_chars cs [])) []), escaped_name cs (0x27 ∷ 0x5D ∷ r))
  slot_text_lem r (position {j}) = rw (append_assoc (decimal j))

  -- and has half of a pair where the link's name has
  slot_half_lem : {k : KeptLink} {l : Link} → Slot s k l → elim (slot_half s k) [ true ↦ some (slot_quote s k) | false ↦ none ] ≡ or_half none l
  unfolding slot_half or_half
  slot_half_lem (name {x} {y} cs a b c e) = rw (e, chars_half cs)
  slot_half_lem (position {j}) = refl

  -- and its name stands in the record
  slot_within : {k : KeptLink} {l : Link} → Slot s k l → SlotWithin s k
  slot_within (name cs a b c e) = (a, b, c)
  slot_within position = tt

  -- links that are those of a trail
  holds_text : {ks : List KeptLink} {u : Trail} (r : List ℕ) → HoldsTrail s ks u → slots_text s ks ++ r ≡ put_labels (map link_label (reverse u)) r
  unfolding slots_text put_labels
  holds_text r held.none = refl
  holds_text r (more {kept} {slots = ks} {l} {u} h g) =
      append_assoc (slots_text s ks) (slot_text s kept) r
      ∙ ap (λ (t : List ℕ). slots_text s ks ++ t) (slot_text_lem r h)
      ∙ holds_text (put_label (link_label l) r) g
      ∙ sym (put_labels_last (map link_label (reverse u)) (link_label l) r)
      ∙ ap (λ (ls : List Label). put_labels ls r) (sym (map-append link_label (reverse u) (l ∷ [])) ∙ ap (map link_label) (sym (reverse-cons l u)))

  pub held_half : {ks : List KeptLink} {u : Trail} → HoldsTrail s ks u → slots_half s ks ≡ first_half u
  unfolding slots_half or_slot first_half or_half
  held_half held.none = refl
  held_half (more {kept} {slots = ks} {l} {u} h g) = rw (held_half g) (go (first_half u))
    where
      go : (x : Option ℕ) → or_slot s x kept ≡ or_half x l
      go (some q) = refl
      go none = slot_half_lem h

  pub held_within : {ks : List KeptLink} {u : Trail} → HoldsTrail s ks u → SlotsWithin s ks
  held_within held.none = tt
  held_within (more h g) = (slot_within h, held_within g)

  pub held_text : {ks : List KeptLink} {u : Trail} → HoldsTrail s ks u → path_from s ks ≡ path_of u
  unfolding path_of path_text
  held_text {ks} h = ap (λ (t : List ℕ). 0x24 ∷ t) (sym (append-nil (slots_text s ks)) ∙ holds_text [] h)
