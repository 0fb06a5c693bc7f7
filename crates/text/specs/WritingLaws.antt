-- A text written part by part: what stands in the buffer so far, and what is left of the text. Assumes nothing.
use Rattle.std.specs.Prelude.{◌≡◌, refl, List, [], ◌++◌, ℕ, length}
use Rattle.std.proofs.Common.{sym, ap, ◌∙◌, append_assoc, append-nil, add-zero}
use Rattle.text.specs.Put.{Room, Written}
use Rattle.text.specs.PutLaws.{put_none, put-length, room_first, room_after, written_both}

-- of the text that is put at a place, all but what is left stands there
pub record Writing (text : List ℕ) (at : ℕ) (before left now : List ℕ) (end : ℕ) : Type 0 where
  pub bytes : List ℕ
  pub written : Written bytes at before now end
  pub rest : text ≡ bytes ++ left

pub writing_start : (text : List ℕ) (at : ℕ) (before : List ℕ) → Writing text at before text before at
writing_start text at before =
    record { bytes = []; written = record { end_is = sym (add-zero at); after_is = sym (put_none at before) }; rest = refl }

module _ {text : List ℕ} {at : ℕ} {before left now : List ℕ} {end : ℕ} (v : Writing text at before left now end) where
  pub writing_end : left ≡ [] → Written text at before now end
  writing_end e = let all : text ≡ v.bytes = v.rest ∙ rw e (append-nil v.bytes) in rw all v.written

  module _ (room : Room text at before) where
    whole : Room (v.bytes ++ left) at before
    whole = rw v.rest at room

    pub writing_length : length now ≡ length before
    writing_length = rw v.written.after_is (put-length at before v.bytes (room_first v.bytes left at before whole))

    -- the next part
    module _ (part after : List ℕ) (e : left ≡ part ++ after) where
      pub writing_room : Room part end now
      writing_room = room_first part after end now (rw e at (room_after left v.written whole))

      pub writing_more : {new : List ℕ} {next : ℕ} → Written part end now new next → Writing text at before after new next
      writing_more w =
          let parts : text ≡ (v.bytes ++ part) ++ after
          = v.rest ∙ ap (λ (l : List ℕ). v.bytes ++ l) e ∙ sym (append_assoc v.bytes part after) in
          record {
            bytes = v.bytes ++ part;
            written = written_both v.written w (room_first (v.bytes ++ part) after at before (rw parts at room));
            rest = parts;
          }
