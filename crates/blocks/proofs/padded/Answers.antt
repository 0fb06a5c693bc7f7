-- The copied bytes are those of the part, and zeros stand behind them, as they do behind the part. Assumes nothing.
use Rattle.std.proofs.Common.{◌≡◌, ℕ, ◌+◌, ◌-◌, ◌<◌, ◌≤◌, List, length, ◌++◌, drop, replicate, sym, ◌∙◌, ⊎_elim, arith, length-append, length-drop, get_or-drop}
use Rattle.std.proofs.Math.ListN.{length-replicate, get_or-replicate, get_or-append, get_or-eq_default}
use Rattle.std.proofs.Math.Seq.{get_or-append_right}
use Rattle.bits.specs.Laws.{lt_or_ge}
use Rattle.classifier.specs.Classes.{byte_at}
use Rattle.blocks.specs.Parts.{Padded}
use Rattle.blocks.proofs.padded.Goals as goal

abbrev zeros : List ℕ
zeros = replicate {A = ℕ} 64 0

with_zeros : (s d : List ℕ) → length s < 64 → d ≡ s → Padded s (d ++ drop (length s) zeros)
unfolding byte_at
with_zeros s d h e = rw e (record {
  long = simp (length-append, length-drop) (omega (arith, length-replicate {A = ℕ} 64 0));
  like = λ i l. ⊎_elim
      (λ (b : i < length s). get_or-append s (drop (length s) zeros) 0 i b)
      (λ (b : length s ≤ i).
      let z : length s + (i - length s) < 64 = omega arith in
      get_or-append_right s (drop (length s) zeros) i 0 b ∙ get_or-drop (length s) zeros (i - length s) 0
      ∙ get_or-replicate {A = ℕ} 64 (length s + (i - length s)) 0 0 z ∙ sym (get_or-eq_default s 0 b))
      (lt_or_ge i (length s));
})

pub returns : goal.returns
returns c = with_zeros c.args.rest.now c.copy_from_slice.new.self c.requires c.copy_from_slice.ensures.after
