-- The laws of reading at a place of a query: the byte there leads on, or is dead, or the query ends.
-- Each is the law for a byte in front, with what stands at the place taken out of the query. Assumes nothing.
use Rattle.std.specs.Prelude.{◌≡◌, Bool, ℕ, suc, ◌+◌, ◌≤◌, ◌<◌, length, get_or, take, drop}
use Rattle.std.proofs.Math.Path.{ap}
use Rattle.std.proofs.Common.{sym, ◌∙◌, arith, take-append-drop, drop_of_length-le, length-take-le}
use mathlib.Core.List.{List, [], ◌∷◌, ◌++◌, append_cancel_right}
use Rattle.std.proofs.Math.Bool.{true, false}
use Rattle.std.proofs.lemmas.List.{drop-append-le}
use Rattle.std.proofs.Math.Seq.{slice}
use Rattle.encoding.specs.BytesLaws.{byte_at_lem}
use Rattle.query.specs.Machine.{Control, dead, at, step, final}
use Rattle.query.specs.Read.{keep, event, named, Reading, good, bad, note, reading}
use Rattle.query.proofs.Spell as S

-- what stands at a place

pub byte_is : (q : List ℕ) (i : ℕ) → i < length q → {b : ℕ} → get_or q i 0 ≡ b → drop i q ≡ b ∷ drop (i + 1) q
byte_is q i h e = byte_at_lem q i h ∙ ap (λ (x : ℕ). x ∷ drop (i + 1) q) e

-- bytes that stand before the query from r on are a part of it
pub written_slice : (q w : List ℕ) (n r : ℕ) → n ≤ r → r ≤ length q → w ++ drop r q ≡ drop n q → w ≡ slice n r q
written_slice q w n r l h e =
    append_cancel_right w (slice n r q) (drop r q)
    (e ∙ ap (drop n) (sym (take-append-drop r q)) ∙ drop-append-le n (take r q) (drop r q) (omega (arith, length-take-le r q h)))

-- how it is read

module _ (c : Control) (q : List ℕ) (i : ℕ) where
  -- the query ends
  pub end_at : length q ≤ i → final c ≡ false → reading c i (drop i q) ≡ bad i
  unfolding reading
  end_at h e = ap (reading c i) (drop_of_length-le q h) ∙ ap
      (λ (x : Bool). elim x as (λ _. Reading) [ true ↦ good (named [] []) | false ↦ bad i ]) e

  module _ (h : i < length q) where
    pub stop_at : step (at c) (get_or q i 0) ≡ dead → reading c i (drop i q) ≡ bad i
    stop_at e = ap (reading c i) (byte_at_lem q i h) ∙ S.stop c i (get_or q i 0) (drop (i + 1) q) e

    pub turn_at : (k : Control) → step (at c) (get_or q i 0) ≡ at k →
        reading c i (drop i q) ≡ note (event c k) i (get_or q i 0) (reading k (i + 1) (drop (i + 1) q))
    turn_at k e =
        ap (reading c i) (byte_at_lem q i h) ∙ S.turn c k i (get_or q i 0) (drop (i + 1) q) e ∙
        ap (note (event c k) i (get_or q i 0)) (S.moved k (suc i) (i + 1) (drop (i + 1) q) (omega arith))

    pub kept_at : (k : Control) → step (at c) (get_or q i 0) ≡ at k → event c k ≡ keep → reading c i (drop i q) ≡ reading k (i + 1) (drop (i + 1) q)
    kept_at k e f =
        ap (reading c i) (byte_at_lem q i h) ∙ S.kept c k i (get_or q i 0) (drop (i + 1) q) e f ∙ S.moved k (suc i) (i + 1) (drop (i + 1) q) (omega arith)

    -- a dead byte further on is dead for what stands before it
    pub bad_at : (k : Control) → step (at c) (get_or q i 0) ≡ at k → {p : ℕ} → reading k (i + 1) (drop (i + 1) q) ≡ bad p → reading c i (drop i q) ≡ bad p
    bad_at k e f = turn_at k e ∙ ap (note (event c k) i (get_or q i 0)) f
