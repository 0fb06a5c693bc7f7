-- Parts of an escape at a place of a query: a byte that is dead there, one that leads on to the part behind it, and the last one.
-- Assumes nothing.
use mathlib.Core.Path.{◌≡◌, refl, sym, subst}
use mathlib.Core.List.{List, ◌∷◌}
use mathlib.Core.Bool.{Bool, true, false, false≢true, true≢false}
use Prim.Native.Nat.{ℕ, ◌+◌, ◌≤◌, ◌<◌}
use native.Mathlib.Omega.{arith}
use lib.Dec.{ltb}
use lib.ListN.{length, get_or, drop}
use borrow.Author.Tests.{ltb-true, ltb-false}
use Rattle.std.specs.Prelude.{None}
use Rattle.encoding.specs.BytesLaws.{byte_at_lem}
use Rattle.query.specs.Grammar.{Quote}
use Rattle.query.specs.Machine as M
use Rattle.query.specs.Machine.{Control, Due, in_escape, rules, step, final}
use Rattle.query.specs.Read.{bad, reading}
use Rattle.query.proofs.At.{end_at, stop_at, bad_at}
use Rattle.query_escapes.specs.Scans.{HexIs, Part}
use Rattle.query_escapes.specs.ScansLaws.{stayed, went_on, passed_on}
use Rattle.query_escapes.proofs.Digits.{Leads, all_hex, stop_hex}

-- a byte that is dead, also where the query ends
dead_at : (c : Control) (q : List ℕ) (i : ℕ) → final c ≡ false → step (M.at c) (get_or q i 0) ≡ M.dead → reading c i (drop i q) ≡ bad i
dead_at c q i f e = go (ltb i (length q)) refl
  where
    go : (x : Bool) → ltb i (length q) ≡ x → reading c i (drop i q) ≡ bad i
    go true z = stop_at c q i (ltb-true i (length q) z) e
    go false z = end_at c q i (ltb-false i (length q) z) f

-- what stands there with the byte b in front
abbrev pub Behind : ℕ → (List ℕ → List ℕ → Type 0) → List ℕ → List ℕ → Type 0
Behind b S rest s = S rest (b ∷ s)

module _ {S : List ℕ → List ℕ → Type 0} {d : Due} {q : List ℕ} {i : ℕ} where
  none_here : i ≤ length q → ((x : Quote) → reading (in_escape d x) i (drop i q) ≡ bad i) → Part S d q i false i
  none_here h f = record { moved = stayed h; stands = λ e. absurd (false≢true e); dead = λ e. f }

  pub refused : i ≤ length q → ((x : Quote) → step (M.at (in_escape d x)) (get_or q i 0) ≡ M.dead) → Part S d q i false i
  refused h f = none_here h (λ x. dead_at (in_escape d x) q i refl (f x))

  -- the query ends where the byte is due
  pub cut : i ≤ length q → length q ≤ i → Part S d q i false i
  cut h l = none_here h (λ x. end_at (in_escape d x) q i l refl)

  -- a digit is due, and none stands there
  pub no_digit : ((x : Quote) → all_hex (rules (in_escape d x)) ≡ true) → i ≤ length q → HexIs (get_or q i 0) None → Part S d q i false i
  no_digit t h s = refused h (stop_hex d t s)

  module _ (h : i < length q) {A : Type 0} {byte : A → ℕ} where
    pub passed : {d' : Due} {ok : Bool} {r : ℕ} → Leads byte d (in_escape d') (get_or q i 0) →
        (i + 1 ≤ length q → Part (Behind (get_or q i 0) S) d' q (i + 1) ok r) → Part S d q i ok r
    passed {d'} {ok} {r} l f =
        let p : Part (Behind (get_or q i 0) S) d' q (i + 1) ok r = f (omega arith) in
        record {
          moved = passed_on p.moved;
          stands = λ e. subst (S (drop r q)) (sym (byte_at_lem q i h)) (p.stands e);
          dead = λ e x. bad_at (in_escape d x) q i h (in_escape d' x) (l.on x) (p.dead e x);
        }

    pub ended : {k : Quote → Control} → Leads byte d k (get_or q i 0) → S (drop (i + 1) q) (get_or q i 0 ∷ drop (i + 1) q) → Part S d q i true (i + 1)
    ended l s = record {
      moved = went_on h;
      stands = λ e. subst (S (drop (i + 1) q)) (sym (byte_at_lem q i h)) s;
      dead = λ e. absurd (true≢false e);
    }

  -- what stands there is a part of something else
  pub as_part : {T : List ℕ → List ℕ → Type 0} {ok : Bool} {r : ℕ} → ((rest s : List ℕ) → T rest s → S rest s) → Part T d q i ok r → Part S d q i ok r
  as_part f p = record { moved = p.moved; stands = λ e. f _ _ (p.stands e); dead = p.dead }
